-- What each module and each block of a plain module writes, by its parts.
use Rattle.std.specs.Prelude.{◌≡◌, ℕ, suc, List, Option}
use Rattle.std.proofs.Common.{ap, ◌∙◌}
use Rattle.mc_tree.specs.declared.place.Place.{Place}
use Rattle.mc_tree.specs.declared.token.Kind.TheVariants.{Reserved as ReservedKind}
use Rattle.mc_tree.specs.declared.tree.Id.{Id}
use Rattle.mc_tree.specs.declared.token.Reserved.TheVariants.{EndWord, ModuleWord}
use Rattle.mc_tree.specs.declared.token.Symbol.TheVariants.{Semicolon}
use Rattle.mc_tree.specs.declared.tree.Begun.{Begun}
use Rattle.mc_tree.specs.declared.tree.Lists.{Lists}
use Rattle.mc_tree.specs.declared.tree.InterfaceModule.{InterfaceModule}
use Rattle.mc_tree.specs.declared.tree.DeviceModule.{DeviceModule}
use Rattle.mc_tree.specs.declared.tree.Decl.{Decl}
use Rattle.mc_tree.specs.declared.tree.Procedure.{Procedure}
use Rattle.mc_tree.specs.declared.tree.Process.{Process}
use Rattle.mc_tree.specs.declared.tree.Module.{Module}
use Rattle.mc_tree.specs.declared.tree.PlainPart.{PlainPart}
use Rattle.mc_tree.specs.declared.tree.Plain.{Plain}
use Rattle.mc_tree.specs.declared.tree.PlainModule.{PlainModule}
use Rattle.mc_tree.specs.declared.tree.Module.TheOpen.{Module-F, PlainPart-F}
use Rattle.mc_tree.specs.declared.tree.Module.TheFolds.{fold-roll-Module, fold-roll-PlainPart, fold-roll-Plain, fold-roll-PlainModule}
use Rattle.mc_tree.specs.declared.tree.Module.TheViews.{roll-Module, roll-PlainPart, roll-Plain, roll-PlainModule}
use Rattle.mc_tree.specs.Leaves.{Leaf, Writes, begin, word, mark, name, each, maybe}
use Rattle.mc_tree.specs.ExpressionLaws.{each-map}
use Rattle.mc_tree.specs.Declarations.{declaration, procedure, process}
use Rattle.mc_tree.specs.Trees.{begun, lists, interface_module, device_module, module_, plain_part, plain, plain_module, module__step, plain_part_step, plain_step, plain_module_step}

pub plain_module_-is : (m : PlainModule) (d : ℕ) (rest : List Leaf)
    → module_ (roll-Module (Module-F.Plain m)) d rest ≡ plain_module m d rest
unfolding module_ plain_module
plain_module_-is m d rest = ap (λ (w : Writes). w d rest) (fold-roll-Module Writes Writes Writes Writes module__step plain_part_step plain_step plain_module_step (Module-F.Plain m))

pub interface_module-is : (m : InterfaceModule) (d : ℕ) (rest : List Leaf)
    → module_ (roll-Module (Module-F.Interface m)) d rest ≡ interface_module m d rest
unfolding module_
interface_module-is m d rest = ap (λ (w : Writes). w d rest) (fold-roll-Module Writes Writes Writes Writes module__step plain_part_step plain_step plain_module_step (Module-F.Interface m))

pub device_module-is : (m : DeviceModule) (d : ℕ) (rest : List Leaf)
    → module_ (roll-Module (Module-F.Device m)) d rest ≡ device_module m d rest
unfolding module_
device_module-is m d rest = ap (λ (w : Writes). w d rest) (fold-roll-Module Writes Writes Writes Writes module__step plain_part_step plain_step plain_module_step (Module-F.Device m))

pub plain_module-is : (place : Place) (id : Id) (semicolon : Place) (lists_ : Lists) (block : Plain) (end : Place) (end_name : Id) (end_semicolon : Place) (d : ℕ) (rest : List Leaf)
    → plain_module (roll-PlainModule (record { module_word = place; name = id; semicolon = semicolon; lists = lists_; block = block; end = end; end_name = end_name; end_semicolon = end_semicolon })) d rest ≡ begin (suc d) (ReservedKind ModuleWord) place (name id (mark Semicolon semicolon (lists lists_ (suc d) (plain block (suc d) (word EndWord end (name end_name (mark Semicolon end_semicolon rest)))))))
unfolding plain plain_module
plain_module-is place id semicolon lists_ block end end_name end_semicolon d rest = ap (λ (w : Writes). w d rest) (fold-roll-PlainModule Writes Writes Writes Writes module__step plain_part_step plain_step plain_module_step (record { module_word = place; name = id; semicolon = semicolon; lists = lists_; block = block; end = end; end_name = end_name; end_semicolon = end_semicolon }))

pub declared-is : (x : Decl) (d : ℕ) (rest : List Leaf)
    → plain_part (roll-PlainPart (PlainPart-F.Decl x)) d rest ≡ declaration x d rest
unfolding plain_part
declared-is x d rest = ap (λ (w : Writes). w d rest) (fold-roll-PlainPart Writes Writes Writes Writes module__step plain_part_step plain_step plain_module_step (PlainPart-F.Decl x))

pub procedure-is : (x : Procedure) (d : ℕ) (rest : List Leaf)
    → plain_part (roll-PlainPart (PlainPart-F.Procedure x)) d rest ≡ procedure x d rest
unfolding plain_part
procedure-is x d rest = ap (λ (w : Writes). w d rest) (fold-roll-PlainPart Writes Writes Writes Writes module__step plain_part_step plain_step plain_module_step (PlainPart-F.Procedure x))

pub process-is : (x : Process) (d : ℕ) (rest : List Leaf)
    → plain_part (roll-PlainPart (PlainPart-F.Process x)) d rest ≡ process x d rest
unfolding plain_part
process-is x d rest = ap (λ (w : Writes). w d rest) (fold-roll-PlainPart Writes Writes Writes Writes module__step plain_part_step plain_step plain_module_step (PlainPart-F.Process x))

pub inner_module-is : (x : Module) (d : ℕ) (rest : List Leaf)
    → plain_part (roll-PlainPart (PlainPart-F.Module x)) d rest ≡ module_ x d rest
unfolding module_ plain_part
inner_module-is x d rest = ap (λ (w : Writes). w d rest) (fold-roll-PlainPart Writes Writes Writes Writes module__step plain_part_step plain_step plain_module_step (PlainPart-F.Module x))

pub plain-is : (parts : List PlainPart) (inner : Option Begun) (d : ℕ) (rest : List Leaf)
    → plain (roll-Plain (record { parts = parts; body = inner })) d rest ≡ (each plain_part parts d (maybe begun inner d rest))
unfolding plain plain_part
plain-is parts inner d rest = ap (λ (w : Writes). w d rest) (fold-roll-Plain Writes Writes Writes Writes module__step plain_part_step plain_step plain_module_step (record { parts = parts; body = inner })) ∙ ap (λ (z : List Leaf). (z)) (each-map plain_part parts d (maybe begun inner d rest))
