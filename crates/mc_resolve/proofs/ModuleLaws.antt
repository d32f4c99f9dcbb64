-- What each node of a module does to names, by its parts.
use Rattle.std.specs.Prelude.{◌≡◌, List, ◌∷◌, map}
use Rattle.std.proofs.Common.{ap, sym, ◌∙◌}
use Rattle.mc_tree.specs.declared.tree.Module.{Module}
use Rattle.mc_tree.specs.declared.tree.PlainPart.{PlainPart}
use Rattle.mc_tree.specs.declared.tree.Plain.{Plain}
use Rattle.mc_tree.specs.declared.tree.PlainModule.{PlainModule}
use Rattle.mc_tree.specs.declared.tree.InterfaceModule.{InterfaceModule}
use Rattle.mc_tree.specs.declared.tree.DeviceModule.{DeviceModule}
use Rattle.mc_tree.specs.declared.tree.Decl.{Decl}
use Rattle.mc_tree.specs.declared.tree.Procedure.{Procedure}
use Rattle.mc_tree.specs.declared.tree.Process.{Process}
use Rattle.mc_tree.specs.declared.tree.Module.TheVariants as module_of
use Rattle.mc_tree.specs.declared.tree.PlainPart.TheVariants as part_of
use Rattle.mc_tree.specs.declared.tree.Module.TheOpen.{Module-F, PlainPart-F}
use Rattle.mc_tree.specs.declared.tree.Module.TheFolds.{fold-roll-Module, fold-roll-PlainPart, fold_out-Plain, fold_out-PlainModule}
use Rattle.mc_tree.specs.declared.tree.Module.TheViews.{out-Plain, out-PlainModule}
use Rattle.mc_prog.specs.Notes.{Notes, Item, Block, Opens, Closes, Declares, Knows, Ends, each, maybe}
use Rattle.mc_prog.specs.DeclarationNames.{declaration, procedure, process}
use Rattle.mc_prog.specs.Names.{PartNames, begun, used, defined, interface_module, device_module, module_, plain_part, plain, plain_module, part_ahead, part_own, module__step, plain_part_step, plain_step, plain_module_step}
use Rattle.mc_resolve.proofs.PartLaws.{each-map_by}

pub plain_module-is : (x : PlainModule) (rest : List Item) → plain_module x rest ≡ Declares (out-PlainModule x).name ∷ Opens Block ∷ maybe used (out-PlainModule x).lists.use_ (plain (out-PlainModule x).block (maybe defined (out-PlainModule x).lists.define (Closes ∷ Ends (out-PlainModule x).name (out-PlainModule x).end_name ∷ rest)))
unfolding plain_module plain
plain_module-is x rest = ap (λ (w : Notes). w rest) (fold_out-PlainModule Notes PartNames Notes Notes module__step plain_part_step plain_step plain_module_step x)

pub plain-is : (x : Plain) (rest : List Item) → plain x rest ≡ each (λ p. part_ahead (plain_part p)) (out-Plain x).parts (each (λ p. part_own (plain_part p)) (out-Plain x).parts (maybe begun (out-Plain x).body rest))
unfolding plain plain_part
plain-is x rest = ap (λ (w : Notes). w rest) (fold_out-Plain Notes PartNames Notes Notes module__step plain_part_step plain_step plain_module_step x) ∙ each-map_by part_ahead plain_part (out-Plain x).parts (each part_own (map plain_part (out-Plain x).parts) (maybe begun (out-Plain x).body rest)) ∙ ap (each (λ p. part_ahead (plain_part p)) (out-Plain x).parts) (each-map_by part_own plain_part (out-Plain x).parts (maybe begun (out-Plain x).body rest))

pub plain_in-is : (m : PlainModule) (rest : List Item) → module_ (module_of.Plain m) rest ≡ plain_module m rest
unfolding module_ plain_module
plain_in-is m rest = ap (λ (y : Module). module_ y rest) (sym (module_of.rolls-Plain m)) ∙ ap (λ (w : Notes). w rest) (fold-roll-Module Notes PartNames Notes Notes module__step plain_part_step plain_step plain_module_step (Module-F.Plain m))

pub interface_in-is : (m : InterfaceModule) (rest : List Item) → module_ (module_of.Interface m) rest ≡ interface_module m rest
unfolding module_
interface_in-is m rest = ap (λ (y : Module). module_ y rest) (sym (module_of.rolls-Interface m)) ∙ ap (λ (w : Notes). w rest) (fold-roll-Module Notes PartNames Notes Notes module__step plain_part_step plain_step plain_module_step (Module-F.Interface m))

pub device_in-is : (m : DeviceModule) (rest : List Item) → module_ (module_of.Device m) rest ≡ device_module m rest
unfolding module_
device_in-is m rest = ap (λ (y : Module). module_ y rest) (sym (module_of.rolls-Device m)) ∙ ap (λ (w : Notes). w rest) (fold-roll-Module Notes PartNames Notes Notes module__step plain_part_step plain_step plain_module_step (Module-F.Device m))

pub decl_ahead-is : (x : Decl) (rest : List Item) → part_ahead (plain_part (part_of.Decl x)) rest ≡ rest
unfolding plain_part
decl_ahead-is x rest = ap (λ (y : PlainPart). part_ahead (plain_part y) rest) (sym (part_of.rolls-Decl x)) ∙ ap (λ (p : PartNames). part_ahead p rest) (fold-roll-PlainPart Notes PartNames Notes Notes module__step plain_part_step plain_step plain_module_step (PlainPart-F.Decl x))

pub decl_own-is : (x : Decl) (rest : List Item) → part_own (plain_part (part_of.Decl x)) rest ≡ declaration x rest
unfolding plain_part
decl_own-is x rest = ap (λ (y : PlainPart). part_own (plain_part y) rest) (sym (part_of.rolls-Decl x)) ∙ ap (λ (p : PartNames). part_own p rest) (fold-roll-PlainPart Notes PartNames Notes Notes module__step plain_part_step plain_step plain_module_step (PlainPart-F.Decl x))

pub procedure_ahead-is : (x : Procedure) (rest : List Item) → part_ahead (plain_part (part_of.Procedure x)) rest ≡ Knows x.name ∷ rest
unfolding plain_part
procedure_ahead-is x rest = ap (λ (y : PlainPart). part_ahead (plain_part y) rest) (sym (part_of.rolls-Procedure x)) ∙ ap (λ (p : PartNames). part_ahead p rest) (fold-roll-PlainPart Notes PartNames Notes Notes module__step plain_part_step plain_step plain_module_step (PlainPart-F.Procedure x))

pub procedure_own-is : (x : Procedure) (rest : List Item) → part_own (plain_part (part_of.Procedure x)) rest ≡ procedure x rest
unfolding plain_part
procedure_own-is x rest = ap (λ (y : PlainPart). part_own (plain_part y) rest) (sym (part_of.rolls-Procedure x)) ∙ ap (λ (p : PartNames). part_own p rest) (fold-roll-PlainPart Notes PartNames Notes Notes module__step plain_part_step plain_step plain_module_step (PlainPart-F.Procedure x))

pub process_ahead-is : (x : Process) (rest : List Item) → part_ahead (plain_part (part_of.Process x)) rest ≡ Knows x.name ∷ rest
unfolding plain_part
process_ahead-is x rest = ap (λ (y : PlainPart). part_ahead (plain_part y) rest) (sym (part_of.rolls-Process x)) ∙ ap (λ (p : PartNames). part_ahead p rest) (fold-roll-PlainPart Notes PartNames Notes Notes module__step plain_part_step plain_step plain_module_step (PlainPart-F.Process x))

pub process_own-is : (x : Process) (rest : List Item) → part_own (plain_part (part_of.Process x)) rest ≡ process x rest
unfolding plain_part
process_own-is x rest = ap (λ (y : PlainPart). part_own (plain_part y) rest) (sym (part_of.rolls-Process x)) ∙ ap (λ (p : PartNames). part_own p rest) (fold-roll-PlainPart Notes PartNames Notes Notes module__step plain_part_step plain_step plain_module_step (PlainPart-F.Process x))

pub module_ahead-is : (x : Module) (rest : List Item) → part_ahead (plain_part (part_of.Module x)) rest ≡ rest
unfolding plain_part
module_ahead-is x rest = ap (λ (y : PlainPart). part_ahead (plain_part y) rest) (sym (part_of.rolls-Module x)) ∙ ap (λ (p : PartNames). part_ahead p rest) (fold-roll-PlainPart Notes PartNames Notes Notes module__step plain_part_step plain_step plain_module_step (PlainPart-F.Module x))

pub module_own-is : (x : Module) (rest : List Item) → part_own (plain_part (part_of.Module x)) rest ≡ module_ x rest
unfolding plain_part module_
module_own-is x rest = ap (λ (y : PlainPart). part_own (plain_part y) rest) (sym (part_of.rolls-Module x)) ∙ ap (λ (p : PartNames). part_own p rest) (fold-roll-PlainPart Notes PartNames Notes Notes module__step plain_part_step plain_step plain_module_step (PlainPart-F.Module x))

pub ruleset module_laws = (plain_module-is, plain-is, plain_in-is, interface_in-is, device_in-is, decl_ahead-is, decl_own-is, procedure_ahead-is, procedure_own-is, process_ahead-is, process_own-is, module_ahead-is, module_own-is)
