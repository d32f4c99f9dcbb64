-- What each node of a module adds to the texts that run, by its parts.
use Rattle.std.specs.Prelude.{◌≡◌, List, [], ◌∷◌, map, refl}
use Rattle.std.proofs.Common.{ap, sym, ◌∙◌}
use Rattle.mc_tree.specs.declared.tree.Id.{Id}
use Rattle.mc_tree.specs.declared.tree.Module.{Module}
use Rattle.mc_tree.specs.declared.tree.PlainPart.{PlainPart}
use Rattle.mc_tree.specs.declared.tree.Plain.{Plain}
use Rattle.mc_tree.specs.declared.tree.PlainModule.{PlainModule}
use Rattle.mc_tree.specs.declared.tree.InterfaceModule.{InterfaceModule}
use Rattle.mc_tree.specs.declared.tree.DeviceModule.{DeviceModule}
use Rattle.mc_tree.specs.declared.tree.Decl.{Decl}
use Rattle.mc_tree.specs.declared.tree.Procedure.{Procedure}
use Rattle.mc_tree.specs.declared.tree.Process.{Process}
use Rattle.mc_tree.specs.declared.tree.Module.TheVariants as module_of
use Rattle.mc_tree.specs.declared.tree.PlainPart.TheVariants as part_of
use Rattle.mc_tree.specs.declared.tree.Module.TheOpen.{Module-F, PlainPart-F}
use Rattle.mc_tree.specs.declared.tree.Module.TheFolds.{fold-roll-Module, fold-roll-PlainPart, fold_out-Plain, fold_out-PlainModule}
use Rattle.mc_tree.specs.declared.tree.Module.TheViews.{out-Plain, out-PlainModule}
use Rattle.mc_prog.specs.Pieces.{Gather, Gathered, each, in_module}
use Rattle.mc_prog.specs.TextPieces.{Block, begun, code, interface_module, device_module, module_, plain_part, plain, plain_module, part_itself, module__step, plain_part_step, plain_step, plain_module_step}

each-parts : {A : Type 0} (f : A → Gather) (xs : List A) (g : Gathered) → each part_itself (map f xs) g ≡ each f xs g
each-parts f [] g = refl
each-parts f (x ∷ xs) g = each-parts f xs (f x g)

pub plain_module-is : (x : PlainModule) (g : Gathered) → plain_module x g ≡ in_module (out-PlainModule x).name.place (plain (out-PlainModule x).block (out-PlainModule x).name) g
unfolding plain_module plain
plain_module-is x g = ap (λ (w : Gather). w g) (fold_out-PlainModule Gather Gather Block Gather module__step plain_part_step plain_step plain_module_step x)

pub plain-is : (x : Plain) (name : Id) (g : Gathered) → plain x name g ≡ begun name (out-Plain x).body (each plain_part (out-Plain x).parts g)
unfolding plain plain_part
plain-is x name g = ap (λ (w : Block). w name g) (fold_out-Plain Gather Gather Block Gather module__step plain_part_step plain_step plain_module_step x) ∙ ap (λ (z : Gathered). begun name (out-Plain x).body z) (each-parts plain_part (out-Plain x).parts g)

pub plain_in-is : (m : PlainModule) (g : Gathered) → module_ (module_of.Plain m) g ≡ plain_module m g
unfolding module_ plain_module
plain_in-is m g = ap (λ (y : Module). module_ y g) (sym (module_of.rolls-Plain m)) ∙ ap (λ (w : Gather). w g) (fold-roll-Module Gather Gather Block Gather module__step plain_part_step plain_step plain_module_step (Module-F.Plain m))

pub interface_in-is : (m : InterfaceModule) (g : Gathered) → module_ (module_of.Interface m) g ≡ interface_module m g
unfolding module_
interface_in-is m g = ap (λ (y : Module). module_ y g) (sym (module_of.rolls-Interface m)) ∙ ap (λ (w : Gather). w g) (fold-roll-Module Gather Gather Block Gather module__step plain_part_step plain_step plain_module_step (Module-F.Interface m))

pub device_in-is : (m : DeviceModule) (g : Gathered) → module_ (module_of.Device m) g ≡ device_module m g
unfolding module_
device_in-is m g = ap (λ (y : Module). module_ y g) (sym (module_of.rolls-Device m)) ∙ ap (λ (w : Gather). w g) (fold-roll-Module Gather Gather Block Gather module__step plain_part_step plain_step plain_module_step (Module-F.Device m))

pub decl_part-is : (x : Decl) (g : Gathered) → plain_part (part_of.Decl x) g ≡ g
unfolding plain_part
decl_part-is x g = ap (λ (y : PlainPart). plain_part y g) (sym (part_of.rolls-Decl x)) ∙ ap (λ (w : Gather). w g) (fold-roll-PlainPart Gather Gather Block Gather module__step plain_part_step plain_step plain_module_step (PlainPart-F.Decl x))

pub procedure_part-is : (x : Procedure) (g : Gathered) → plain_part (part_of.Procedure x) g ≡ code x.name x.local g
unfolding plain_part
procedure_part-is x g = ap (λ (y : PlainPart). plain_part y g) (sym (part_of.rolls-Procedure x)) ∙ ap (λ (w : Gather). w g) (fold-roll-PlainPart Gather Gather Block Gather module__step plain_part_step plain_step plain_module_step (PlainPart-F.Procedure x))

pub process_part-is : (x : Process) (g : Gathered) → plain_part (part_of.Process x) g ≡ code x.name x.local g
unfolding plain_part
process_part-is x g = ap (λ (y : PlainPart). plain_part y g) (sym (part_of.rolls-Process x)) ∙ ap (λ (w : Gather). w g) (fold-roll-PlainPart Gather Gather Block Gather module__step plain_part_step plain_step plain_module_step (PlainPart-F.Process x))

pub module_part-is : (x : Module) (g : Gathered) → plain_part (part_of.Module x) g ≡ module_ x g
unfolding plain_part module_
module_part-is x g = ap (λ (y : PlainPart). plain_part y g) (sym (part_of.rolls-Module x)) ∙ ap (λ (w : Gather). w g) (fold-roll-PlainPart Gather Gather Block Gather module__step plain_part_step plain_step plain_module_step (PlainPart-F.Module x))

pub ruleset text_laws = (plain_module-is, plain-is, plain_in-is, interface_in-is, device_in-is, decl_part-is, procedure_part-is, process_part-is, module_part-is)
