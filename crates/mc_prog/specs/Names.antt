-- The names of a whole tree, in the order in which they come to be known.
use Rattle.std.specs.Prelude.{List, [], ◌∷◌}
use Rattle.mc_tree.specs.declared.tree.Module.{Module}
use Rattle.mc_tree.specs.declared.tree.PlainPart.{PlainPart}
use Rattle.mc_tree.specs.declared.tree.Plain.{Plain}
use Rattle.mc_tree.specs.declared.tree.PlainModule.{PlainModule}
use Rattle.mc_tree.specs.declared.tree.Begun.{Begun}
use Rattle.mc_tree.specs.declared.tree.NameList.{NameList}
use Rattle.mc_tree.specs.declared.tree.Face.{Face}
use Rattle.mc_tree.specs.declared.tree.FacePart.{FacePart}
use Rattle.mc_tree.specs.declared.tree.Device.{Device}
use Rattle.mc_tree.specs.declared.tree.DevicePart.{DevicePart}
use Rattle.mc_tree.specs.declared.tree.InterfaceModule.{InterfaceModule}
use Rattle.mc_tree.specs.declared.tree.DeviceModule.{DeviceModule}
use Rattle.mc_tree.specs.declared.tree.Tree.{Tree}
use Rattle.mc_tree.specs.declared.tree.FacePart.TheVariants as face_part
use Rattle.mc_tree.specs.declared.tree.DevicePart.TheVariants as device_part
use Rattle.mc_tree.specs.declared.tree.Tree.TheVariants as tree
use Rattle.mc_tree.specs.declared.tree.Module.TheOpen.{Module-F, PlainPart-F, Plain-F, PlainModule-F}
use Rattle.mc_tree.specs.declared.tree.Module.TheFolds.{fold-Module, fold-PlainPart, fold-Plain, fold-PlainModule}
use Rattle.mc_prog.specs.Notes.{Notes, Item, Block, Opens, Closes, Declares, Knows, Lists, Defines, Ends, each, maybe, ids}
use Rattle.mc_prog.specs.StatementNames.{body}
use Rattle.mc_prog.specs.DeclarationNames.{bracket, declaration, procedure, process, driver}

abbrev pub begun : Begun → Notes
begun b rest = body b.body rest

-- The use list of a module stands first in it, since its names are known in the whole of the module.
abbrev pub used : NameList → Notes
used l rest = ids Lists l.names rest

-- The define list of a module acts at its end.
abbrev pub defined : NameList → Notes
defined l rest = ids Defines l.names rest

-- Procedures and processes are known in the whole of their block: their names stand in front of its parts.
abbrev pub face_ahead : FacePart → Notes
face_ahead (face_part.Decl x) rest = rest
face_ahead (face_part.Procedure x) rest = Knows x.name ∷ rest

abbrev pub face_one : FacePart → Notes
face_one (face_part.Decl x) rest = declaration x rest
face_one (face_part.Procedure x) rest = procedure x rest

abbrev pub face_block : Face → Notes
face_block f rest = each face_one f.parts (maybe begun f.body rest)

abbrev pub device_ahead : DevicePart → Notes
device_ahead (device_part.Decl x) rest = rest
device_ahead (device_part.Procedure x) rest = Knows x.name ∷ rest
device_ahead (device_part.Driver x) rest = Knows x.name ∷ rest

abbrev pub device_one : DevicePart → Notes
device_one (device_part.Decl x) rest = declaration x rest
device_one (device_part.Procedure x) rest = procedure x rest
device_one (device_part.Driver x) rest = driver x rest

abbrev pub device_block : Device → Notes
device_block f rest = each device_one f.parts (maybe begun f.body rest)

-- The name of a module is declared in the block around it.
abbrev pub interface_module : InterfaceModule → Notes
interface_module m rest =
    Declares m.name ∷ Opens Block ∷ maybe used m.lists.use_ (each face_ahead m.block.parts (face_block m.block (maybe defined m.lists.define (Closes ∷ Ends m.name m.end_name ∷ rest))))

-- The bracket of a device module stands in its block.
abbrev pub device_module : DeviceModule → Notes
device_module m rest =
    Declares m.name ∷ Opens Block ∷ maybe used m.lists.use_ (each device_ahead m.block.parts (bracket m.bracket (device_block m.block (maybe defined m.lists.define (Closes ∷ Ends m.name m.end_name ∷ rest)))))

-- What a part of a plain block does in front of the block's parts, and where it stands.
pub record PartNames : Type 0 where
  pub ahead : Notes
  pub own : Notes

abbrev pub ModuleLayer : Type 0
ModuleLayer = Module-F Notes PartNames Notes Notes

abbrev pub PlainPartLayer : Type 0
PlainPartLayer = PlainPart-F Notes PartNames Notes Notes

abbrev pub PlainLayer : Type 0
PlainLayer = Plain-F Notes PartNames Notes Notes

abbrev pub PlainModuleLayer : Type 0
PlainModuleLayer = PlainModule-F Notes PartNames Notes Notes

abbrev pub plain_module_step : PlainModuleLayer → Notes
plain_module_step m rest =
    Declares m.name ∷ Opens Block ∷ maybe used m.lists.use_ (m.block (maybe defined m.lists.define (Closes ∷ Ends m.name m.end_name ∷ rest)))

abbrev pub module__step : ModuleLayer → Notes
module__step (Module-F.Plain m) rest = m rest
module__step (Module-F.Interface m) rest = interface_module m rest
module__step (Module-F.Device m) rest = device_module m rest

abbrev pub plain_part_step : PlainPartLayer → PartNames
plain_part_step (PlainPart-F.Decl x) = record { ahead = λ rest. rest; own = declaration x }
plain_part_step (PlainPart-F.Procedure x) = record { ahead = λ rest. Knows x.name ∷ rest; own = procedure x }
plain_part_step (PlainPart-F.Process x) = record { ahead = λ rest. Knows x.name ∷ rest; own = process x }
plain_part_step (PlainPart-F.Module x) = record { ahead = λ rest. rest; own = x }

abbrev pub part_ahead : PartNames → Notes
part_ahead p rest = p.ahead rest

abbrev pub part_own : PartNames → Notes
part_own p rest = p.own rest

abbrev pub plain_step : PlainLayer → Notes
plain_step f rest = each part_ahead f.parts (each part_own f.parts (maybe begun f.body rest))

unfoldable pub module_ : Module → Notes
module_ = fold-Module Notes PartNames Notes Notes module__step plain_part_step plain_step plain_module_step

unfoldable pub plain_part : PlainPart → PartNames
plain_part = fold-PlainPart Notes PartNames Notes Notes module__step plain_part_step plain_step plain_module_step

unfoldable pub plain : Plain → Notes
plain = fold-Plain Notes PartNames Notes Notes module__step plain_part_step plain_step plain_module_step

unfoldable pub plain_module : PlainModule → Notes
plain_module = fold-PlainModule Notes PartNames Notes Notes module__step plain_part_step plain_step plain_module_step

-- The program is a block of its own, whose name is declared in itself.
abbrev pub program : Tree → Notes
program (tree.Plain m) rest = Opens Block ∷ Declares m.name ∷ plain m.block (Closes ∷ Ends m.name m.end_name ∷ rest)
program (tree.Device m) rest =
    Opens Block ∷ Declares m.name ∷ each device_ahead m.block.parts (bracket m.bracket (device_block m.block (Closes ∷ Ends m.name m.end_name ∷ rest)))

-- What names do in a tree.
abbrev pub names_of : Tree → List Item
names_of t = program t []
