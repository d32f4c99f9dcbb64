-- The pieces of all declarations of a tree, in the order of the text. A module stands in front of what is declared in it.
use Rattle.std.specs.Prelude.{List, Some}
use Rattle.mc_tree.specs.declared.tree.Module.{Module}
use Rattle.mc_tree.specs.declared.tree.PlainPart.{PlainPart}
use Rattle.mc_tree.specs.declared.tree.Plain.{Plain}
use Rattle.mc_tree.specs.declared.tree.PlainModule.{PlainModule}
use Rattle.mc_tree.specs.declared.tree.FacePart.{FacePart}
use Rattle.mc_tree.specs.declared.tree.DevicePart.{DevicePart}
use Rattle.mc_tree.specs.declared.tree.InterfaceModule.{InterfaceModule}
use Rattle.mc_tree.specs.declared.tree.DeviceModule.{DeviceModule}
use Rattle.mc_tree.specs.declared.tree.Tree.{Tree}
use Rattle.mc_tree.specs.declared.tree.FacePart.TheVariants as face_part
use Rattle.mc_tree.specs.declared.tree.DevicePart.TheVariants as device_part
use Rattle.mc_tree.specs.declared.tree.Tree.TheVariants as tree
use Rattle.mc_tree.specs.declared.tree.Module.TheOpen.{Module-F, PlainPart-F, Plain-F, PlainModule-F}
use Rattle.mc_tree.specs.declared.tree.Module.TheFolds.{fold-Module, fold-PlainPart, fold-Plain, fold-PlainModule}
use Rattle.mc_tree.specs.declared.tree.Id.{Id}
use Rattle.mc_prog.specs.Pieces.{Gather, Piece, ModuleSort, PlainModule as PlainSort, InterfaceModule as InterfaceSort, DeviceModule as DeviceSort, Module as ModulePiece, apart, node, nothing, each, in_module, gathered_in}
use Rattle.mc_prog.specs.DeclarationPieces.{bracket, declaration, procedure, process, driver}

-- a module, with its priority where it has one
abbrev pub opening : ModuleSort → Id → Gather → Gather
opening sort name inner g = apart (node (Some name.place) (ModulePiece sort name) inner) g

abbrev pub face_one : FacePart → Gather
face_one (face_part.Decl x) g = declaration x g
face_one (face_part.Procedure x) g = procedure x g

abbrev pub device_one : DevicePart → Gather
device_one (device_part.Decl x) g = declaration x g
device_one (device_part.Procedure x) g = procedure x g
device_one (device_part.Driver x) g = driver x g

abbrev pub interface_module : InterfaceModule → Gather
interface_module m g = in_module m.name.place (each face_one m.block.parts) (opening InterfaceSort m.name nothing g)

abbrev pub device_module : DeviceModule → Gather
device_module m g = in_module m.name.place (each device_one m.block.parts) (opening DeviceSort m.name (bracket m.bracket) g)

abbrev pub ModuleLayer : Type 0
ModuleLayer = Module-F Gather Gather Gather Gather

abbrev pub PlainPartLayer : Type 0
PlainPartLayer = PlainPart-F Gather Gather Gather Gather

abbrev pub PlainLayer : Type 0
PlainLayer = Plain-F Gather Gather Gather Gather

abbrev pub PlainModuleLayer : Type 0
PlainModuleLayer = PlainModule-F Gather Gather Gather Gather

abbrev pub plain_module_step : PlainModuleLayer → Gather
plain_module_step m g = in_module m.name.place m.block (opening PlainSort m.name nothing g)

abbrev pub module__step : ModuleLayer → Gather
module__step (Module-F.Plain m) g = m g
module__step (Module-F.Interface m) g = interface_module m g
module__step (Module-F.Device m) g = device_module m g

abbrev pub plain_part_step : PlainPartLayer → Gather
plain_part_step (PlainPart-F.Decl x) g = declaration x g
plain_part_step (PlainPart-F.Procedure x) g = procedure x g
plain_part_step (PlainPart-F.Process x) g = process x g
plain_part_step (PlainPart-F.Module x) g = x g

abbrev pub part_itself : Gather → Gather
part_itself p g = p g

abbrev pub plain_step : PlainLayer → Gather
plain_step f g = each part_itself f.parts g

unfoldable pub module_ : Module → Gather
module_ = fold-Module Gather Gather Gather Gather module__step plain_part_step plain_step plain_module_step

unfoldable pub plain_part : PlainPart → Gather
plain_part = fold-PlainPart Gather Gather Gather Gather module__step plain_part_step plain_step plain_module_step

unfoldable pub plain : Plain → Gather
plain = fold-Plain Gather Gather Gather Gather module__step plain_part_step plain_step plain_module_step

unfoldable pub plain_module : PlainModule → Gather
plain_module = fold-PlainModule Gather Gather Gather Gather module__step plain_part_step plain_step plain_module_step

-- The program module is its own outer one.
abbrev pub program : Tree → Gather
program (tree.Plain m) g = plain m.block (opening PlainSort m.name nothing g)
program (tree.Device m) g = each device_one m.block.parts (opening DeviceSort m.name (bracket m.bracket) g)

abbrev pub name_of : Tree → Id
name_of (tree.Plain m) = m.name
name_of (tree.Device m) = m.name

-- what a tree declares
abbrev pub declarations_of : Tree → List Piece
declarations_of t = (program t (gathered_in (name_of t).place)).pieces
