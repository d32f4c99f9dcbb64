-- The pieces of all texts of a tree that run: those of procedures, processes and modules, in the order of the text. An
-- inner module stands in front of its outer one's body, so bodies of modules stand in the order in which they run.
use Rattle.std.specs.Prelude.{List, Option, Some, None}
use Rattle.mc_tree.specs.declared.tree.Module.{Module}
use Rattle.mc_tree.specs.declared.tree.PlainPart.{PlainPart}
use Rattle.mc_tree.specs.declared.tree.Plain.{Plain}
use Rattle.mc_tree.specs.declared.tree.PlainModule.{PlainModule}
use Rattle.mc_tree.specs.declared.tree.Begun.{Begun}
use Rattle.mc_tree.specs.declared.tree.FacePart.{FacePart}
use Rattle.mc_tree.specs.declared.tree.DevicePart.{DevicePart}
use Rattle.mc_tree.specs.declared.tree.InterfaceModule.{InterfaceModule}
use Rattle.mc_tree.specs.declared.tree.DeviceModule.{DeviceModule}
use Rattle.mc_tree.specs.declared.tree.Tree.{Tree}
use Rattle.mc_tree.specs.declared.tree.FacePart.TheVariants as face_part
use Rattle.mc_tree.specs.declared.tree.DevicePart.TheVariants as device_part
use Rattle.mc_tree.specs.declared.tree.Tree.TheVariants as tree
use Rattle.mc_tree.specs.declared.tree.Module.TheOpen.{Module-F, PlainPart-F, Plain-F, PlainModule-F}
use Rattle.mc_tree.specs.declared.tree.Module.TheFolds.{fold-Module, fold-PlainPart, fold-Plain, fold-PlainModule}
use Rattle.mc_tree.specs.declared.tree.Id.{Id}
use Rattle.mc_tree.specs.declared.tree.Local.{Local}
use Rattle.mc_prog.specs.Pieces.{Gather, Piece, Running, apart, node, nothing, each, in_code, in_module, gathered_in}
use Rattle.mc_prog.specs.StatementPieces.{body, body_behind}
use Rattle.mc_prog.specs.TreePieces.{name_of}

-- a text that runs, under the name of what runs it
abbrev pub running : Id → Gather → Gather
running name inner g = apart (node (Some name.place) Running inner) g

-- A module without `begin` has an empty body.
abbrev pub begun : Id → Option Begun → Gather
begun name None g = running name (body_behind name.place nothing) g
begun name (Some b) g = running name (body_behind b.begin (body b.body)) g

-- the text of a procedure or a process
abbrev pub code : Id → Local → Gather
code name l g = in_code name.place (running name (body_behind l.begin (body l.body))) g

abbrev pub face_one : FacePart → Gather
face_one (face_part.Decl x) g = g
face_one (face_part.Procedure x) g = code x.name x.local g

abbrev pub device_one : DevicePart → Gather
device_one (device_part.Decl x) g = g
device_one (device_part.Procedure x) g = code x.name x.local g
device_one (device_part.Driver x) g = code x.name x.local g

abbrev pub interface_module : InterfaceModule → Gather
interface_module m g = in_module m.name.place (λ i. begun m.name m.block.body (each face_one m.block.parts i)) g

abbrev pub device_module : DeviceModule → Gather
device_module m g = in_module m.name.place (λ i. begun m.name m.block.body (each device_one m.block.parts i)) g

-- A plain block says it under the name of its module.
abbrev pub Block : Type 0
Block = Id → Gather

abbrev pub ModuleLayer : Type 0
ModuleLayer = Module-F Gather Gather Block Gather

abbrev pub PlainPartLayer : Type 0
PlainPartLayer = PlainPart-F Gather Gather Block Gather

abbrev pub PlainLayer : Type 0
PlainLayer = Plain-F Gather Gather Block Gather

abbrev pub PlainModuleLayer : Type 0
PlainModuleLayer = PlainModule-F Gather Gather Block Gather

abbrev pub plain_module_step : PlainModuleLayer → Gather
plain_module_step m g = in_module m.name.place (m.block m.name) g

abbrev pub module__step : ModuleLayer → Gather
module__step (Module-F.Plain m) g = m g
module__step (Module-F.Interface m) g = interface_module m g
module__step (Module-F.Device m) g = device_module m g

abbrev pub plain_part_step : PlainPartLayer → Gather
plain_part_step (PlainPart-F.Decl x) g = g
plain_part_step (PlainPart-F.Procedure x) g = code x.name x.local g
plain_part_step (PlainPart-F.Process x) g = code x.name x.local g
plain_part_step (PlainPart-F.Module x) g = x g

abbrev pub part_itself : Gather → Gather
part_itself p g = p g

abbrev pub plain_step : PlainLayer → Block
plain_step f name g = begun name f.body (each part_itself f.parts g)

unfoldable pub module_ : Module → Gather
module_ = fold-Module Gather Gather Block Gather module__step plain_part_step plain_step plain_module_step

unfoldable pub plain_part : PlainPart → Gather
plain_part = fold-PlainPart Gather Gather Block Gather module__step plain_part_step plain_step plain_module_step

unfoldable pub plain : Plain → Block
plain = fold-Plain Gather Gather Block Gather module__step plain_part_step plain_step plain_module_step

unfoldable pub plain_module : PlainModule → Gather
plain_module = fold-PlainModule Gather Gather Block Gather module__step plain_part_step plain_step plain_module_step

abbrev pub program : Tree → Gather
program (tree.Plain m) g = plain m.block m.name g
program (tree.Device m) g = begun m.name m.block.body (each device_one m.block.parts g)

-- the texts of a tree that run
abbrev pub texts_of : Tree → List Piece
texts_of t = (program t (gathered_in (name_of t).place)).pieces
