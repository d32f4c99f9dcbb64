-- How modules and the program are written, by the productions of the grammar, and the tokens of a tree.
use Rattle.std.specs.Prelude.{ℕ, suc, List, [], ◌∷◌, max}
use Rattle.mc_tree.specs.declared.token.Token.{Token}
use Rattle.mc_tree.specs.declared.token.Kind.TheVariants.{Reserved as ReservedKind}
use Rattle.mc_tree.specs.declared.token.Reserved.TheVariants.{BeginWord, DefineWord, DeviceWord, EndWord, InterfaceWord, ModuleWord, UseWord}
use Rattle.mc_tree.specs.declared.token.Reserved.{Reserved}
use Rattle.mc_tree.specs.declared.token.Symbol.TheVariants.{Semicolon, Dot}
use Rattle.mc_tree.specs.declared.tree.Module.{Module}
use Rattle.mc_tree.specs.declared.tree.PlainPart.{PlainPart}
use Rattle.mc_tree.specs.declared.tree.Plain.{Plain}
use Rattle.mc_tree.specs.declared.tree.PlainModule.{PlainModule}
use Rattle.mc_tree.specs.declared.tree.Begun.{Begun}
use Rattle.mc_tree.specs.declared.tree.Lists.{Lists}
use Rattle.mc_tree.specs.declared.tree.NameList.{NameList}
use Rattle.mc_tree.specs.declared.tree.Face.{Face}
use Rattle.mc_tree.specs.declared.tree.FacePart.{FacePart}
use Rattle.mc_tree.specs.declared.tree.Device.{Device}
use Rattle.mc_tree.specs.declared.tree.DevicePart.{DevicePart}
use Rattle.mc_tree.specs.declared.tree.InterfaceModule.{InterfaceModule}
use Rattle.mc_tree.specs.declared.tree.DeviceModule.{DeviceModule}
use Rattle.mc_tree.specs.declared.tree.Tree.{Tree}
use Rattle.mc_tree.specs.declared.tree.FacePart.TheVariants as face_part
use Rattle.mc_tree.specs.declared.tree.DevicePart.TheVariants as device_part
use Rattle.mc_tree.specs.declared.tree.Tree.TheVariants as tree
use Rattle.mc_tree.specs.declared.tree.Module.TheOpen.{Module-F, PlainPart-F, Plain-F, PlainModule-F}
use Rattle.mc_tree.specs.declared.tree.Module.TheFolds.{fold-Module, fold-PlainPart, fold-Plain, fold-PlainModule}
use Rattle.mc_tree.specs.Leaves.{Leaf, Writes, begin, word, mark, name, each, maybe, itself}
use Rattle.mc_tree.specs.Statements.{body}
use Rattle.mc_tree.specs.Declarations.{ids, bracket, declaration, procedure, process, driver}

-- `begin Body`
abbrev pub begun : Begun → Writes
begun b d rest = word BeginWord b.begin (body b.body d rest)

-- `define Ids ";"` or `use Ids ";"`
abbrev pub name_list : Reserved → NameList → Writes
name_list reserved l d rest = word reserved l.word (ids l.names d (mark Semicolon l.semicolon rest))

-- `[ define Ids ";" ] [ use Ids ";" ]`
abbrev pub lists : Lists → Writes
lists l d rest = maybe (name_list DefineWord) l.define d (maybe (name_list UseWord) l.use_ d rest)

abbrev pub face_one : FacePart → Writes
face_one (face_part.Decl x) = declaration x
face_one (face_part.Procedure x) = procedure x

-- `{ Decl | Procedure } [ begin Body ]`
abbrev pub face : Face → Writes
face f d rest = each face_one f.parts d (maybe begun f.body d rest)

abbrev pub device_one : DevicePart → Writes
device_one (device_part.Decl x) = declaration x
device_one (device_part.Procedure x) = procedure x
device_one (device_part.Driver x) = driver x

-- `{ Decl | Procedure | Driver } [ begin Body ]`
abbrev pub device : Device → Writes
device f d rest = each device_one f.parts d (maybe begun f.body d rest)

-- `interface module id ";" Lists Face end id ";"`. A module within a module is a counting node.
abbrev pub interface_module : InterfaceModule → Writes
interface_module m d rest =
    begin (suc d) (ReservedKind InterfaceWord) m.interface_word (word ModuleWord m.module_word (name m.name (mark Semicolon m.semicolon (lists m.lists (suc d)
    (face m.block (suc d) (word EndWord m.end (name m.end_name (mark Semicolon m.end_semicolon rest))))))))

-- `device module id Bracket ";" Lists Device end id ";"`
abbrev pub device_module : DeviceModule → Writes
device_module m d rest =
    begin (suc d) (ReservedKind DeviceWord) m.device_word (word ModuleWord m.module_word (name m.name (bracket m.bracket (suc d) (mark Semicolon m.semicolon
    (lists m.lists (suc d) (device m.block (suc d) (word EndWord m.end (name m.end_name (mark Semicolon m.end_semicolon rest)))))))))

abbrev pub ModuleLayer : Type 0
ModuleLayer = Module-F Writes Writes Writes Writes

abbrev pub PlainPartLayer : Type 0
PlainPartLayer = PlainPart-F Writes Writes Writes Writes

abbrev pub PlainLayer : Type 0
PlainLayer = Plain-F Writes Writes Writes Writes

abbrev pub PlainModuleLayer : Type 0
PlainModuleLayer = PlainModule-F Writes Writes Writes Writes

-- `module id ";" Lists Plain end id ";"`
abbrev pub plain_module_step : PlainModuleLayer → Writes
plain_module_step m d rest =
    begin (suc d) (ReservedKind ModuleWord) m.module_word (name m.name (mark Semicolon m.semicolon (lists m.lists (suc d)
    (m.block (suc d) (word EndWord m.end (name m.end_name (mark Semicolon m.end_semicolon rest)))))))

abbrev pub module__step : ModuleLayer → Writes
module__step (Module-F.Plain m) d rest = m d rest
module__step (Module-F.Interface m) d rest = interface_module m d rest
module__step (Module-F.Device m) d rest = device_module m d rest

abbrev pub plain_part_step : PlainPartLayer → Writes
plain_part_step (PlainPart-F.Decl x) d rest = declaration x d rest
plain_part_step (PlainPart-F.Procedure x) d rest = procedure x d rest
plain_part_step (PlainPart-F.Process x) d rest = process x d rest
plain_part_step (PlainPart-F.Module x) d rest = x d rest

-- `{ Decl | Procedure | Process | Module } [ begin Body ]`
abbrev pub plain_step : PlainLayer → Writes
plain_step f d rest = each itself f.parts d (maybe begun f.body d rest)

unfoldable pub module_ : Module → Writes
module_ = fold-Module Writes Writes Writes Writes module__step plain_part_step plain_step plain_module_step

unfoldable pub plain_part : PlainPart → Writes
plain_part = fold-PlainPart Writes Writes Writes Writes module__step plain_part_step plain_step plain_module_step

unfoldable pub plain : Plain → Writes
plain = fold-Plain Writes Writes Writes Writes module__step plain_part_step plain_step plain_module_step

unfoldable pub plain_module : PlainModule → Writes
plain_module = fold-PlainModule Writes Writes Writes Writes module__step plain_part_step plain_step plain_module_step

-- `module id ";" Plain end id "."` or `device module id Bracket ";" Device end id "."`
abbrev pub program : Tree → Writes
program (tree.Plain m) d rest =
    word ModuleWord m.module_word (name m.name (mark Semicolon m.semicolon (plain m.block d (word EndWord m.end (name m.end_name (mark Dot m.dot rest))))))
program (tree.Device m) d rest =
    word DeviceWord m.device_word (word ModuleWord m.module_word (name m.name (bracket m.bracket d (mark Semicolon m.semicolon
    (device m.block d (word EndWord m.end (name m.end_name (mark Dot m.dot rest))))))))

-- The tokens of a tree in order, each with the depth of the node that it begins.
abbrev pub leaves_of : Tree → List Leaf
leaves_of t = program t 0 []

abbrev pub tokens : List Leaf → List Token
tokens [] = []
tokens (leaf ∷ leaves) = leaf.token ∷ tokens leaves

-- The tokens of a tree in order.
abbrev pub tokens_of : Tree → List Token
tokens_of t = tokens (leaves_of t)

abbrev pub deepest : List Leaf → ℕ
deepest [] = 0
deepest (leaf ∷ leaves) = max leaf.depth (deepest leaves)

-- The depth of a tree's deepest node, 0 where there is none.
abbrev pub depth_of : Tree → ℕ
depth_of t = deepest (leaves_of t)
