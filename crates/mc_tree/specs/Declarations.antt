-- How types and declarations are written, by the productions of the grammar.
use Rattle.std.specs.Prelude.{suc, List, Option, Some, None}
use Rattle.mc_tree.specs.declared.token.Kind.TheVariants.{Reserved as ReservedKind, Name, Symbol as SymbolKind}
use Rattle.mc_tree.specs.declared.token.Reserved.TheVariants.{ArrayWord, BeginWord, ConstWord, EndWord, OfWord, ProcedureWord, ProcessWord, RecordWord, TypeWord, VarWord}
use Rattle.mc_tree.specs.declared.token.Symbol.TheVariants.{Equal, LeftParen, RightParen, LeftBracket, RightBracket, Comma, Semicolon, Colon}
use Rattle.mc_tree.specs.declared.tree.Id.{Id}
use Rattle.mc_tree.specs.declared.tree.TypeTree.{TypeTree}
use Rattle.mc_tree.specs.declared.tree.Fields.{Fields}
use Rattle.mc_tree.specs.declared.tree.Range.{Range}
use Rattle.mc_tree.specs.declared.tree.Ids.{Ids}
use Rattle.mc_tree.specs.declared.tree.Bracket.{Bracket}
use Rattle.mc_tree.specs.declared.tree.Const.{Const}
use Rattle.mc_tree.specs.declared.tree.TypeDecl.{TypeDecl}
use Rattle.mc_tree.specs.declared.tree.Var.{Var}
use Rattle.mc_tree.specs.declared.tree.VarId.{VarId}
use Rattle.mc_tree.specs.declared.tree.Decl.{Decl}
use Rattle.mc_tree.specs.declared.tree.Procedure.{Procedure}
use Rattle.mc_tree.specs.declared.tree.Process.{Process}
use Rattle.mc_tree.specs.declared.tree.Driver.{Driver}
use Rattle.mc_tree.specs.declared.tree.Params.{Params}
use Rattle.mc_tree.specs.declared.tree.Section.{Section}
use Rattle.mc_tree.specs.declared.tree.Mode.{Mode}
use Rattle.mc_tree.specs.declared.tree.Local.{Local}
use Rattle.mc_tree.specs.declared.tree.Decl.TheVariants as decl
use Rattle.mc_tree.specs.declared.tree.Mode.TheVariants as mode
use Rattle.mc_tree.specs.declared.tree.TypeTree.TheOpen.{TypeTree-F, Fields-F}
use Rattle.mc_tree.specs.declared.tree.TypeTree.TheFolds.{fold-TypeTree, fold-Fields}
use Rattle.mc_tree.specs.Leaves.{Leaf, Writes, begin, word, mark, name, each, maybe, after, itself}
use Rattle.mc_tree.specs.Expressions.{expr}
use Rattle.mc_tree.specs.Statements.{body}

abbrev pub one_name : Id → Writes
one_name id d rest = name id rest

-- `"[" Expr "]"`
abbrev pub bracket : Bracket → Writes
bracket b d rest = mark LeftBracket b.opening (expr b.value d (mark RightBracket b.closing rest))

-- `id { "," id }`
abbrev pub ids : Ids → Writes
ids i d rest = name i.first (each (after Comma one_name) i.more d rest)

-- `Expr ":" Expr`
abbrev pub range : Range → Writes
range r d rest = expr r.low d (mark Colon r.colon (expr r.high d rest))

abbrev pub TypeTreeLayer : Type 0
TypeTreeLayer = TypeTree-F Writes Writes

abbrev pub FieldsLayer : Type 0
FieldsLayer = Fields-F Writes Writes

-- A type is a counting node: its first token begins it, and its parts stand in it.
abbrev pub type_tree_step : TypeTreeLayer → Writes
type_tree_step (TypeTree-F.Name id) d rest = begin (suc d) (Name id.text) id.place rest
type_tree_step (TypeTree-F.Values opening values closing) d rest =
    begin (suc d) (SymbolKind LeftParen) opening (ids values (suc d) (mark RightParen closing rest))
type_tree_step (TypeTree-F.Array array first more of element) d rest =
    begin (suc d) (ReservedKind ArrayWord) array (range first (suc d) (each (after Comma range) more (suc d) (word OfWord of (element (suc d) rest))))
type_tree_step (TypeTree-F.Record record_word first more end) d rest =
    begin (suc d) (ReservedKind RecordWord) record_word (first (suc d) (each (after Semicolon itself) more (suc d) (word EndWord end rest)))

-- `Ids ":" Type`
abbrev pub fields_step : FieldsLayer → Writes
fields_step f d rest = ids f.names d (mark Colon f.colon (f.of d rest))

unfoldable pub type_tree : TypeTree → Writes
type_tree = fold-TypeTree Writes Writes type_tree_step fields_step

unfoldable pub fields : Fields → Writes
fields = fold-Fields Writes Writes type_tree_step fields_step

-- `id "=" Expr ";"`
abbrev pub const_ : Const → Writes
const_ c d rest = name c.name (mark Equal c.equal (expr c.value d (mark Semicolon c.semicolon rest)))

-- `id "=" Type ";"`
abbrev pub type_decl : TypeDecl → Writes
type_decl t d rest = name t.name (mark Equal t.equal (type_tree t.meaning d (mark Semicolon t.semicolon rest)))

-- `id [ Bracket ]`
abbrev pub var_id : VarId → Writes
var_id v d rest = name v.name (maybe bracket v.address d rest)

-- `VarId { "," VarId } ":" Type ";"`
abbrev pub var_ : Var → Writes
var_ v d rest = var_id v.first d (each (after Comma var_id) v.more d (mark Colon v.colon (type_tree v.of d (mark Semicolon v.semicolon rest))))

-- `const Const { Const } | type TypeDecl { TypeDecl } | var Var { Var }`
abbrev pub declaration : Decl → Writes
declaration (decl.Const place first more) d rest = word ConstWord place (const_ first d (each const_ more d rest))
declaration (decl.Type place first more) d rest = word TypeWord place (type_decl first d (each type_decl more d rest))
declaration (decl.Var place first more) d rest = word VarWord place (var_ first d (each var_ more d rest))

abbrev pub mode_word : Option Mode → List Leaf → List Leaf
mode_word None rest = rest
mode_word (Some (mode.Const place)) rest = word ConstWord place rest
mode_word (Some (mode.Var place)) rest = word VarWord place rest

-- `[ const | var ] Ids ":" id`
abbrev pub section : Section → Writes
section s d rest = mode_word s.mode (ids s.names d (mark Colon s.colon (name s.of rest)))

-- `"(" Section { ";" Section } ")"`
abbrev pub params : Params → Writes
params p d rest = mark LeftParen p.opening (section p.first d (each (after Semicolon section) p.more d (mark RightParen p.closing rest)))

-- `{ Decl } begin Body`
abbrev pub local : Local → Writes
local l d rest = each declaration l.declarations d (word BeginWord l.begin (body l.body d rest))

-- `procedure id [ Params ] [ ":" id ] ";" Local end id ";"`
abbrev pub procedure : Procedure → Writes
procedure p d rest =
    word ProcedureWord p.procedure (name p.name (maybe params p.params d (maybe (after Colon one_name) p.answer d (mark Semicolon p.semicolon
    (local p.local d (word EndWord p.end (name p.end_name (mark Semicolon p.end_semicolon rest))))))))

-- `process id [ Params ] ";" Local end id ";"`
abbrev pub process : Process → Writes
process p d rest =
    word ProcessWord p.process (name p.name (maybe params p.params d (mark Semicolon p.semicolon
    (local p.local d (word EndWord p.end (name p.end_name (mark Semicolon p.end_semicolon rest)))))))

-- `process id Bracket ";" Local end id ";"`
abbrev pub driver : Driver → Writes
driver p d rest =
    word ProcessWord p.process (name p.name (bracket p.bracket d (mark Semicolon p.semicolon
    (local p.local d (word EndWord p.end (name p.end_name (mark Semicolon p.end_semicolon rest)))))))
