-- The names that types and declarations declare and use, and from where on those that they declare are known.
use Rattle.std.specs.Prelude.{◌∷◌}
use Rattle.mc_tree.specs.declared.tree.TypeTree.{TypeTree}
use Rattle.mc_tree.specs.declared.tree.Fields.{Fields}
use Rattle.mc_tree.specs.declared.tree.Range.{Range}
use Rattle.mc_tree.specs.declared.tree.Bracket.{Bracket}
use Rattle.mc_tree.specs.declared.tree.Const.{Const}
use Rattle.mc_tree.specs.declared.tree.TypeDecl.{TypeDecl}
use Rattle.mc_tree.specs.declared.tree.Var.{Var}
use Rattle.mc_tree.specs.declared.tree.VarId.{VarId}
use Rattle.mc_tree.specs.declared.tree.Decl.{Decl}
use Rattle.mc_tree.specs.declared.tree.Procedure.{Procedure}
use Rattle.mc_tree.specs.declared.tree.Process.{Process}
use Rattle.mc_tree.specs.declared.tree.Driver.{Driver}
use Rattle.mc_tree.specs.declared.tree.Params.{Params}
use Rattle.mc_tree.specs.declared.tree.Section.{Section}
use Rattle.mc_tree.specs.declared.tree.Local.{Local}
use Rattle.mc_tree.specs.declared.tree.Decl.TheVariants as decl
use Rattle.mc_tree.specs.declared.tree.TypeTree.TheOpen.{TypeTree-F, Fields-F}
use Rattle.mc_tree.specs.declared.tree.TypeTree.TheFolds.{fold-TypeTree, fold-Fields}
use Rattle.mc_prog.specs.Notes.{Notes, Code, Record, Opens, Closes, Declares, Field, Knows, Uses, Ends, each, maybe, after, itself, one, ids}
use Rattle.mc_prog.specs.ExpressionNames.{expr}
use Rattle.mc_prog.specs.StatementNames.{body}

abbrev pub bracket : Bracket → Notes
bracket b rest = expr b.value rest

abbrev pub range : Range → Notes
range r rest = expr r.low (expr r.high rest)

abbrev pub TypeTreeLayer : Type 0
TypeTreeLayer = TypeTree-F Notes Notes

abbrev pub FieldsLayer : Type 0
FieldsLayer = Fields-F Notes Notes

-- The values of an enumeration are known behind it. The fields of a record are a scope of their own.
abbrev pub type_tree_step : TypeTreeLayer → Notes
type_tree_step (TypeTree-F.Name id) rest = Uses id ∷ rest
type_tree_step (TypeTree-F.Values opening values closing) rest = ids Declares values (ids Knows values rest)
type_tree_step (TypeTree-F.Array array first more of element) rest = range first (each (after range) more (element rest))
type_tree_step (TypeTree-F.Record record_word first more end) rest = Opens Record ∷ first (each (after itself) more (Closes ∷ rest))

abbrev pub fields_step : FieldsLayer → Notes
fields_step f rest = ids Field f.names (f.of rest)

unfoldable pub type_tree : TypeTree → Notes
type_tree = fold-TypeTree Notes Notes type_tree_step fields_step

unfoldable pub fields : Fields → Notes
fields = fold-Fields Notes Notes type_tree_step fields_step

-- A constant, a type and a variable are known behind the whole declaration.
abbrev pub const_ : Const → Notes
const_ c rest = Declares c.name ∷ expr c.value (Knows c.name ∷ rest)

abbrev pub type_decl : TypeDecl → Notes
type_decl t rest = Declares t.name ∷ type_tree t.meaning (Knows t.name ∷ rest)

abbrev pub var_id : VarId → Notes
var_id v rest = Declares v.name ∷ maybe bracket v.address rest

abbrev pub known_var : VarId → Notes
known_var v rest = Knows v.name ∷ rest

abbrev pub var_ : Var → Notes
var_ v rest = var_id v.first (each (after var_id) v.more (type_tree v.of (known_var v.first (each (after known_var) v.more rest))))

abbrev pub declaration : Decl → Notes
declaration (decl.Const place first more) rest = const_ first (each const_ more rest)
declaration (decl.Type place first more) rest = type_decl first (each type_decl more rest)
declaration (decl.Var place first more) rest = var_ first (each var_ more rest)

-- The parameters of a section are known behind it.
abbrev pub section : Section → Notes
section s rest = ids Declares s.names (Uses s.of ∷ ids Knows s.names rest)

abbrev pub params : Params → Notes
params p rest = section p.first (each (after section) p.more rest)

abbrev pub local : Local → Notes
local l rest = each declaration l.declarations (body l.body rest)

-- A procedure is declared in the block around it. Its parameters, its result's type, its declarations and its body
-- stand in a scope of their own.
abbrev pub procedure : Procedure → Notes
procedure p rest =
    Declares p.name ∷ Opens Code ∷ maybe params p.params (maybe (after (one Uses)) p.answer (local p.local (Closes ∷ Ends p.name p.end_name ∷ rest)))

abbrev pub process : Process → Notes
process p rest = Declares p.name ∷ Opens Code ∷ maybe params p.params (local p.local (Closes ∷ Ends p.name p.end_name ∷ rest))

abbrev pub driver : Driver → Notes
driver p rest = Declares p.name ∷ Opens Code ∷ bracket p.bracket (local p.local (Closes ∷ Ends p.name p.end_name ∷ rest))
