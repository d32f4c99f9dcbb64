-- The pieces of declarations. What they declare is said by pieces that are no parts of others.
use Rattle.std.specs.Prelude.{ℕ, ◌+◌, length, Option, Some, None}
use Rattle.mc_tree.specs.declared.tree.TypeTree.{TypeTree}
use Rattle.mc_tree.specs.declared.tree.Fields.{Fields}
use Rattle.mc_tree.specs.declared.tree.Range.{Range}
use Rattle.mc_tree.specs.declared.tree.Bracket.{Bracket}
use Rattle.mc_tree.specs.declared.tree.Const.{Const}
use Rattle.mc_tree.specs.declared.tree.TypeDecl.{TypeDecl}
use Rattle.mc_tree.specs.declared.tree.Var.{Var}
use Rattle.mc_tree.specs.declared.tree.VarId.{VarId}
use Rattle.mc_tree.specs.declared.tree.Decl.{Decl}
use Rattle.mc_tree.specs.declared.tree.Procedure.{Procedure}
use Rattle.mc_tree.specs.declared.tree.Process.{Process}
use Rattle.mc_tree.specs.declared.tree.Driver.{Driver}
use Rattle.mc_tree.specs.declared.tree.Params.{Params}
use Rattle.mc_tree.specs.declared.tree.Section.{Section}
use Rattle.mc_tree.specs.declared.tree.Local.{Local}
use Rattle.mc_tree.specs.declared.tree.Decl.TheVariants as decl
use Rattle.mc_tree.specs.declared.tree.TypeTree.TheOpen.{TypeTree-F, Fields-F}
use Rattle.mc_tree.specs.declared.tree.TypeTree.TheFolds.{fold-TypeTree, fold-Fields}
use Rattle.mc_tree.specs.declared.tree.After.{After}
use Rattle.mc_tree.specs.declared.tree.Id.{Id}
use Rattle.mc_tree.specs.declared.tree.Ids.{Ids}
use Rattle.mc_tree.specs.declared.tree.Mode.{Mode}
use Rattle.mc_tree.specs.declared.tree.Mode.TheVariants as mode
use Rattle.mc_prog.specs.Pieces.{Gather, Passing, ByValue, ByName, CodeSort, Procedure as ProcedureSort, Process as ProcessSort, Driver as DriverSort, TypeName, Enumeration, EnumerationValue, Range as RangePiece, Array, Record, FieldGroup, Constant, TypeDeclaration, Variable, Parameter, ResultType, Heading, Ending, within, apart, beside, node, leaf, nothing, each, maybe, after, itself, each_name, in_code}
use Rattle.mc_prog.specs.ExpressionPieces.{expr}

abbrev pub bracket : Bracket → Gather
bracket b g = expr b.value g

abbrev pub range : Range → Gather
range r g = node None RangePiece (λ i. expr r.high (expr r.low i)) g

-- how many names stand in a list
abbrev pub count : Ids → ℕ
count i = 1 + length i.more

abbrev pub TypeTreeLayer : Type 0
TypeTreeLayer = TypeTree-F Gather Gather

abbrev pub FieldsLayer : Type 0
FieldsLayer = Fields-F Gather Gather

-- The values of an enumeration stand directly behind it, in their order.
abbrev pub type_tree_step : TypeTreeLayer → Gather
type_tree_step (TypeTree-F.Name id) g = leaf id.place (TypeName id) g
type_tree_step (TypeTree-F.Values opening values closing) g = within (λ i. each_name EnumerationValue values (leaf opening (Enumeration (count values)) i)) g
type_tree_step (TypeTree-F.Array array first more of element) g = node (Some array) Array (λ i. element (each (after range) more (range first i))) g
type_tree_step (TypeTree-F.Record record_word first more end) g = node (Some record_word) Record (λ i. each (after itself) more (first i)) g

abbrev pub fields_step : FieldsLayer → Gather
fields_step f g = node (Some f.names.first.place) (FieldGroup f.names) f.of g

unfoldable pub type_tree : TypeTree → Gather
type_tree = fold-TypeTree Gather Gather type_tree_step fields_step

unfoldable pub fields : Fields → Gather
fields = fold-Fields Gather Gather type_tree_step fields_step

abbrev pub const_ : Const → Gather
const_ c g = apart (node (Some c.name.place) (Constant c.name) (expr c.value)) g

abbrev pub type_decl : TypeDecl → Gather
type_decl t g = apart (node (Some t.name.place) (TypeDeclaration t.name) (type_tree t.meaning)) g

abbrev pub var_id : VarId → Gather
var_id v g = beside v.name.place (Variable v.name) (maybe bracket v.address) g

-- The type stands in front of its variables.
abbrev pub var_ : Var → Gather
var_ v g = apart (λ i. each (after var_id) v.more (var_id v.first (type_tree v.of i))) g

abbrev pub declaration : Decl → Gather
declaration (decl.Const place first more) g = each const_ more (const_ first g)
declaration (decl.Type place first more) g = each type_decl more (type_decl first g)
declaration (decl.Var place first more) g = each var_ more (var_ first g)

-- a parameter is constant without the word `var`
abbrev pub passing : Option Mode → Passing
passing None = ByValue
passing (Some (mode.Const place)) = ByValue
passing (Some (mode.Var place)) = ByName

abbrev pub section : Section → Gather
section s g = apart (λ i. each_name (Parameter (passing s.mode)) s.names (leaf s.of.place (TypeName s.of) i)) g

abbrev pub params : Params → Gather
params p g = each (after section) p.more (section p.first g)

abbrev pub answer : After Id → Gather
answer a g = apart (node None ResultType (leaf a.item.place (TypeName a.item))) g

abbrev pub heading : CodeSort → Id → Gather → Gather
heading sort name inner g = apart (node (Some name.place) (Heading sort name) inner) g

abbrev pub ending : CodeSort → Id → Gather
ending sort name g = apart (leaf name.place (Ending sort name)) g

-- the declarations of a procedure or a process behind its heading
abbrev pub local : CodeSort → Id → Local → Gather
local sort name l g = ending sort name (each declaration l.declarations g)

abbrev pub procedure : Procedure → Gather
procedure p g =
    in_code p.name.place (λ i. local ProcedureSort p.name p.local (heading ProcedureSort p.name nothing (maybe answer p.answer (maybe params p.params i)))) g

abbrev pub process : Process → Gather
process p g = in_code p.name.place (λ i. local ProcessSort p.name p.local (heading ProcessSort p.name nothing (maybe params p.params i))) g

abbrev pub driver : Driver → Gather
driver p g = in_code p.name.place (λ i. local DriverSort p.name p.local (heading DriverSort p.name (bracket p.bracket) i)) g
