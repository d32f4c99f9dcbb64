-- The texts that run, piece by piece, and the resolved program of a tree.
use Rattle.std.specs.Prelude.{ℕ, ◌≡◌, ◌⊎◌, ◌+◌, ◌*◌, nat_lt, List, [], ◌∷◌, ◌++◌, length, map, Option, Some, None, Bool, true, false, if◌then◌else◌}
use Rattle.mc_tree.specs.declared.fault.Code.TheVariants as code
use Rattle.mc_tree.specs.declared.fault.Fault.{Fault}
use Rattle.mc_tree.specs.declared.place.Place.{Place}
use Rattle.mc_tree.specs.declared.tree.Tree.{Tree}
use Rattle.mc_prog.specs.declared.scoped.Naming.{Naming}
use Rattle.mc_prog.specs.declared.program.CellInfo.{CellInfo}
use Rattle.mc_prog.specs.declared.program.CodeInfo.{CodeInfo}
use Rattle.mc_prog.specs.declared.program.Form.TheVariants as form
use Rattle.mc_prog.specs.declared.program.ModuleInfo.{ModuleInfo}
use Rattle.mc_prog.specs.declared.program.Node.{Node}
use Rattle.mc_prog.specs.declared.program.ProcessInfo.{ProcessInfo}
use Rattle.mc_prog.specs.declared.program.TypeInfo.{TypeInfo}
use Rattle.mc_prog.specs.declared.typing.Typed.{Typed}
use Rattle.mc_prog.specs.Pieces.{Around, Piece, Construct}
use Rattle.mc_prog.specs.Pieces as piece
use Rattle.mc_prog.specs.Known.{Known, part, typed_at, same_place, words_of}
use Rattle.mc_prog.specs.declared.typing.Said.{Said}
use Rattle.mc_prog.specs.PieceTypes.{text_piece}
use Rattle.mc_prog.specs.Declarations.{Declared, nowhere}
use Rattle.mc_prog.specs.DeclarationTypes.{Scope, nothing_declared, known_of, typed_by, parts_of_piece, place_of_piece, scope_behind, declaration_fault}
use Rattle.mc_prog.specs.Nodes.{nodes_of}
use Rattle.mc_prog.specs.Passes.{passed, HasFaultOf}
use Rattle.mc_prog.specs.TreePieces.{declarations_of}
use Rattle.mc_prog.specs.TextPieces.{texts_of}

-- a text that runs: the name under which it does, the node of its body, and what its frame takes from it
pub record Text : Type 0 where
  pub at : Place
  -- whether it is the body of a module
  pub is_body : Bool
  pub body : ℕ
  pub nest : ℕ
  pub arguments : ℕ

-- what is known of the texts so far
pub record Texts : Type 0 where
  pub typed : List Typed
  pub nodes : List Node
  pub texts : List Text

-- the number of the node that a piece stands for: its last one, or that of its first part
abbrev pub node_number : ℕ → ℕ → List Node → ℕ
node_number next first [] = first
node_number next first (n ∷ nodes) = next + length nodes

abbrev pub text_said : Known → List Piece → List Typed → Piece → Said
text_said known pieces typed p = text_piece known pieces typed p.around (place_of_piece typed p) p.parts (parts_of_piece typed p) p.construct

abbrev pub node_at : List Typed → ℕ → ℕ
node_at typed n = (typed_at typed n).node

abbrev pub text_by : Place → Option Place → Typed → Text
text_by module_at None body_ = record { at = module_at; is_body = true; body = body_.node; nest = body_.nest; arguments = body_.arguments }
text_by module_at (Some code_at) body_ = record { at = code_at; is_body = false; body = body_.node; nest = body_.nest; arguments = body_.arguments }

-- the text that ends with a piece
abbrev pub texts_by : Around → Typed → Construct → List Text
texts_by around body_ (piece.Number w) = []
texts_by around body_ (piece.Character c) = []
texts_by around body_ (piece.Text t) = []
texts_by around body_ (piece.Name id) = []
texts_by around body_ (piece.Select id) = []
texts_by around body_ piece.Index = []
texts_by around body_ piece.Designated = []
texts_by around body_ (piece.Calling id) = []
texts_by around body_ piece.Group = []
texts_by around body_ piece.Negation = []
texts_by around body_ piece.Bits = []
texts_by around body_ piece.Element = []
texts_by around body_ (piece.Signed s) = []
texts_by around body_ (piece.Sum o) = []
texts_by around body_ (piece.Product o) = []
texts_by around body_ (piece.Comparison r) = []
texts_by around body_ piece.Assignment = []
texts_by around body_ (piece.Statement id) = []
texts_by around body_ piece.If = []
texts_by around body_ piece.While = []
texts_by around body_ piece.Repeat = []
texts_by around body_ piece.Loop = []
texts_by around body_ piece.When = []
texts_by around body_ piece.Case = []
texts_by around body_ piece.Arm = []
texts_by around body_ piece.Label = []
texts_by around body_ piece.Body = []
texts_by around body_ (piece.TypeName id) = []
texts_by around body_ (piece.Enumeration n) = []
texts_by around body_ (piece.EnumerationValue id) = []
texts_by around body_ piece.Range = []
texts_by around body_ piece.Array = []
texts_by around body_ piece.Record = []
texts_by around body_ (piece.FieldGroup names) = []
texts_by around body_ (piece.Constant id) = []
texts_by around body_ (piece.TypeDeclaration id) = []
texts_by around body_ (piece.Variable id) = []
texts_by around body_ (piece.Parameter passing id) = []
texts_by around body_ piece.ResultType = []
texts_by around body_ (piece.Heading sort id) = []
texts_by around body_ (piece.Ending sort id) = []
texts_by around body_ (piece.Module sort id) = []
texts_by around body_ piece.Running = text_by around.module_at around.code_at body_ ∷ []

abbrev pub texts_behind : Known → List CodeInfo → List Piece → Texts → Piece → Texts
texts_behind known procedures pieces t p =
    let said : Said = text_said known pieces t.typed p in
    let parts_ : List Typed = parts_of_piece t.typed p in
    let place_ : Place = place_of_piece t.typed p in
    let next : ℕ = length t.nodes in
    let added : List Node = nodes_of known procedures p.around place_ said.meaning t.typed p.parts next (map (node_at t.typed) p.parts) p.construct in
    record {
      typed = t.typed ++ (typed_by known parts_ place_ p.around p.construct (node_number next (part t.typed p.parts 0).node added) said ∷ []);
      nodes = t.nodes ++ added;
      texts = t.texts ++ texts_by p.around (part t.typed p.parts 0) p.construct;
    }

-- the fault of a piece of the texts
abbrev pub text_fault : Known → List Piece → Texts → Piece → Option Fault
text_fault known pieces t p = (text_said known pieces t.typed p).fault

abbrev pub no_texts : Texts
no_texts = record { typed = []; nodes = []; texts = [] }

-- of a whole tree

abbrev pub latest_first : List Naming → List Naming → List Naming
latest_first so_far [] = so_far
latest_first so_far (n ∷ names) = latest_first (n ∷ so_far) names

abbrev pub scope_in : Tree → List Naming → Scope
scope_in tree names = passed (scope_behind (latest_first [] names) (declarations_of tree)) nothing_declared (declarations_of tree)

abbrev pub known_in : Tree → List Naming → Known
known_in tree names = known_of (latest_first [] names) (scope_in tree names)

abbrev pub texts_in : Tree → List Naming → Texts
texts_in tree names = passed (texts_behind (known_in tree names) (scope_in tree names).declared.procedures (texts_of tree)) no_texts (texts_of tree)

-- a fault of a declaration, and of a text, whatever others stand at its place
abbrev pub HasDeclarationFault : Tree → List Naming → Fault → Type 0
HasDeclarationFault tree names f =
    HasFaultOf (scope_behind (latest_first [] names) (declarations_of tree)) (declaration_fault (latest_first [] names) (declarations_of tree)) nothing_declared (declarations_of tree) f

abbrev pub HasTextFault : Tree → List Naming → Fault → Type 0
HasTextFault tree names f =
    HasFaultOf (texts_behind (known_in tree names) (scope_in tree names).declared.procedures (texts_of tree)) (text_fault (known_in tree names) (texts_of tree)) no_texts (texts_of tree) f

abbrev pub HasRuleFault : Tree → List Naming → Fault → Type 0
HasRuleFault tree names f = HasDeclarationFault tree names f ⊎ HasTextFault tree names f

-- the type faults of a tree with these uses of names; Y1 comes only where no other code does
pub record IsTypeFault (tree : Tree) (names : List Naming) (f : Fault) : Type 0 where
  pub is_fault : HasRuleFault tree names f
  pub alone : f.code ≡ code.Y1 → (g : Fault) → HasRuleFault tree names g → g.place ≡ f.place → g.code ≡ code.Y1

-- sizes and frames

-- how many words of a workspace an activation is counted for
abbrev pub frame_of : ℕ → ℕ → ℕ → ℕ → ℕ
frame_of params locals nest arguments = 16 + params + locals + (nest + 1) * (arguments + 6)

abbrev pub text_of : List Text → Place → Option Text
text_of [] place = None
text_of (t ∷ texts) place = if same_place t.at place then Some t else text_of texts place

abbrev pub with_text : CodeInfo → Option Text → CodeInfo
with_text info None = info
with_text info (Some t) = record info { frame = frame_of info.params info.locals t.nest t.arguments; body = t.body }

abbrev pub completed : List Text → CodeInfo → CodeInfo
completed texts info = with_text info (text_of texts info.at)

abbrev pub completed_process : List Text → ProcessInfo → ProcessInfo
completed_process texts info = record info { code = completed texts info.code }

abbrev pub completed_module : List Text → ModuleInfo → ModuleInfo
completed_module texts info = record info { body = completed texts info.body }

-- the bodies of modules in the order in which the main process runs them
abbrev pub bodies_of : List Text → List ℕ
bodies_of [] = []
bodies_of (t ∷ texts) = if t.is_body then t.body ∷ bodies_of texts else bodies_of texts

abbrev pub bodies_node : List ℕ → Node
bodies_node parts_ = record { place = nowhere; type_of = None; form = form.Bodies; parts = parts_ }

abbrev pub main_code : ℕ → CodeInfo
main_code body_ = record { at = nowhere; «module» = 0; params = 0; locals = 0; frame = frame_of 0 0 0 0; slots = []; body = body_ }

abbrev pub cell_words : List TypeInfo → Option ℕ → ℕ → ℕ
cell_words types None t = words_of types t
cell_words types (Some address) t = 0

-- the words of all variables of modules, without registers
abbrev pub data_words : List TypeInfo → List CellInfo → ℕ
data_words types [] = 0
data_words types (c ∷ cells) = cell_words types c.register c.type_of + data_words types cells

abbrev pub literal_words : Construct → ℕ
literal_words (piece.Number w) = 0
literal_words (piece.Character c) = 0
literal_words (piece.Text t) = if nat_lt (length t) 2 then 0 else length t
literal_words (piece.Name id) = 0
literal_words (piece.Select id) = 0
literal_words piece.Index = 0
literal_words piece.Designated = 0
literal_words (piece.Calling id) = 0
literal_words piece.Group = 0
literal_words piece.Negation = 0
literal_words piece.Bits = 0
literal_words piece.Element = 0
literal_words (piece.Signed s) = 0
literal_words (piece.Sum o) = 0
literal_words (piece.Product o) = 0
literal_words (piece.Comparison r) = 0
literal_words piece.Assignment = 0
literal_words (piece.Statement id) = 0
literal_words piece.If = 0
literal_words piece.While = 0
literal_words piece.Repeat = 0
literal_words piece.Loop = 0
literal_words piece.When = 0
literal_words piece.Case = 0
literal_words piece.Arm = 0
literal_words piece.Label = 0
literal_words piece.Body = 0
literal_words (piece.TypeName id) = 0
literal_words (piece.Enumeration n) = 0
literal_words (piece.EnumerationValue id) = 0
literal_words piece.Range = 0
literal_words piece.Array = 0
literal_words piece.Record = 0
literal_words (piece.FieldGroup names) = 0
literal_words (piece.Constant id) = 0
literal_words (piece.TypeDeclaration id) = 0
literal_words (piece.Variable id) = 0
literal_words (piece.Parameter passing id) = 0
literal_words piece.ResultType = 0
literal_words (piece.Heading sort id) = 0
literal_words (piece.Ending sort id) = 0
literal_words (piece.Module sort id) = 0
literal_words piece.Running = 0

-- a word for each byte of a text of two or more
abbrev pub text_words : List Piece → ℕ
text_words [] = 0
text_words (p ∷ pieces) = literal_words p.construct + text_words pieces

-- the resolved program, as contracts see it
pub record Resolved : Type 0 where
  pub modules : List ModuleInfo
  pub types : List TypeInfo
  pub cells : List CellInfo
  pub procedures : List CodeInfo
  pub processes : List ProcessInfo
  pub nodes : List Node
  pub main : CodeInfo
  pub size : ℕ

-- the resolved program of a tree of so many tokens, with these uses of names
abbrev pub program_of : Tree → List Naming → ℕ → Resolved
program_of tree names tokens =
    let d : Declared = (scope_in tree names).declared in
    let t : Texts = texts_in tree names in
    record {
      modules = map (completed_module t.texts) d.modules;
      types = d.types;
      cells = d.cells;
      procedures = map (completed t.texts) d.procedures;
      processes = map (completed_process t.texts) d.processes;
      nodes = t.nodes ++ (bodies_node (bodies_of t.texts) ∷ []);
      main = main_code (length t.nodes);
      size = 12 * tokens + data_words d.types d.cells + text_words (texts_of tree);
    }
