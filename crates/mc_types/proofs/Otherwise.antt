-- What is said of the pieces that no rule of statements is for.
use Rattle.std.specs.Prelude.{◌≡◌, ℕ, List}
use Rattle.std.proofs.Common.{refl}
use Rattle.mc_tree.specs.declared.place.Place.{Place}
use Rattle.mc_prog.specs.declared.typing.Typed.{Typed}
use Rattle.mc_prog.specs.Pieces.{Around, Piece}
use Rattle.mc_prog.specs.Known.{Known}
use Rattle.mc_prog.specs.PieceTypes.{expression_piece, text_piece}
use Rattle.mc_pieces.specs.Constructs.{construct_of}
use Rattle.mc_pieces.specs.declared.piece.Construct.{Construct}
use Rattle.mc_pieces.specs.declared.piece.Construct.TheVariants as construct

pub otherwise : (k : Known) (pieces : List Piece) (typed : List Typed) (around : Around) (place : Place) (numbers : List ℕ) (parts : List Typed) (c : Construct)
    → (c ≡ construct.Assignment → ⊥) → (((id : _) → c ≡ construct.Statement id → ⊥)) → (c ≡ construct.If → ⊥) → (c ≡ construct.While → ⊥) → (c ≡ construct.Repeat → ⊥) → (c ≡ construct.When → ⊥) → (c ≡ construct.Case → ⊥) → (c ≡ construct.Label → ⊥)
    → expression_piece k typed around place numbers parts (construct_of c) ≡ text_piece k pieces typed around place numbers parts (construct_of c)
otherwise k pieces typed around place numbers parts (construct.Number w) not_assignment not_statement not_if not_while not_repeat not_when not_case not_label = refl
otherwise k pieces typed around place numbers parts (construct.Character c) not_assignment not_statement not_if not_while not_repeat not_when not_case not_label = refl
otherwise k pieces typed around place numbers parts (construct.Text t) not_assignment not_statement not_if not_while not_repeat not_when not_case not_label = refl
otherwise k pieces typed around place numbers parts (construct.Name id) not_assignment not_statement not_if not_while not_repeat not_when not_case not_label = refl
otherwise k pieces typed around place numbers parts (construct.Select id) not_assignment not_statement not_if not_while not_repeat not_when not_case not_label = refl
otherwise k pieces typed around place numbers parts construct.Index not_assignment not_statement not_if not_while not_repeat not_when not_case not_label = refl
otherwise k pieces typed around place numbers parts construct.Designated not_assignment not_statement not_if not_while not_repeat not_when not_case not_label = refl
otherwise k pieces typed around place numbers parts (construct.Calling id) not_assignment not_statement not_if not_while not_repeat not_when not_case not_label = refl
otherwise k pieces typed around place numbers parts construct.Group not_assignment not_statement not_if not_while not_repeat not_when not_case not_label = refl
otherwise k pieces typed around place numbers parts construct.Negation not_assignment not_statement not_if not_while not_repeat not_when not_case not_label = refl
otherwise k pieces typed around place numbers parts construct.Bits not_assignment not_statement not_if not_while not_repeat not_when not_case not_label = refl
otherwise k pieces typed around place numbers parts construct.Element not_assignment not_statement not_if not_while not_repeat not_when not_case not_label = refl
otherwise k pieces typed around place numbers parts (construct.Signed s) not_assignment not_statement not_if not_while not_repeat not_when not_case not_label = refl
otherwise k pieces typed around place numbers parts (construct.Sum o) not_assignment not_statement not_if not_while not_repeat not_when not_case not_label = refl
otherwise k pieces typed around place numbers parts (construct.Product o) not_assignment not_statement not_if not_while not_repeat not_when not_case not_label = refl
otherwise k pieces typed around place numbers parts (construct.Comparison r) not_assignment not_statement not_if not_while not_repeat not_when not_case not_label = refl
otherwise k pieces typed around place numbers parts construct.Assignment not_assignment not_statement not_if not_while not_repeat not_when not_case not_label = absurd (not_assignment refl)
otherwise k pieces typed around place numbers parts (construct.Statement id) not_assignment not_statement not_if not_while not_repeat not_when not_case not_label = absurd (not_statement id refl)
otherwise k pieces typed around place numbers parts construct.If not_assignment not_statement not_if not_while not_repeat not_when not_case not_label = absurd (not_if refl)
otherwise k pieces typed around place numbers parts construct.While not_assignment not_statement not_if not_while not_repeat not_when not_case not_label = absurd (not_while refl)
otherwise k pieces typed around place numbers parts construct.Repeat not_assignment not_statement not_if not_while not_repeat not_when not_case not_label = absurd (not_repeat refl)
otherwise k pieces typed around place numbers parts construct.Loop not_assignment not_statement not_if not_while not_repeat not_when not_case not_label = refl
otherwise k pieces typed around place numbers parts construct.When not_assignment not_statement not_if not_while not_repeat not_when not_case not_label = absurd (not_when refl)
otherwise k pieces typed around place numbers parts construct.Case not_assignment not_statement not_if not_while not_repeat not_when not_case not_label = absurd (not_case refl)
otherwise k pieces typed around place numbers parts construct.Arm not_assignment not_statement not_if not_while not_repeat not_when not_case not_label = refl
otherwise k pieces typed around place numbers parts construct.Label not_assignment not_statement not_if not_while not_repeat not_when not_case not_label = absurd (not_label refl)
otherwise k pieces typed around place numbers parts construct.Body not_assignment not_statement not_if not_while not_repeat not_when not_case not_label = refl
otherwise k pieces typed around place numbers parts (construct.TypeName id) not_assignment not_statement not_if not_while not_repeat not_when not_case not_label = refl
otherwise k pieces typed around place numbers parts (construct.Enumeration n) not_assignment not_statement not_if not_while not_repeat not_when not_case not_label = refl
otherwise k pieces typed around place numbers parts (construct.EnumerationValue id) not_assignment not_statement not_if not_while not_repeat not_when not_case not_label = refl
otherwise k pieces typed around place numbers parts construct.Range not_assignment not_statement not_if not_while not_repeat not_when not_case not_label = refl
otherwise k pieces typed around place numbers parts construct.Array not_assignment not_statement not_if not_while not_repeat not_when not_case not_label = refl
otherwise k pieces typed around place numbers parts construct.Record not_assignment not_statement not_if not_while not_repeat not_when not_case not_label = refl
otherwise k pieces typed around place numbers parts (construct.FieldGroup names) not_assignment not_statement not_if not_while not_repeat not_when not_case not_label = refl
otherwise k pieces typed around place numbers parts (construct.Constant id) not_assignment not_statement not_if not_while not_repeat not_when not_case not_label = refl
otherwise k pieces typed around place numbers parts (construct.TypeDeclaration id) not_assignment not_statement not_if not_while not_repeat not_when not_case not_label = refl
otherwise k pieces typed around place numbers parts (construct.Variable id) not_assignment not_statement not_if not_while not_repeat not_when not_case not_label = refl
otherwise k pieces typed around place numbers parts (construct.Parameter passing id) not_assignment not_statement not_if not_while not_repeat not_when not_case not_label = refl
otherwise k pieces typed around place numbers parts construct.ResultType not_assignment not_statement not_if not_while not_repeat not_when not_case not_label = refl
otherwise k pieces typed around place numbers parts (construct.Heading sort id) not_assignment not_statement not_if not_while not_repeat not_when not_case not_label = refl
otherwise k pieces typed around place numbers parts (construct.Ending sort id) not_assignment not_statement not_if not_while not_repeat not_when not_case not_label = refl
otherwise k pieces typed around place numbers parts (construct.Module sort id) not_assignment not_statement not_if not_while not_repeat not_when not_case not_label = refl
otherwise k pieces typed around place numbers parts construct.Running not_assignment not_statement not_if not_while not_repeat not_when not_case not_label = refl
