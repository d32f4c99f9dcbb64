-- What is said of the pieces that no rule of declarations is for; they declare nothing.
use Rattle.std.specs.Prelude.{◌≡◌, ℕ, List, Result, Ok, Err, IfOk, OnOk}
use Rattle.std.proofs.Common.{refl}
use Rattle.mc_tree.specs.declared.place.Place.{Place}
use Rattle.mc_prog.specs.declared.typing.Typed.{Typed}
use Rattle.mc_prog.specs.Pieces.{Around, Piece}
use Rattle.mc_prog.specs.Known.{Known}
use Rattle.mc_prog.specs.PieceTypes.{text_piece}
use Rattle.mc_prog.specs.Declarations.{Declared}
use Rattle.mc_prog.specs.DeclarationTypes.{declaration_piece, with_declaration}
use Rattle.mc_pieces.specs.Constructs.{construct_of}
use Rattle.mc_pieces.specs.declared.piece.Construct.{Construct}
use Rattle.mc_pieces.specs.declared.piece.Construct.TheVariants as construct

pub if-ok : {A E : Type 0} (P Q : A → Type 0) (r : Result A E) → IfOk r P → ((a : A) → P a → Q a) → IfOk r Q
if-ok P Q (Ok a) h f = f a h
if-ok P Q (Err e) h f = h

pub on-ok : {A E : Type 0} (r : Result A E) (X : Type 0) → X → OnOk r X
on-ok (Ok a) X x = x
on-ok (Err e) X x = tt

pub no-declaration : (k : Known) (m : ℕ) (pieces : List Piece) (typed : List Typed) (d : Declared) (around : Around) (place : Place) (numbers : List ℕ) (parts : List Typed) (c : Construct)
    → ((id : _) → c ≡ construct.TypeName id → ⊥) → ((n : _) → c ≡ construct.Enumeration n → ⊥) → ((id : _) → c ≡ construct.EnumerationValue id → ⊥) → (c ≡ construct.Range → ⊥) → (c ≡ construct.Array → ⊥) → (c ≡ construct.Record → ⊥) → ((ids : _) → c ≡ construct.FieldGroup ids → ⊥) → ((id : _) → c ≡ construct.Constant id → ⊥) → ((id : _) → c ≡ construct.TypeDeclaration id → ⊥) → ((id : _) → c ≡ construct.Variable id → ⊥) → ((passing : _) → (id : _) → c ≡ construct.Parameter passing id → ⊥) → (c ≡ construct.ResultType → ⊥) → ((sort : _) → (id : _) → c ≡ construct.Heading sort id → ⊥) → ((sort : _) → (id : _) → c ≡ construct.Ending sort id → ⊥) → ((sort : _) → (id : _) → c ≡ construct.Module sort id → ⊥)
    → (text_piece k pieces typed around place numbers parts (construct_of c) ≡ declaration_piece k pieces typed d around place numbers parts (construct_of c))
    × (d ≡ with_declaration m pieces typed around place numbers parts (construct_of c) d)
no-declaration k m pieces typed d around place numbers parts (construct.Number w) not_TypeName not_Enumeration not_EnumerationValue not_Range not_Array not_Record not_FieldGroup not_Constant not_TypeDeclaration not_Variable not_Parameter not_ResultType not_Heading not_Ending not_Module = (refl, refl)
no-declaration k m pieces typed d around place numbers parts (construct.Character c) not_TypeName not_Enumeration not_EnumerationValue not_Range not_Array not_Record not_FieldGroup not_Constant not_TypeDeclaration not_Variable not_Parameter not_ResultType not_Heading not_Ending not_Module = (refl, refl)
no-declaration k m pieces typed d around place numbers parts (construct.Text t) not_TypeName not_Enumeration not_EnumerationValue not_Range not_Array not_Record not_FieldGroup not_Constant not_TypeDeclaration not_Variable not_Parameter not_ResultType not_Heading not_Ending not_Module = (refl, refl)
no-declaration k m pieces typed d around place numbers parts (construct.Name id) not_TypeName not_Enumeration not_EnumerationValue not_Range not_Array not_Record not_FieldGroup not_Constant not_TypeDeclaration not_Variable not_Parameter not_ResultType not_Heading not_Ending not_Module = (refl, refl)
no-declaration k m pieces typed d around place numbers parts (construct.Select id) not_TypeName not_Enumeration not_EnumerationValue not_Range not_Array not_Record not_FieldGroup not_Constant not_TypeDeclaration not_Variable not_Parameter not_ResultType not_Heading not_Ending not_Module = (refl, refl)
no-declaration k m pieces typed d around place numbers parts construct.Index not_TypeName not_Enumeration not_EnumerationValue not_Range not_Array not_Record not_FieldGroup not_Constant not_TypeDeclaration not_Variable not_Parameter not_ResultType not_Heading not_Ending not_Module = (refl, refl)
no-declaration k m pieces typed d around place numbers parts construct.Designated not_TypeName not_Enumeration not_EnumerationValue not_Range not_Array not_Record not_FieldGroup not_Constant not_TypeDeclaration not_Variable not_Parameter not_ResultType not_Heading not_Ending not_Module = (refl, refl)
no-declaration k m pieces typed d around place numbers parts (construct.Calling id) not_TypeName not_Enumeration not_EnumerationValue not_Range not_Array not_Record not_FieldGroup not_Constant not_TypeDeclaration not_Variable not_Parameter not_ResultType not_Heading not_Ending not_Module = (refl, refl)
no-declaration k m pieces typed d around place numbers parts construct.Group not_TypeName not_Enumeration not_EnumerationValue not_Range not_Array not_Record not_FieldGroup not_Constant not_TypeDeclaration not_Variable not_Parameter not_ResultType not_Heading not_Ending not_Module = (refl, refl)
no-declaration k m pieces typed d around place numbers parts construct.Negation not_TypeName not_Enumeration not_EnumerationValue not_Range not_Array not_Record not_FieldGroup not_Constant not_TypeDeclaration not_Variable not_Parameter not_ResultType not_Heading not_Ending not_Module = (refl, refl)
no-declaration k m pieces typed d around place numbers parts construct.Bits not_TypeName not_Enumeration not_EnumerationValue not_Range not_Array not_Record not_FieldGroup not_Constant not_TypeDeclaration not_Variable not_Parameter not_ResultType not_Heading not_Ending not_Module = (refl, refl)
no-declaration k m pieces typed d around place numbers parts construct.Element not_TypeName not_Enumeration not_EnumerationValue not_Range not_Array not_Record not_FieldGroup not_Constant not_TypeDeclaration not_Variable not_Parameter not_ResultType not_Heading not_Ending not_Module = (refl, refl)
no-declaration k m pieces typed d around place numbers parts (construct.Signed s) not_TypeName not_Enumeration not_EnumerationValue not_Range not_Array not_Record not_FieldGroup not_Constant not_TypeDeclaration not_Variable not_Parameter not_ResultType not_Heading not_Ending not_Module = (refl, refl)
no-declaration k m pieces typed d around place numbers parts (construct.Sum o) not_TypeName not_Enumeration not_EnumerationValue not_Range not_Array not_Record not_FieldGroup not_Constant not_TypeDeclaration not_Variable not_Parameter not_ResultType not_Heading not_Ending not_Module = (refl, refl)
no-declaration k m pieces typed d around place numbers parts (construct.Product o) not_TypeName not_Enumeration not_EnumerationValue not_Range not_Array not_Record not_FieldGroup not_Constant not_TypeDeclaration not_Variable not_Parameter not_ResultType not_Heading not_Ending not_Module = (refl, refl)
no-declaration k m pieces typed d around place numbers parts (construct.Comparison r) not_TypeName not_Enumeration not_EnumerationValue not_Range not_Array not_Record not_FieldGroup not_Constant not_TypeDeclaration not_Variable not_Parameter not_ResultType not_Heading not_Ending not_Module = (refl, refl)
no-declaration k m pieces typed d around place numbers parts construct.Assignment not_TypeName not_Enumeration not_EnumerationValue not_Range not_Array not_Record not_FieldGroup not_Constant not_TypeDeclaration not_Variable not_Parameter not_ResultType not_Heading not_Ending not_Module = (refl, refl)
no-declaration k m pieces typed d around place numbers parts (construct.Statement id) not_TypeName not_Enumeration not_EnumerationValue not_Range not_Array not_Record not_FieldGroup not_Constant not_TypeDeclaration not_Variable not_Parameter not_ResultType not_Heading not_Ending not_Module = (refl, refl)
no-declaration k m pieces typed d around place numbers parts construct.If not_TypeName not_Enumeration not_EnumerationValue not_Range not_Array not_Record not_FieldGroup not_Constant not_TypeDeclaration not_Variable not_Parameter not_ResultType not_Heading not_Ending not_Module = (refl, refl)
no-declaration k m pieces typed d around place numbers parts construct.While not_TypeName not_Enumeration not_EnumerationValue not_Range not_Array not_Record not_FieldGroup not_Constant not_TypeDeclaration not_Variable not_Parameter not_ResultType not_Heading not_Ending not_Module = (refl, refl)
no-declaration k m pieces typed d around place numbers parts construct.Repeat not_TypeName not_Enumeration not_EnumerationValue not_Range not_Array not_Record not_FieldGroup not_Constant not_TypeDeclaration not_Variable not_Parameter not_ResultType not_Heading not_Ending not_Module = (refl, refl)
no-declaration k m pieces typed d around place numbers parts construct.Loop not_TypeName not_Enumeration not_EnumerationValue not_Range not_Array not_Record not_FieldGroup not_Constant not_TypeDeclaration not_Variable not_Parameter not_ResultType not_Heading not_Ending not_Module = (refl, refl)
no-declaration k m pieces typed d around place numbers parts construct.When not_TypeName not_Enumeration not_EnumerationValue not_Range not_Array not_Record not_FieldGroup not_Constant not_TypeDeclaration not_Variable not_Parameter not_ResultType not_Heading not_Ending not_Module = (refl, refl)
no-declaration k m pieces typed d around place numbers parts construct.Case not_TypeName not_Enumeration not_EnumerationValue not_Range not_Array not_Record not_FieldGroup not_Constant not_TypeDeclaration not_Variable not_Parameter not_ResultType not_Heading not_Ending not_Module = (refl, refl)
no-declaration k m pieces typed d around place numbers parts construct.Arm not_TypeName not_Enumeration not_EnumerationValue not_Range not_Array not_Record not_FieldGroup not_Constant not_TypeDeclaration not_Variable not_Parameter not_ResultType not_Heading not_Ending not_Module = (refl, refl)
no-declaration k m pieces typed d around place numbers parts construct.Label not_TypeName not_Enumeration not_EnumerationValue not_Range not_Array not_Record not_FieldGroup not_Constant not_TypeDeclaration not_Variable not_Parameter not_ResultType not_Heading not_Ending not_Module = (refl, refl)
no-declaration k m pieces typed d around place numbers parts construct.Body not_TypeName not_Enumeration not_EnumerationValue not_Range not_Array not_Record not_FieldGroup not_Constant not_TypeDeclaration not_Variable not_Parameter not_ResultType not_Heading not_Ending not_Module = (refl, refl)
no-declaration k m pieces typed d around place numbers parts (construct.TypeName id) not_TypeName not_Enumeration not_EnumerationValue not_Range not_Array not_Record not_FieldGroup not_Constant not_TypeDeclaration not_Variable not_Parameter not_ResultType not_Heading not_Ending not_Module = absurd (not_TypeName id refl)
no-declaration k m pieces typed d around place numbers parts (construct.Enumeration n) not_TypeName not_Enumeration not_EnumerationValue not_Range not_Array not_Record not_FieldGroup not_Constant not_TypeDeclaration not_Variable not_Parameter not_ResultType not_Heading not_Ending not_Module = absurd (not_Enumeration n refl)
no-declaration k m pieces typed d around place numbers parts (construct.EnumerationValue id) not_TypeName not_Enumeration not_EnumerationValue not_Range not_Array not_Record not_FieldGroup not_Constant not_TypeDeclaration not_Variable not_Parameter not_ResultType not_Heading not_Ending not_Module = absurd (not_EnumerationValue id refl)
no-declaration k m pieces typed d around place numbers parts construct.Range not_TypeName not_Enumeration not_EnumerationValue not_Range not_Array not_Record not_FieldGroup not_Constant not_TypeDeclaration not_Variable not_Parameter not_ResultType not_Heading not_Ending not_Module = absurd (not_Range refl)
no-declaration k m pieces typed d around place numbers parts construct.Array not_TypeName not_Enumeration not_EnumerationValue not_Range not_Array not_Record not_FieldGroup not_Constant not_TypeDeclaration not_Variable not_Parameter not_ResultType not_Heading not_Ending not_Module = absurd (not_Array refl)
no-declaration k m pieces typed d around place numbers parts construct.Record not_TypeName not_Enumeration not_EnumerationValue not_Range not_Array not_Record not_FieldGroup not_Constant not_TypeDeclaration not_Variable not_Parameter not_ResultType not_Heading not_Ending not_Module = absurd (not_Record refl)
no-declaration k m pieces typed d around place numbers parts (construct.FieldGroup ids) not_TypeName not_Enumeration not_EnumerationValue not_Range not_Array not_Record not_FieldGroup not_Constant not_TypeDeclaration not_Variable not_Parameter not_ResultType not_Heading not_Ending not_Module = absurd (not_FieldGroup ids refl)
no-declaration k m pieces typed d around place numbers parts (construct.Constant id) not_TypeName not_Enumeration not_EnumerationValue not_Range not_Array not_Record not_FieldGroup not_Constant not_TypeDeclaration not_Variable not_Parameter not_ResultType not_Heading not_Ending not_Module = absurd (not_Constant id refl)
no-declaration k m pieces typed d around place numbers parts (construct.TypeDeclaration id) not_TypeName not_Enumeration not_EnumerationValue not_Range not_Array not_Record not_FieldGroup not_Constant not_TypeDeclaration not_Variable not_Parameter not_ResultType not_Heading not_Ending not_Module = absurd (not_TypeDeclaration id refl)
no-declaration k m pieces typed d around place numbers parts (construct.Variable id) not_TypeName not_Enumeration not_EnumerationValue not_Range not_Array not_Record not_FieldGroup not_Constant not_TypeDeclaration not_Variable not_Parameter not_ResultType not_Heading not_Ending not_Module = absurd (not_Variable id refl)
no-declaration k m pieces typed d around place numbers parts (construct.Parameter passing id) not_TypeName not_Enumeration not_EnumerationValue not_Range not_Array not_Record not_FieldGroup not_Constant not_TypeDeclaration not_Variable not_Parameter not_ResultType not_Heading not_Ending not_Module = absurd (not_Parameter passing id refl)
no-declaration k m pieces typed d around place numbers parts construct.ResultType not_TypeName not_Enumeration not_EnumerationValue not_Range not_Array not_Record not_FieldGroup not_Constant not_TypeDeclaration not_Variable not_Parameter not_ResultType not_Heading not_Ending not_Module = absurd (not_ResultType refl)
no-declaration k m pieces typed d around place numbers parts (construct.Heading sort id) not_TypeName not_Enumeration not_EnumerationValue not_Range not_Array not_Record not_FieldGroup not_Constant not_TypeDeclaration not_Variable not_Parameter not_ResultType not_Heading not_Ending not_Module = absurd (not_Heading sort id refl)
no-declaration k m pieces typed d around place numbers parts (construct.Ending sort id) not_TypeName not_Enumeration not_EnumerationValue not_Range not_Array not_Record not_FieldGroup not_Constant not_TypeDeclaration not_Variable not_Parameter not_ResultType not_Heading not_Ending not_Module = absurd (not_Ending sort id refl)
no-declaration k m pieces typed d around place numbers parts (construct.Module sort id) not_TypeName not_Enumeration not_EnumerationValue not_Range not_Array not_Record not_FieldGroup not_Constant not_TypeDeclaration not_Variable not_Parameter not_ResultType not_Heading not_Ending not_Module = absurd (not_Module sort id refl)
no-declaration k m pieces typed d around place numbers parts construct.Running not_TypeName not_Enumeration not_EnumerationValue not_Range not_Array not_Record not_FieldGroup not_Constant not_TypeDeclaration not_Variable not_Parameter not_ResultType not_Heading not_Ending not_Module = (refl, refl)
