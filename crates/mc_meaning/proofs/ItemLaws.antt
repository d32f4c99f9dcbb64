-- Lists of items that are built from the front: what is left where a list has ended.
use Rattle.std.specs.Prelude.{◌≡◌, ◌≤◌, ◌<◌, ℕ, suc, ◌+◌, ◌-◌, List, [], ◌∷◌, ◌++◌, length, drop}
use Rattle.std.proofs.Common.{ap, arith, ◌∙◌, sym, refl, append_assoc, get_or}
use Rattle.std.proofs.lemmas.List.{drop_all}
use Rattle.std.proofs.Math.Numerals.{add-one}
use Rattle.std.proofs.Math.Seq.{drop-cons}
use Rattle.mc_prog.specs.declared.program.Slot.{Slot}
use Rattle.mc_prog.specs.Resolved.{Resolved}
use Rattle.mc_meaning.specs.declared.process.Item.{Item}
use Rattle.mc_meaning.specs.declared.process.Item.TheVariants.{Clears, Moves}
use Rattle.mc_meaning.specs.declared.process.Reference.{Reference}
use Rattle.mc_meaning.specs.declared.store.Found.{Found}
use Rattle.mc_meaning.specs.declared.store.Name.{Name}
use Rattle.mc_meaning.specs.declared.store.Name.TheVariants.{Private}
use Rattle.mc_meaning.specs.declared.store.Source.TheVariants as source
use Rattle.mc_meaning.specs.Access.{moved_name}
use Rattle.mc_meaning.specs.Calling.{clears, copies, references_for, scalars_for, word_moves}
use Rattle.mc_meaning.specs.Parts.{argument_items}

nothing-behind : {A : Type 0} (xs : List A) → xs ≡ xs ++ []
nothing-behind [] = refl
nothing-behind (x ∷ xs) = ap (λ ys. x ∷ ys) (nothing-behind xs)

no-slots : (p : Resolved) (arguments : List ℕ) → argument_items p [] arguments ≡ []
no-slots p [] = refl
no-slots p (n ∷ arguments) = refl

no-arguments : (p : Resolved) (slots : List Slot) → argument_items p slots [] ≡ []
no-arguments p [] = refl
no-arguments p (s ∷ slots) = refl

pub slots-end : (p : Resolved) (slots : List Slot) (arguments : List ℕ) (i : ℕ) (done all : List Item) → length slots ≤ i
    → done ++ argument_items p (drop i slots) arguments ≡ all → done ≡ all
slots-end p slots arguments i done all past e =
    nothing-behind done ∙ ap (λ (rest : List Item). done ++ rest) (sym (no-slots p arguments)) ∙ ap (λ (left : List Slot). done ++ argument_items p left arguments) (sym (drop_all i slots past)) ∙ e

pub arguments-end : (p : Resolved) (slots : List Slot) (arguments : List ℕ) (i : ℕ) (done all : List Item) → length arguments ≤ i
    → done ++ argument_items p slots (drop i arguments) ≡ all → done ≡ all
arguments-end p slots arguments i done all past e =
    nothing-behind done ∙ ap (λ (rest : List Item). done ++ rest) (sym (no-arguments p slots)) ∙ ap (λ (left : List ℕ). done ++ argument_items p slots left) (sym (drop_all i arguments past)) ∙ e

one-less : (k n : ℕ) → k < n → n - k ≡ suc (n - (k + 1))
one-less k n less = omega arith

-- one word more was set to zero
pub cleared-one : (name : Name) (k words : ℕ) (before after all : List Item) → k < words → after ≡ before ++ (Clears (moved_name name k) ∷ [])
    → before ++ clears name k (words - k) ≡ all → after ++ clears name (k + 1) (words - (k + 1)) ≡ all
cleared-one name k words before after all less put so-far =
    ap (λ (items : List Item). items ++ clears name (k + 1) (words - (k + 1))) put ∙ append_assoc before (Clears (moved_name name k) ∷ []) _
    ∙ ap (λ (left : ℕ). before ++ clears name k left) (sym (one-less k words less)) ∙ so-far

-- one word more is moved
pub moved-one : (to from : Name) (k words : ℕ) (before after all : List Item) → k < words → after ≡ before ++ (Moves (moved_name to k) (source.Stored (moved_name from k)) ∷ [])
    → before ++ word_moves to from k (words - k) ≡ all → after ++ word_moves to from (k + 1) (words - (k + 1)) ≡ all
moved-one to from k words before after all less put so-far =
    ap (λ (items : List Item). items ++ word_moves to from (k + 1) (words - (k + 1))) put ∙ append_assoc before (Moves (moved_name to k) (source.Stored (moved_name from k)) ∷ []) _
    ∙ ap (λ (left : ℕ). before ++ word_moves to from k left) (sym (one-less k words less)) ∙ so-far

-- Lists over slots and arguments, where one of the two has ended

no-copy-slots : (p : Resolved) (n activation k : ℕ) (arguments : List Found) → copies p n activation k [] arguments ≡ []
no-copy-slots p n activation k [] = refl
no-copy-slots p n activation k (f ∷ arguments) = refl

no-copy-arguments : (p : Resolved) (n activation k : ℕ) (slots : List Slot) → copies p n activation k slots [] ≡ []
no-copy-arguments p n activation k [] = refl
no-copy-arguments p n activation k (s ∷ slots) = refl

no-reference-slots : (k : ℕ) (arguments : List Found) → references_for k [] arguments ≡ []
no-reference-slots k [] = refl
no-reference-slots k (f ∷ arguments) = refl

no-reference-arguments : (k : ℕ) (slots : List Slot) → references_for k slots [] ≡ []
no-reference-arguments k [] = refl
no-reference-arguments k (s ∷ slots) = refl

no-scalar-slots : (n activation k : ℕ) (arguments : List Found) → scalars_for n activation k [] arguments ≡ []
no-scalar-slots n activation k [] = refl
no-scalar-slots n activation k (f ∷ arguments) = refl

no-scalar-arguments : (n activation k : ℕ) (slots : List Slot) → scalars_for n activation k slots [] ≡ []
no-scalar-arguments n activation k [] = refl
no-scalar-arguments n activation k (s ∷ slots) = refl

pub copy-slots-end : (p : Resolved) (n activation k : ℕ) (slots : List Slot) (arguments : List Found) (done all : List Item) → length slots ≤ k
    → done ++ copies p n activation k (drop k slots) arguments ≡ all → done ≡ all
copy-slots-end p n activation k slots arguments done all past e =
    nothing-behind done ∙ ap (λ (rest : List Item). done ++ rest) (sym (no-copy-slots p n activation k arguments)) ∙ ap (λ (left : List Slot). done ++ copies p n activation k left arguments) (sym (drop_all k slots past)) ∙ e

pub copy-arguments-end : (p : Resolved) (n activation k : ℕ) (slots : List Slot) (arguments : List Found) (done all : List Item) → length arguments ≤ k
    → done ++ copies p n activation k slots (drop k arguments) ≡ all → done ≡ all
copy-arguments-end p n activation k slots arguments done all past e =
    nothing-behind done ∙ ap (λ (rest : List Item). done ++ rest) (sym (no-copy-arguments p n activation k slots)) ∙ ap (λ (left : List Found). done ++ copies p n activation k slots left) (sym (drop_all k arguments past)) ∙ e

pub reference-slots-end : (k : ℕ) (slots : List Slot) (arguments : List Found) (done all : List Reference) → length slots ≤ k
    → done ++ references_for k (drop k slots) arguments ≡ all → done ≡ all
reference-slots-end k slots arguments done all past e =
    nothing-behind done ∙ ap (λ (rest : List Reference). done ++ rest) (sym (no-reference-slots k arguments)) ∙ ap (λ (left : List Slot). done ++ references_for k left arguments) (sym (drop_all k slots past)) ∙ e

pub reference-arguments-end : (k : ℕ) (slots : List Slot) (arguments : List Found) (done all : List Reference) → length arguments ≤ k
    → done ++ references_for k slots (drop k arguments) ≡ all → done ≡ all
reference-arguments-end k slots arguments done all past e =
    nothing-behind done ∙ ap (λ (rest : List Reference). done ++ rest) (sym (no-reference-arguments k slots)) ∙ ap (λ (left : List Found). done ++ references_for k slots left) (sym (drop_all k arguments past)) ∙ e

pub scalar-slots-end : (n activation k : ℕ) (slots : List Slot) (arguments : List Found) (done all : List (Name × ℕ)) → length slots ≤ k
    → done ++ scalars_for n activation k (drop k slots) arguments ≡ all → done ≡ all
scalar-slots-end n activation k slots arguments done all past e =
    nothing-behind done ∙ ap (λ (rest : List (Name × ℕ)). done ++ rest) (sym (no-scalar-slots n activation k arguments)) ∙ ap (λ (left : List Slot). done ++ scalars_for n activation k left arguments) (sym (drop_all k slots past)) ∙ e

pub scalar-arguments-end : (n activation k : ℕ) (slots : List Slot) (arguments : List Found) (done all : List (Name × ℕ)) → length arguments ≤ k
    → done ++ scalars_for n activation k slots (drop k arguments) ≡ all → done ≡ all
scalar-arguments-end n activation k slots arguments done all past e =
    nothing-behind done ∙ ap (λ (rest : List (Name × ℕ)). done ++ rest) (sym (no-scalar-arguments n activation k slots)) ∙ ap (λ (left : List Found). done ++ scalars_for n activation k slots left) (sym (drop_all k arguments past)) ∙ e

-- the next one of a list
pub next-of : {A : Type 0} (xs : List A) (i : ℕ) (d : A) → i < length xs → drop i xs ≡ get_or xs i d ∷ drop (i + 1) xs
next-of xs i d less = drop-cons xs i d less ∙ ap (λ j. get_or xs i d ∷ drop j xs) (sym (add-one i))
