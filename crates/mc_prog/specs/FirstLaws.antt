-- There is at most one first fault.
use Rattle.std.specs.Prelude.{◌≡◌, ℕ, List, [], ◌∷◌, Option, Some, None, slice_get, unwrap_or, refl}
use Rattle.std.proofs.Common.{sym, ◌∙◌, ap, inl, inr, arith}
use Rattle.mc_tree.specs.declared.place.Place.{Place}
use Rattle.mc_tree.specs.declared.fault.Code.{Code}
use Rattle.mc_tree.specs.declared.fault.Code.TheVariants.{BadByte, NumberTooLarge, OpenComment, OpenText, Unexpected, TooDeep, S1, S2, S3, S4, S5, Y1, Y2, Y3, Y4, Y5, Y6, Y7, Y8, M1, M2, M3, M4, M5, M6, M7, M8, M9, M10}
use Rattle.mc_tree.specs.declared.fault.Fault.{Fault}
use Rattle.mc_prog.specs.First.{number_of, IsNotAfter, IsFirst}

-- the codes by their numbers
all_codes : List Code
all_codes = BadByte ∷ NumberTooLarge ∷ OpenComment ∷ OpenText ∷ Unexpected ∷ TooDeep ∷ S1 ∷ S2 ∷ S3 ∷ S4 ∷ S5 ∷ Y1 ∷ Y2 ∷ Y3 ∷ Y4 ∷ Y5 ∷ Y6 ∷ Y7 ∷ Y8 ∷ M1 ∷ M2 ∷ M3 ∷ M4 ∷ M5 ∷ M6 ∷ M7 ∷ M8 ∷ M9 ∷ M10 ∷ []

code_of : ℕ → Code
code_of n = unwrap_or (slice_get all_codes n) BadByte

numbered : (c : Code) → code_of (number_of c) ≡ c
unfolding all_codes code_of
numbered BadByte = refl
numbered NumberTooLarge = refl
numbered OpenComment = refl
numbered OpenText = refl
numbered Unexpected = refl
numbered TooDeep = refl
numbered S1 = refl
numbered S2 = refl
numbered S3 = refl
numbered S4 = refl
numbered S5 = refl
numbered Y1 = refl
numbered Y2 = refl
numbered Y3 = refl
numbered Y4 = refl
numbered Y5 = refl
numbered Y6 = refl
numbered Y7 = refl
numbered Y8 = refl
numbered M1 = refl
numbered M2 = refl
numbered M3 = refl
numbered M4 = refl
numbered M5 = refl
numbered M6 = refl
numbered M7 = refl
numbered M8 = refl
numbered M9 = refl
numbered M10 = refl

-- two codes of one number are one
pub one_number : (c d : Code) → number_of c ≡ number_of d → c ≡ d
one_number c d e = sym (numbered c) ∙ ap code_of e ∙ numbered d

-- faults of which neither comes after the other are one
both_ways : (f g : Fault) → IsNotAfter f g → IsNotAfter g f → f ≡ g
both_ways f g (inl (inl a)) (inl (inl b)) = absurd (omega (arith, a, b))
both_ways f g (inl (inl a)) (inl (inr b)) = absurd (omega (arith, a, b.0))
both_ways f g (inl (inr a)) (inl (inl b)) = absurd (omega (arith, a.0, b))
both_ways f g (inl (inr a)) (inl (inr b)) = absurd (omega (arith, a.1, b.1))
both_ways f g (inl (inl a)) (inr b) = absurd (omega (arith, a, ap (λ (p : Place). p.line) b.0))
both_ways f g (inl (inr a)) (inr b) = absurd (omega (arith, a.1, ap (λ (p : Place). p.column) b.0))
both_ways f g (inr a) (inl (inl b)) = absurd (omega (arith, b, ap (λ (p : Place). p.line) a.0))
both_ways f g (inr a) (inl (inr b)) = absurd (omega (arith, b.1, ap (λ (p : Place). p.column) a.0))
both_ways f g (inr a) (inr b) =
    let codes_ = one_number f.code g.code (omega (arith, a.1, b.1)) in
    let places = a.0 in
    λ i. record { code = codes_ i; place = places i }

pub one_first : (IsFault : Fault → Type 0) (f g : Fault) → IsFirst IsFault f → IsFirst IsFault g → f ≡ g
one_first IsFault f g h k = both_ways f g (h.first g k.is_fault) (k.first f h.is_fault)
