-- Arrays over one more range.
use Rattle.std.specs.Prelude.{◌≡◌, ℕ, ◌<◌, ◌+◌, List, ◌∷◌, length}
use Rattle.std.proofs.Common.{ap, ◌∙◌, sym, refl, arith, drop, get_or}
use Rattle.std.proofs.lemmas.List.{drop_more}
use Rattle.mc_tree.specs.declared.place.Place.{Place}
use Rattle.mc_prog.specs.declared.program.TypeInfo.{TypeInfo}
use Rattle.mc_prog.specs.declared.typing.Typed.{Typed}
use Rattle.mc_prog.specs.Declarations.{Built, arrays, array_over}

over-more : (types : List TypeInfo) (place : Place) (range next : Typed) (more : List Typed) → arrays types place (range ∷ (next ∷ more)) ≡ array_over place range.meaning (arrays types place (next ∷ more)) (arrays types place (next ∷ more)).meaning
over-more types place range next more = refl

pub one-more : (types : List TypeInfo) (place : Place) (parts : List Typed) (i : ℕ) (d : Typed) (inner : Built) → i + 1 < length parts → inner ≡ arrays types place (drop (i + 1) parts)
    → arrays types place (drop i parts) ≡ array_over place (get_or parts i d).meaning inner inner.meaning
one-more types place parts i d inner inside is =
    ap (arrays types place) (drop_more parts i d (omega (arith, inside)) ∙ ap (λ (left : List Typed). get_or parts i d ∷ left) (drop_more parts (i + 1) d inside))
    ∙ ap (λ (b : Built). array_over place (get_or parts i d).meaning b b.meaning) (ap (arrays types place) (sym (drop_more parts (i + 1) d inside)) ∙ sym is)
