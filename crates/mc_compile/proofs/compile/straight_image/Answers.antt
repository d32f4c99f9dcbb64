use Rattle.std.proofs.Common.{◌≡◌, Option, length, subst, ap, ◌∙◌, arith}
use Rattle.std.specs.Prelude.{MatchOption}
use Rattle.mc_straight.specs.Form.{Straight, IsStraight}
use Rattle.mc_compile.specs.Code.{code_of}
use Rattle.mc_compile.proofs.Whole.{has_room}
use Rattle.mc_compile.proofs.compile.straight_image.Goals as goal

pub image-requires-clause-room : goal.image-requires-clause-room
image-requires-clause-room c =
    let form : Straight = c.in-Some.form in
    let straight = subst (λ (o : Option Straight). MatchOption o ((form : Straight) → IsStraight c.args.tree.now form → ⊥) (λ form. IsStraight c.args.tree.now form)) c.in-Some.is c.in_ok-form.ensures in
    let words : c.as_slice.result.now ≡ code_of form = c.as_slice.ensures.value ∙ c.in_ok-words.ensures in
    omega (arith, ap length words, has_room c.args.tree.now form c.requires straight)
