use Rattle.std.proofs.Common.{◌≡◌, ◌<◌, ◌+◌, [], get_or, ap, ◌∙◌, sym, subst, take, length, arith}
use Rattle.std.proofs.lemmas.List.{take_more, length-take-le, get_or_default}
use Rattle.mc_prog.specs.Notes.{Item}
use Rattle.mc_prog.specs.Scopes.{Before, placed}
use Rattle.mc_resolve.specs.Stands.{Stands, with_item}
use Rattle.mc_resolve.proofs.Placing.{placed-last, length-placed}
use Rattle.mc_resolve.proofs.resolver.behind.Goals as goal

pub loop-number-preserved : goal.loop-number-preserved
loop-number-preserved c =
    let items = c.args.items.now in
    let n = c.loop-number.number in
    let before : Before = placed [] (take n items) in
    let inside : n < length items = omega (arith, c.loop-number-test.true, c.loop-number.auto.number-end) in
    let count : n ≡ length before = sym (length-placed [] (take n items) ∙ omega (arith, length-take-le n items (omega (arith, inside)))) in
    let item = c.index-items-number.result in
    let same : get_or items n item ≡ item = grind (arith, get_or_default, c.index-items-number.is) in
    let more : placed [] (take (n + 1) items) ≡ with_item item before = ap (placed []) (take_more items n item inside) ∙ placed-last [] (take n items) (get_or items n item) ∙ ap (λ (i : Item). with_item i before) same in
    subst (λ (b : Before). Stands b c.step.new.self) (sym more) (c.in_ok-step.ensures before count c.loop-number.invariant)
