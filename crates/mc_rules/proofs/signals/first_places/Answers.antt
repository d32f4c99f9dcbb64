use Rattle.std.specs.Prelude.{◌<◌, ℕ, List, length, take}
use Rattle.std.proofs.Common.{subst, sym, arith}
use Rattle.std.proofs.lemmas.List.{take_more, take_all}
use Rattle.mc_rules.specs.declared.call.Signalling.{Signalling}
use Rattle.mc_rules.specs.FirstPlaces.{AreFirstPlaces}
use Rattle.mc_rules.proofs.signals.first_places.Goals as goal

-- one more place
pub loop-signalling-preserved : goal.loop-signalling-preserved
loop-signalling-preserved c =
    let list : List Signalling = c.args.signallings.now in
    let n : ℕ = c.loop-signalling.signalling-index in
    let inside : n < length list = omega (arith, c.loop-signalling-test.true, c.loop-signalling.auto.signalling-index-end) in
    subst (λ (xs : List Signalling). AreFirstPlaces xs c.note_first.new.firsts) (sym (take_more list n _ inside))
    (c.in_ok-note_first.ensures (take n list) c.loop-signalling.invariant)

-- all of them
pub returns : goal.returns
returns c = subst (λ (xs : List Signalling). AreFirstPlaces xs c.loop-signalling.firsts)
    (take_all c.loop-signalling.signalling-index c.args.signallings.now (omega (arith, c.loop-signalling-test.false))) c.loop-signalling.invariant
