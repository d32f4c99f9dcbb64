use Rattle.std.proofs.Common.{◌≢◌, ℕ, Some, arith}
use Rattle.std.specs.Prelude.{map, slice_get}
use Rattle.std.proofs.lemmas.List.{length-map}
use Rattle.std.proofs.lemmas.Option.{slice_get_within}
use borrow.Author.Count.{below_more}
use Rattle.mc_straight.specs.Form.{name_of}
use Rattle.mc_straight.proofs.Forced.{is_name_there, no_name_there}
use Rattle.mc_straight.proofs.names.place_of.Goals as goal

pub returns-then-eq : goal.returns-then-eq
returns-then-eq c = is_name_there c.args.vars.now c.loop-i.i c.index-vars-i.result c.index-vars-i.result c.as_slice.result.now c.args.name.now c.index-vars-i.is (omega arith) c.as_slice.ensures c.if-eq.ensures

pub loop-i-preserved : goal.loop-i-preserved
loop-i-preserved c =
    below_more (λ (k : ℕ). slice_get (map name_of c.args.vars.now) k ≢ Some c.args.name.now) c.loop-i.i c.loop-i.invariant
    (no_name_there c.args.vars.now c.loop-i.i c.index-vars-i.result c.index-vars-i.result c.as_slice.result.now c.args.name.now c.index-vars-i.is (omega arith) c.as_slice.ensures c.if-eq.ensures)

pub returns : goal.returns
returns c = λ i e. c.loop-i.invariant i (omega (arith, slice_get_within (map name_of c.args.vars.now) i c.args.name.now e, length-map c.args.vars.now name_of)) e
