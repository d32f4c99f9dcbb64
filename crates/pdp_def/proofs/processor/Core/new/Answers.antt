use Rattle.std.proofs.Common.{ap, false, List, ℕ}
use Rattle.pdp_def.specs.State.{CoreState, no_words, no_words-is}
use Rattle.pdp_def.proofs.processor.Core.new.Goals as goal

pub returns : goal.returns
unfolding no_words
returns c =
    let h = no_words-is 28672 _ (c.in_ok-vec.ensures.items_if_clones_equal (λ y e. e)) in
    ap (λ (m : List ℕ). let s : CoreState = record { registers = no_words 8; ps = 0; waiting = false; memory = m } in s) h
