use Rattle.std.proofs.Common.{ℕ, ◌<◌, ◌+◌, ◌-◌, List, ◌++◌, take, drop, get_or, refl, sym, ◌∙◌, ap, arith}
use Rattle.std.proofs.lemmas.List.{get_or-drop, take_rest}
use Rattle.mc_image.specs.Format.{block_bytes}
use Rattle.mc_image.proofs.Headers.{block_there, bad_sum}
use Rattle.mc_image.proofs.read.whole_block.Goals as goal

pub returns-then-sum_of-ne0-clause-refused : goal.returns-then-sum_of-ne0-clause-refused
returns-then-sum_of-ne0-clause-refused c = λ blocks.
    (refl, bad_sum c.in_ok-count.count c.in_ok-count.address c.args.rest.now c.in_ok-count.ensures.ok (λ e. c.if-sum_of-ne0.true (c.sum_of.ensures ∙ e)))

pub returns-clause-ok : goal.returns-clause-ok
returns-clause-ok c =
    let rest : List ℕ = c.args.rest.now in
    let count : ℕ = c.in_ok-count.count in
    let fits : (i : ℕ) → get_or (drop 6 rest) i 0 < 256 = λ i. omega (arith, get_or-drop 6 rest i 0, c.type_inv.rest (6 + i)) in
    block_there count c.in_ok-count.address rest fits c.in_ok-count.ensures.ok (sym c.sum_of.ensures ∙ c.if-sum_of-ne0.false)
    ∙ ap (λ (l : List ℕ). block_bytes c.in_ok-count.address (take (count - 6) (drop 6 rest)) ++ l) (sym (take_rest rest (count + 1)))
