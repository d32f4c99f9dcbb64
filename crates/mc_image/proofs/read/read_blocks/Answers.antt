use Rattle.std.proofs.Common.{inr, ◌≡◌, ℕ, ◌+◌, List, [], ◌++◌, drop, get_or, sym, ◌∙◌, ap, subst, arith}
use Rattle.std.proofs.lemmas.Bool.{eqb-true}
use Rattle.std.proofs.lemmas.List.{nil_from_length, take_rest, get_or-drop}
use Rattle.std.proofs.lemmas.Result.{err_from_is_err_and}
use Rattle.mc_image.specs.declared.image.Block.{Block}
use Rattle.mc_image.specs.Blocks.{AreBlocks}
use Rattle.mc_image.specs.Format.{block_bytes, start_bytes}
use Rattle.mc_image.proofs.Reading.{over_null, over_block, may_stand, fault_here, finished, not_finished}
use Rattle.mc_image.proofs.read.read_blocks.Goals as goal

pub loop-at-preserved-then-rest-eq0 : goal.loop-at-preserved-then-rest-eq0
loop-at-preserved-then-rest-eq0 c =
    let bytes : List ℕ = c.args.bytes.now in
    let same : c.loop-at.at ≡ c.loop-at.at + 0 = omega arith in
    let here : get_or bytes c.loop-at.at 0 ≡ 0 =
    ap (λ (k : ℕ). get_or bytes k 0) same ∙ (sym (get_or-drop c.loop-at.at bytes 0 0) ∙ (ap (λ (l : List ℕ). get_or l 0 0) (sym (take_rest bytes c.loop-at.at)) ∙ c.if-rest-eq0.true)) in
    record {
      within = omega arith;
      is_read = over_null c.loop-at.at _ bytes c.loop-at-test.true here c.loop-at.invariant.is_read;
    }

pub returns-in_err-address-clause-refused : goal.returns-in_err-address-clause-refused
returns-in_err-address-clause-refused c =
    let bytes : List ℕ = c.args.bytes.now in
    let p = err_from_is_err_and c.from_residual.result c.from_residual.ensures.1 in
    rw (p.1, p.2) (inr (fault_here c.in_err-address.field-0.0 c.loop-at.at _ bytes _ (sym (take_rest bytes c.loop-at.at)) c.loop-at.invariant.is_read (c.in_err-address.ensures.refused _)))

pub returns-then-is_empty-clause-ok : goal.returns-then-is_empty-clause-ok
returns-then-is_empty-clause-ok c =
    let bytes : List ℕ = c.args.bytes.now in
    let empty : c.in_ok-address.data.now ≡ [] = nil_from_length c.in_ok-address.data.now (eqb-true _ _ (sym c.if-is_empty.ensures)) in
    let parts : drop c.loop-at.at bytes ≡ start_bytes c.in_ok-address.address ++ c.in_ok-address.left.now =
    sym (take_rest bytes c.loop-at.at) ∙ (c.in_ok-address.ensures.ok ∙ ap (λ (l : List ℕ). block_bytes c.in_ok-address.address l ++ c.in_ok-address.left.now) empty) in
    finished c.finish.result c.loop-at.at _ bytes c.in_ok-address.address c.in_ok-address.left.now parts c.loop-at.invariant.is_read c.finish.ensures.ok c.finish.ensures.even c.finish.ensures.nulls

pub returns-then-is_empty-clause-refused : goal.returns-then-is_empty-clause-refused
returns-then-is_empty-clause-refused c =
    let bytes : List ℕ = c.args.bytes.now in
    let empty : c.in_ok-address.data.now ≡ [] = nil_from_length c.in_ok-address.data.now (eqb-true _ _ (sym c.if-is_empty.ensures)) in
    let parts : drop c.loop-at.at bytes ≡ start_bytes c.in_ok-address.address ++ c.in_ok-address.left.now =
    sym (take_rest bytes c.loop-at.at) ∙ (c.in_ok-address.ensures.ok ∙ ap (λ (l : List ℕ). block_bytes c.in_ok-address.address l ++ c.in_ok-address.left.now) empty) in
    not_finished c.finish.result c.loop-at.at _ bytes (start_bytes c.in_ok-address.address ++ c.in_ok-address.left.now) parts c.loop-at.invariant.is_read c.finish.ensures.refused

pub returns-in_err-place_block-clause-refused : goal.returns-in_err-place_block-clause-refused
returns-in_err-place_block-clause-refused c =
    let bytes : List ℕ = c.args.bytes.now in
    let p = err_from_is_err_and c.from_residual-in_err-place_block.result c.from_residual-in_err-place_block.ensures.1 in
    let parts : drop c.loop-at.at bytes ≡ block_bytes c.in_ok-address.address c.in_ok-address.data.now ++ c.in_ok-address.left.now =
    sym (take_rest bytes c.loop-at.at) ∙ c.in_ok-address.ensures.ok in
    rw (p.1, p.2) (may_stand c.in_err-place_block.field-0.0 c.loop-at.at _ bytes _ parts c.loop-at.invariant.is_read (c.in_err-place_block.ensures.refused c.in_ok-address.left.now))

pub loop-at-preserved : goal.loop-at-preserved
loop-at-preserved c =
    let bytes : List ℕ = c.args.bytes.now in
    let b : Block = record { address = c.in_ok-address.address; bytes = c.in_ok-address.data.now } in
    let parts : drop c.loop-at.at bytes ≡ block_bytes c.in_ok-address.address c.in_ok-address.data.now ++ c.in_ok-address.left.now =
    sym (take_rest bytes c.loop-at.at) ∙ c.in_ok-address.ensures.ok in
    let placed = subst (λ (l : List Block). AreBlocks l) c.in_ok-place_block.ensures.added c.in_ok-place_block.ensures.placed in
    record {
      within = omega arith;
      is_read = rw c.in_ok-place_block.ensures.added (over_block c.loop-at.at _ bytes b c.in_ok-address.left.now parts placed c.loop-at.invariant.is_read);
    }
