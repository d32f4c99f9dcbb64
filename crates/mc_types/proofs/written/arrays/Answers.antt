use Rattle.std.proofs.Common.{◌≡◌, ℕ, ◌+◌, ◌-◌, ◌<◌, length, ap, sym, ◌∙◌, arith, drop}
use Rattle.mc_prog.specs.Declarations.{arrays}
use Rattle.mc_types.specs.Views.{built_of}
use Rattle.mc_types.proofs.ArrayLaws.{one-more}
use Rattle.mc_types.proofs.written.arrays.Goals as goal

-- src/written.rt: one more range
pub loop-left-preserved : goal.loop-left-preserved
loop-left-preserved c =
    let n : ℕ = c.loop-left.left in
    let next : n ≡ n - 1 + 1 = omega (arith, c.loop-left-test.true) in
    let inside : n - 1 + 1 < length c.args.parts.now = omega (arith, next, c.loop-left.invariant.1) in (
      c.in_ok-said.ensures ∙ sym (one-more c.args.types.now.items c.args.place c.args.parts.now (n - 1) _ (built_of c.loop-left.said c.loop-left.types.items) inside
          (c.loop-left.invariant.0 ∙ ap (λ (k : ℕ). arrays c.args.types.now.items c.args.place (drop k c.args.parts.now)) next)),
      omega (arith, c.loop-left.invariant.1),
    )
