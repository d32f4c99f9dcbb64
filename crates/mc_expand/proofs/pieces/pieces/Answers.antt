use Rattle.std.proofs.Common.{arith, ◌≡◌, ◌+◌, ◌-◌, ◌<◌, length, ℕ, List, [], ◌∙◌, ap, take, drop, refl, get_or}
use Rattle.std.proofs.lemmas.List.{take_rest, length-drop, drop_more, drop_all}
use Rattle.mc_pcode.specs.declared.instruction.PInstr.{PInstr}
use Rattle.mc_pcode.specs.declared.instruction.PInstr.TheVariants as code
use Rattle.mc_pcode.specs.declared.instruction.Operand.TheVariants as operand
use Rattle.mc_pcode.specs.declared.instruction.Value.TheVariants.{V0}
use Rattle.mc_pcode.specs.declared.program.PEntry.{PEntry}
use Rattle.mc_pcode.specs.Code.{ProcessCode}
use Rattle.mc_expand.specs.Pieces.{goes_on, due}
use Rattle.mc_expand.proofs.Steps.{pieces_next, pieces_end, pieces_whole}
use Rattle.mc_expand.proofs.pieces.pieces.Goals as goal

pub loop-c-init : goal.loop-c-init
loop-c-init c =
    let e : c.as_slice-entries.result.now ≡ c.args.p.now.entries = c.as_slice-entries.ensures.value ∙ ap (λ (p : ProcessCode). p.entries) c.p.view_is in
    record { rest = rw (c.new-pieces.ensures.items, pieces_whole, e) refl; within = omega arith }

pub loop-c-preserved : goal.loop-c-preserved
loop-c-preserved c =
    let entries : List PEntry = c.as_slice-entries.result.now in
    let e : take (length entries - c.loop-c.n) (drop c.loop-c.n entries) ≡ drop c.loop-c.n entries = take_rest entries c.loop-c.n in
    let k : c.due-k.result ≡ due c.loop-c.c (drop c.loop-c.n entries) = c.due-k.ensures.value ∙ ap (due c.loop-c.c) e in
    let m : c.loop-c.n + c.due-k.result - c.loop-c.n ≡ c.due-k.result = omega arith in
    let all : c.deref-i-items.result.now ≡ c.args.p.now.code = c.deref-i-items.ensures.value ∙ ap (λ (p : ProcessCode). p.code) c.p.view_is in
    let d : PInstr = code.Move (operand.Const 0) V0 in
    let h : c.loop-c.c < length c.args.p.now.code = omega (arith, ap length all) in
    record {
      rest = rw (c.in_ok-push.ensures.items, c.in_ok-push_fronts.ensures, c.in_ok-push_passing.ensures, all)
          (pieces_next c.loop-c.pieces.items c.loop-c.c c.loop-c.on c.loop-c.n entries (get_or c.args.p.now.code c.loop-c.c d) c.args.p.now.code c.due-k.result (take (c.loop-c.n + c.due-k.result - c.loop-c.n) (drop c.loop-c.n entries)) c.goes_on-on.result
          k (ap (λ (j : ℕ). take j (drop c.loop-c.n entries)) m) (c.goes_on-on.ensures ∙ ap (λ (xs : List PInstr). goes_on (get_or xs c.loop-c.c d)) all) (drop_more c.args.p.now.code c.loop-c.c d h) ∙ c.loop-c.invariant.rest);
      within = omega (arith, c.due-k.ensures.within, ap length e, length-drop c.loop-c.n entries);
    }

pub returns : goal.returns
returns c =
    let entries : List PEntry = c.as_slice-entries.result.now in
    let e : take (length entries - c.loop-c.n) (drop c.loop-c.n entries) ≡ drop c.loop-c.n entries = take_rest entries c.loop-c.n in
    let all : c.deref-i-items.result.now ≡ c.args.p.now.code = c.deref-i-items.ensures.value ∙ ap (λ (p : ProcessCode). p.code) c.p.view_is in
    let none : drop c.loop-c.c c.args.p.now.code ≡ [] = drop_all c.loop-c.c c.args.p.now.code (omega (arith, ap length all)) in
    let at : c.len.result ≡ c.loop-c.c = omega (arith, c.len.ensures, ap length all, c.deref-i-items.ensures.len) in
    rw (c.in_ok-push_fronts-2.ensures, e, at, ← pieces_end c.loop-c.c c.loop-c.on c.loop-c.n (drop c.loop-c.n entries), ← none) c.loop-c.invariant.rest
