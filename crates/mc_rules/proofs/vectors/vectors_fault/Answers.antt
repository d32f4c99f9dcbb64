use Rattle.std.specs.Prelude.{◌≡◌, ◌<◌, ◌+◌, ℕ, List, [], ◌∷◌, ◌++◌, length, take, Option}
use Rattle.std.proofs.Common.{ap, sym, ◌∙◌, subst, arith}
use Rattle.std.proofs.lemmas.List.{take_more}
use Rattle.mc_tree.specs.declared.fault.Fault.{Fault}
use Rattle.mc_prog.specs.declared.program.ProcessInfo.{ProcessInfo}
use Rattle.mc_prog.specs.First.{IsEarlierOf}
use Rattle.mc_prog.specs.Passes.{passed}
use Rattle.mc_rules.specs.AnyOf.{IsFirstOf}
use Rattle.mc_rules.specs.Rules.{twice_fault, vectors_behind, vectors_with}
use Rattle.mc_rules.specs.RuleFaults.{IsTwiceFault}
use Rattle.mc_rules.proofs.AnyLaws.{pass-more, passed-more}
use Rattle.mc_rules.proofs.vectors.vectors_fault.Goals as goal

-- one more process
pub loop-process-preserved : goal.loop-process-preserved
loop-process-preserved c =
    let processes : List ProcessInfo = c.args.processes.now in
    let n : ℕ = c.loop-process.process-index in
    let p : ProcessInfo = c.process-item.result in
    let front : List ProcessInfo = take n processes in
    let before : List ℕ = passed vectors_behind [] front in
    let inside : n < length processes = omega (arith, c.loop-process-test.true, c.loop-process.auto.process-index-end) in
    let more : take (n + 1) processes ≡ front ++ (p ∷ []) = take_more processes n p inside ∙ ap (λ (x : ProcessInfo). front ++ (x ∷ [])) (sym c.process-item.is) in
    let same : c.as_slice.result.now ≡ before = c.as_slice.ensures.value ∙ c.loop-process.invariant.0 in (
      c.in_ok-note.ensures ∙ ap (λ (list : List ℕ). vectors_with list p.vector) c.loop-process.invariant.0 ∙ sym (passed-more vectors_behind [] front p) ∙ ap (passed vectors_behind []) (sym more),
      subst (λ (some : List ProcessInfo). IsFirstOf (IsTwiceFault some) c.earlier-first.result) (sym more)
          (pass-more vectors_behind twice_fault [] front p c.loop-process.first c.earlier-first.result c.loop-process.invariant.1
          (subst (λ (o : Option Fault). IsEarlierOf c.loop-process.first o c.earlier-first.result) (c.twice_fault.ensures ∙ ap (λ (list : List ℕ). twice_fault list p) same) c.earlier-first.ensures)),
    )
