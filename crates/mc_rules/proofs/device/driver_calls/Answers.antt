use Rattle.std.proofs.Common.{◌≡◌, ◌<◌, ◌+◌, ◌∷◌, ◌++◌, [], ℕ, List, refl, ap, ◌∙◌, sym, subst, take, length, arith, Vec, Global}
use Rattle.std.proofs.lemmas.Bool.{false≢true}
use Rattle.std.proofs.lemmas.List.{take_more, take_all}
use Rattle.mc_prog.specs.declared.program.ProcessInfo.{ProcessInfo}
use Rattle.mc_rules.specs.declared.call.Call.{Call}
use Rattle.mc_rules.specs.Following.{IsDriverCall}
use Rattle.mc_rules.specs.Gathering.{Adds}
use Rattle.mc_rules.proofs.AddLaws.{contains-added}
use Rattle.mc_rules.proofs.DriverLaws.{driver-more, driver-none}
use Rattle.mc_rules.proofs.device.driver_calls.Goals as goal
use Rattle.mc_rules.proofs.device.driver_calls.Goals.{then-is_some+in_ok-gather, else-is_some}

-- src/device.rt: one process more
pub loop-process-preserved : goal.loop-process-preserved
loop-process-preserved c =
    let processes : List ProcessInfo = c.args.processes.now in
    let n : ℕ = c.loop-process.process-index in
    let q : ProcessInfo = c.process-item.result in
    let inside : n < length processes = omega (arith, c.loop-process-test.true) in
    let more : take (n + 1) processes ≡ take n processes ++ (q ∷ []) = take_more processes n q inside ∙ ap (λ (x : ProcessInfo). take n processes ++ (x ∷ [])) (sym c.process-item.is) in
    subst (λ (some : List ProcessInfo). Adds (IsDriverCall c.args.nodes.now some) [] c.if-is_some.calls.items) (sym more)
    (elim c.if-is_some.branch [
      | then-is_some+in_ok-gather w ↦
          subst (λ (v : Vec Call Global). Adds (IsDriverCall c.args.nodes.now (take n processes ++ (q ∷ []))) [] v.items) (sym w.calls-is)
          (driver-more c.args.nodes.now (take n processes) q [] c.loop-process.calls.items w.gather.new.calls.items (sym c.is_some.ensures ∙ w.if-is_some.true) c.loop-process.invariant (w.in_ok-gather.ensures {u = tt}))
      | else-is_some w ↦
          subst (λ (v : Vec Call Global). Adds (IsDriverCall c.args.nodes.now (take n processes ++ (q ∷ []))) [] v.items) (sym w.calls-is)
          (driver-none c.args.nodes.now (take n processes) q [] c.loop-process.calls.items (λ some. false≢true (w.if-is_some.ensures {u = tt} ∙ some)) c.loop-process.invariant)
    ])

-- src/device.rt: all processes
pub returns : goal.returns
returns c =
    contains-added (IsDriverCall c.args.nodes.now c.args.processes.now) [] c.loop-process.calls.items refl
    (subst (λ (some : List ProcessInfo). Adds (IsDriverCall c.args.nodes.now some) [] c.loop-process.calls.items)
    (take_all c.loop-process.process-index c.args.processes.now (omega (arith, c.loop-process-test.false))) c.loop-process.invariant)
