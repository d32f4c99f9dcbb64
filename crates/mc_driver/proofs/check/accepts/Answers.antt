use Rattle.std.proofs.Common.{List, ℕ, IfOk, Result, sym, subst}
use Rattle.mc_prog.specs.Resolved.{Resolved}
use Rattle.mc_compile.specs.declared.refusal.Refusal.{Refusal}
use Rattle.mc_compile.specs.Accepted.{IsAccepted}
use Rattle.mc_driver.proofs.check.accepts.Goals as goal
use Rattle.mc_driver.proofs.check.accepts.Goals.{in-Ok, in-Err}

-- where it is done, the source has a program
abbrev Done : List ℕ → Result (Unit {0}) Refusal → Type 0
Done source result = IfOk result (λ done. (program : Resolved) × IsAccepted source program)

pub returns-clause-ok : goal.returns-clause-ok
returns-clause-ok c =
    elim c.match-accept.branch [ in-Ok w ↦ subst (Done c.args.source.now) (sym w.result-is) (w.in-Ok.field-0, w.in-Ok.ensures.ok) | in-Err w ↦ subst (Done c.args.source.now) (sym w.result-is) tt ]
