-- The faults of a text, by its calls.
use Rattle.std.specs.Prelude.{ℕ, List, Option}
use Rattle.mc_tree.specs.declared.fault.Fault.{Fault}
use Rattle.mc_prog.specs.Resolved.{Resolved}
use Rattle.mc_rules.specs.declared.call.Call.{Call}
use Rattle.mc_rules.specs.declared.call.Site.{Site}
use Rattle.mc_rules.specs.AnyOf.{AnyOf, IsFirstOf}
use Rattle.mc_rules.specs.Calls.{AreCalls}
use Rattle.mc_rules.specs.RuleFaults.{IsCallFault, HasCallFault}
use Rattle.mc_rules.proofs.AnyLaws.{any-contains, any-of, first-same}

-- the calls of a text have the faults of the text's calls
pub calls-first : (p : Resolved) (s : Site) (body : ℕ) (calls : List Call) (found : Option Fault) → AreCalls p.nodes body calls
    → IsFirstOf (AnyOf (IsCallFault p s) calls) found → IsFirstOf (HasCallFault p s body) found
calls-first p s body calls found are first = first-same (AnyOf (IsCallFault p s) calls) (HasCallFault p s body) found first
    (λ f h. any-of (IsCallFault p s) calls h.call f ((are h.call).1 h.stands) h.breaks)
    (λ f k. let one = any-contains (IsCallFault p s) calls f k in record { call = one.0; stands = (are one.0).0 one.1.0; breaks = one.1.1 })
