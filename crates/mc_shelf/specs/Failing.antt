-- A shelf in memory some of whose calls fail.
use Rattle.std.specs.Prelude.{ℕ, List, Contains}
use Rattle.mc_shelf.specs.Kept.{Kept, one_more}

pub record Failing : Type 0 where
  pub kept : Kept
  -- the numbers of the calls that fail
  pub failing : List ℕ
  -- the number of the last call, or 0
  pub calls : ℕ
  -- how often a call failed
  pub faults : ℕ

-- the next call is one of those that fail
abbrev pub IsToFail : Failing → Type 0
IsToFail s = Contains s.failing (one_more s.calls)

-- after a call, which leaves this to be kept
abbrev pub called : Failing → Kept → Failing
called s kept = record s { kept = kept; calls = one_more s.calls }

-- the same of a call that failed
abbrev pub failed : Failing → Kept → Failing
failed s kept = record s { kept = kept; calls = one_more s.calls; faults = one_more s.faults }
