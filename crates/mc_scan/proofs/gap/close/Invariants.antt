use Rattle.std.proofs.Common.{◌≡◌, ℕ, ◌+◌, ◌<◌, get_or}
use Rattle.mc_scan.proofs.gap.close.Given as goal

-- no `*)` begins before i
abbrev pub invariant-loop-i : goal.invariant-loop-i
invariant-loop-i l = (k : ℕ) → k < l.i → get_or l.bytes k 0 ≡ 42 → get_or l.bytes (k + 1) 0 ≡ 41 → ⊥
