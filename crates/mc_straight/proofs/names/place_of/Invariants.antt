use Rattle.std.proofs.Common.{◌≢◌, ℕ, ◌<◌, Some}
use Rattle.std.specs.Prelude.{map, slice_get}
use Rattle.mc_straight.specs.Form.{name_of}
use Rattle.mc_straight.proofs.names.place_of.Given as goal

-- none of the variables so far has the name
abbrev pub invariant-loop-i : goal.invariant-loop-i
invariant-loop-i l = (k : ℕ) → k < l.i → slice_get (map name_of l.vars) k ≢ Some l.name
