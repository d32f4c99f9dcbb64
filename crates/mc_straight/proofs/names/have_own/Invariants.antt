use Rattle.std.proofs.Common.{drop}
use Rattle.std.specs.Prelude.{map}
use Rattle.mc_straight.specs.Form.{name_of, AreOwn}
use Rattle.mc_straight.proofs.names.have_own.Given as goal

-- the names from here on decide
abbrev pub invariant-loop-i : goal.invariant-loop-i
invariant-loop-i l = record {
  to_all : AreOwn (map name_of (drop l.i l.vars)) → AreOwn (map name_of l.vars);
  from_all : AreOwn (map name_of l.vars) → AreOwn (map name_of (drop l.i l.vars));
}
