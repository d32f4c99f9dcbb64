use Rattle.std.proofs.Common.{take}
use Rattle.mc_prog.specs.Known.{Known}
use Rattle.mc_types.specs.IsKnown.{IsKnown}
use Rattle.mc_types.specs.Runs.{AreTextsOf}
use Rattle.mc_types.proofs.running.all_texts.Given as goal

-- so far they are the texts of the pieces so far
abbrev pub invariant-loop-piece : goal.invariant-loop-piece
invariant-loop-piece l = (k : Known) → IsKnown k l.known → AreTextsOf k l.procedures l.pieces (take l.piece-index l.pieces) l.texts l.fault
