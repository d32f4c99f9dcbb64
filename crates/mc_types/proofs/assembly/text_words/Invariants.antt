use Rattle.std.proofs.Common.{◌≡◌, ◌+◌, drop}
use Rattle.mc_prog.specs.Resolved.{text_words}
use Rattle.mc_types.proofs.assembly.text_words.Given as goal

-- with the pieces that are left they are the words of all
abbrev pub invariant-loop-piece : goal.invariant-loop-piece
invariant-loop-piece l = l.words + text_words (drop l.piece-index l.pieces) ≡ text_words l.pieces
