use Rattle.std.proofs.Common.{◌≡◌, ◌-◌, drop, length}
use Rattle.mc_meaning.specs.Configuration.{all_stored}
use Rattle.mc_meaning.specs.StoredWords.{AreNoted, words_in}
use Rattle.mc_meaning.proofs.words.Words.put_all.Given as goal

-- the words so far are written, and the others are noted
abbrev pub invariant-loop-i : goal.invariant-loop-i
invariant-loop-i l = record {
  so_far : all_stored (words_in l.self) (drop l.i l.words) ≡ all_stored (words_in l.initial.self) l.words;
  noted : AreNoted l.self (drop l.i l.words);
}

abbrev pub decreases-loop-i : goal.decreases-loop-i
decreases-loop-i l = length l.words - l.i
