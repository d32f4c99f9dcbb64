use Rattle.std.proofs.Common.{◌≡◌, ◌≤◌, drop, length}
use Rattle.mc_meaning.specs.StoredWords.{AreNoted, words_in}
use Rattle.mc_meaning.proofs.words.Words.note_all.Given as goal

-- the words from here on are noted
abbrev pub invariant-loop-i : goal.invariant-loop-i
invariant-loop-i l = record {
  within : l.i ≤ length l.words;
  same : words_in l.self ≡ words_in l.initial.self;
  noted : AreNoted l.self (drop l.i l.words);
}

abbrev pub decreases-loop-i : goal.decreases-loop-i
decreases-loop-i l = l.i
