use Rattle.std.proofs.Common.{◌≡◌, ℕ, ◌<◌, get_or}
use Rattle.mc_tree.specs.declared.token.Reserved.{Reserved}
use Rattle.mc_tree.specs.Spellings.{word_of}
use Rattle.mc_tree.specs.KindLaws.{all_words}
use Rattle.mc_scan.proofs.word.reserved.Given as goal

-- none of the words so far is spelled so
abbrev pub invariant-loop-word : goal.invariant-loop-word
invariant-loop-word l = (k : ℕ) (other : Reserved) → k < l.word-index → word_of (get_or all_words k other) ≡ l.bytes → ⊥
