-- What a set of words stands for.
use Rattle.std.specs.Prelude.{ℕ, ◌≡◌, List}
use Rattle.std.specs.Ordering.{nat_cmp}
use Rattle.std.specs.BTreeSet.{BTreeSet, contains}
use Rattle.mc_prog.specs.StatementTypes.{is_among}

-- it has the words of a list
abbrev pub IsSetOf : BTreeSet ℕ → List ℕ → Type 0
IsSetOf set words = (w : ℕ) → contains nat_cmp set w ≡ is_among w words
