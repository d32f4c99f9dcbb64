-- What the arithmetic of single values gives, as the definitions have it.
use Rattle.std.specs.Prelude.{ℕ, Result, Ok, Err}
use Rattle.mc_prog.specs.declared.values.Trap.{Trap}
use Rattle.mc_prog.specs.Traps.{number_of}
use Rattle.mc_prog.specs.Values.{Outcome, Gives, Traps}
use Rattle.mc_prog.specs.Operators.{signed_word, negated_word}
use Rattle.mc_types.specs.declared.operators.Single.{Single}
use Rattle.mc_types.specs.declared.operators.Single.TheVariants as single

abbrev pub outcome_of : Result ℕ Trap → Outcome
outcome_of (Ok w) = Gives w
outcome_of (Err trap) = Traps (number_of trap)

-- what an operator of one operand gives of a word of a type
abbrev pub word_by : Single → ℕ → ℕ → Outcome
word_by (single.Signed s) t w = signed_word s t w
word_by single.Not t w = negated_word t w
