-- What the two maps of a store have under a name.
use Rattle.std.specs.Prelude.{◌≡◌, ℕ, Bool, true, is_some, List, [], ◌∷◌, unwrap_or}
use Rattle.std.specs.Map.{lookup}
use Rattle.std.specs.BTreeMap.{BTreeMap}
use Rattle.std.specs.Ordering.{nat_cmp, ordering_then, is_eq}
use Rattle.mc_meaning.specs.declared.store.Name.{Name}
use Rattle.mc_meaning.specs.declared.store.Name.TheVariants.{Variable, Private}
use Rattle.mc_meaning.specs.declared.words.Words.{Words}
use Rattle.mc_meaning.specs.Configuration.{Store}

abbrev pub VariableKey : Type 0
VariableKey = ℕ × ℕ

abbrev pub PrivateKey : Type 0
PrivateKey = ℕ × ℕ × ℕ × ℕ

abbrev pub is_variable : VariableKey → VariableKey → Bool
is_variable q k = is_eq (ordering_then (nat_cmp q.0 k.0) (nat_cmp q.1 k.1))

abbrev pub is_private : PrivateKey → PrivateKey → Bool
is_private q k = is_eq (ordering_then (ordering_then (ordering_then (nat_cmp q.0 k.0) (nat_cmp q.1 k.1)) (nat_cmp q.2 k.2)) (nat_cmp q.3 k.3))

abbrev pub word_under : BTreeMap VariableKey ℕ → BTreeMap PrivateKey ℕ → Name → ℕ
word_under variables privates (Variable cell word) = unwrap_or (lookup (is_variable (cell, word)) variables.entries) 0
word_under variables privates (Private process activation slot word) = unwrap_or (lookup (is_private (process, activation, slot, word)) privates.entries) 0

-- the store that the two maps are
abbrev pub words_in : Words → Store
words_in words = word_under words.variables words.privates

-- A word that was noted has an entry in its map: to write it again takes no memory.
abbrev pub noted_under : BTreeMap VariableKey ℕ → BTreeMap PrivateKey ℕ → Name → Bool
noted_under variables privates (Variable cell word) = is_some (lookup (is_variable (cell, word)) variables.entries)
noted_under variables privates (Private process activation slot word) = is_some (lookup (is_private (process, activation, slot, word)) privates.entries)

abbrev pub is_noted : Words → Name → Bool
is_noted words = noted_under words.variables words.privates

abbrev pub AreNoted : Words → List (Name × ℕ) → Type 0
AreNoted words [] = Unit {0}
AreNoted words (w ∷ all) = (is_noted words w.0 ≡ true) × AreNoted words all

abbrev pub KeepsNotes : Words → Words → Type 0
KeepsNotes old new = (name : Name) → is_noted old name ≡ true → is_noted new name ≡ true
