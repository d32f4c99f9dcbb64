-- The state of the processor and its memory.
use Rattle.std.specs.Prelude.{◌≡◌, ℕ, ◌<◌, ◌+◌, ◌*◌, ◌/◌, ◌%◌, ◌==◌, List, Bool, false, length, replicate, slice_index, slice_set, if◌then◌else◌}
use Rattle.std.proofs.lemmas.List.{length-replicate, get_or-replicate}

pub record CoreState : Type 0 where
  -- R0 to R7
  pub registers : List ℕ
  pub ps : ℕ
  pub waiting : Bool
  -- its words, the one at address 2 * i in place i
  pub memory : List ℕ

-- so many words, all zero
unfoldable pub no_words : ℕ → List ℕ
no_words n = replicate n 0

pub length-no_words : (n : ℕ) → length (no_words n) ≡ n
unfolding no_words
length-no_words n = length-replicate n 0

pub no_words-at : (n i : ℕ) → i < n → slice_index (no_words n) i ≡ 0
unfolding no_words
no_words-at n i h = get_or-replicate n i 0 0 h

pub no_words-is : (n : ℕ) (words : List ℕ) → words ≡ replicate n 0 → words ≡ no_words n
unfolding no_words
no_words-is n words h = h

-- all registers, the status word and all words of memory are zero
abbrev pub opening_core : CoreState
opening_core = record { registers = no_words 8; ps = 0; waiting = false; memory = no_words 28672 }

-- a byte is half of a word: the low half at an even address, else the high half
abbrev pub byte_of : List ℕ → ℕ → ℕ
byte_of memory a = if a % 2 == 0 then slice_index memory (a / 2) % 256 else slice_index memory (a / 2) / 256

abbrev pub with_byte : List ℕ → ℕ → ℕ → List ℕ
with_byte memory a b =
    let w : ℕ = slice_index memory (a / 2) in
    slice_set memory (a / 2) (if a % 2 == 0 then w / 256 * 256 + b else b * 256 + w % 256)
