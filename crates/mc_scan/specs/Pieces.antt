-- What stands at the front of the bytes that are left of a source.
use Rattle.std.specs.Prelude.{◌≡◌, ◌≢◌, ◌≤◌, ◌<◌, ℕ, false, List, [], ◌∷◌, ◌++◌, length, take, drop, slice_index, ◌⊎◌, IfSome}
use Rattle.mc_tree.specs.declared.place.Place.{Place}
use Rattle.mc_tree.specs.declared.token.Token.{Token}
use Rattle.mc_tree.specs.declared.token.Kind.{Kind}
use Rattle.mc_tree.specs.declared.token.Symbol.{Symbol}
use Rattle.mc_tree.specs.Spellings.{is_blank, IsBlank, IsComment, IsSpelling, IsInRange, IsLongest, BeginsComment, symbol_of}
use Rattle.mc_tree.specs.Sources.{BeginsFault}
use Rattle.mc_scan.specs.declared.fault.ScanFault.{ScanFault}
use Rattle.mc_scan.specs.Refusals.{fault_of}

-- a token of n bytes, the longest there
pub record IsTaken (kind : Kind) (n : ℕ) (bytes : List ℕ) : Type 0 where
  pub within : n ≤ length bytes
  pub some : 0 < n
  pub spelled : IsSpelling kind (take n bytes)
  pub longest : IsLongest (take n bytes) (drop n bytes)
  pub in_range : IsInRange (take n bytes)

-- a blank or a whole comment of n bytes
pub record IsGapFront (n : ℕ) (bytes : List ℕ) : Type 0 where
  pub within : n ≤ length bytes
  pub some : 0 < n
  pub is_gap : IsBlank (take n bytes) ⊎ IsComment (take n bytes)

-- neither a blank nor a comment
pub record HasNoGap (bytes : List ℕ) : Type 0 where
  pub no_blank : is_blank (slice_index bytes 0) ≡ false
  pub no_comment : ¬ BeginsComment bytes

-- no symbol begins with the first byte
abbrev pub BeginsNoSymbol : List ℕ → Type 0
BeginsNoSymbol bytes = (symbol : Symbol) (others : List ℕ) → symbol_of symbol ≢ slice_index bytes 0 ∷ others

-- the fault that stands at the front, or want of memory
abbrev pub IsRefusal : ScanFault → Place → List ℕ → Type 0
IsRefusal refusal here bytes = IfSome (fault_of refusal) (λ fault. (fault.place ≡ here) × BeginsFault fault.code bytes)

-- n bytes are taken from the front, which stands at the place `here`: a gap, or a token that is added to the tokens
pub data Advances (tokens more : List Token) (here : Place) (n : ℕ) (bytes : List ℕ) : Type 0 where
  over_gap : more ≡ tokens → IsGapFront n bytes → Advances tokens more here n bytes
  over_token : (kind : Kind) → more ≡ tokens ++ record { kind = kind; place = here } ∷ [] → IsTaken kind n bytes → Advances tokens more here n bytes
