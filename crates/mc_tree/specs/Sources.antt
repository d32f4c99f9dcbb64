-- The tokens of a whole source, and its first lexical fault.
use Rattle.std.specs.Prelude.{◌≡◌, ℕ, ◌+◌, true, false, nat_eq, if◌then◌else◌, List, [], ◌∷◌, ◌++◌, codes}
use Rattle.mc_tree.specs.declared.place.Place.{Place}
use Rattle.mc_tree.specs.declared.token.Token.{Token}
use Rattle.mc_tree.specs.declared.fault.Code.{Code}
use Rattle.mc_tree.specs.declared.fault.Code.TheVariants.{BadByte, NumberTooLarge, OpenComment, OpenText}
use Rattle.mc_tree.specs.Spellings.{is_blank, is_quote, is_inside, is_within, Each, HasClose, IsGap, IsSpelling, IsInRange, IsTooLarge, IsLexeme, IsLongest, BeginsComment}

-- the place of a source's first byte
abbrev pub first_place : Place
first_place = record { line = 1; column = 1 }

-- the place of what stands behind a byte; the byte 10 ends a line
abbrev pub place_after_byte : Place → ℕ → Place
place_after_byte here b = if nat_eq b 10 then record { line = here.line + 1; column = 1 } else record { line = here.line; column = here.column + 1 }

-- the place of what stands behind these bytes
abbrev pub place_after : Place → List ℕ → Place
place_after here [] = here
place_after here (b ∷ bytes) = place_after (place_after_byte here b) bytes

-- The first token of bytes that begin at the place `here`: a gap stands before it, then its longest spelling.
pub record StandsFirst (here : Place) (bytes : List ℕ) (token : Token) : Type 0 where
  pub gap : List ℕ
  pub spelling : List ℕ
  pub left : List ℕ
  pub parts : bytes ≡ gap ++ (spelling ++ left)
  pub is_gap : IsGap gap
  pub placed : token.place ≡ place_after here gap
  pub spelled : IsSpelling token.kind spelling
  pub longest : IsLongest spelling left
  pub in_range : IsInRange spelling

-- The bytes that begin at the place `here` are these tokens with gaps around them, and then at the place `end` the bytes `left`.
abbrev pub Reads : Place → List Token → List ℕ → Place → List ℕ → Type 0
Reads here [] bytes end left = (gap : List ℕ) × IsGap gap × (bytes ≡ gap ++ left) × (end ≡ place_after here gap)
Reads here (token ∷ tokens) bytes end left =
    (first : StandsFirst here bytes token) × Reads (place_after token.place first.spelling) tokens first.left end left

-- The source is these tokens in order at their places, with blanks and comments between them, each token the longest at its place,
-- and `end` is the place after the last byte.
pub record Spells (tokens : List Token) (end : Place) (source : List ℕ) : Type 0 where
  pub reads : Reads first_place tokens source end []

-- the byte is no blank, and no token and no comment begins with it
pub record IsBadByte (b : ℕ) : Type 0 where
  pub no_blank : is_blank b ≡ false
  pub no_token : (bytes : List ℕ) → ¬ IsLexeme (b ∷ bytes)
  pub no_comment : (bytes : List ℕ) → ¬ BeginsComment (b ∷ bytes)

-- The fault that stands at the front of these bytes:
-- a bad byte; a number or character past its greatest value; a comment without `*)`;
-- a text where the source ends, or a byte stands that is not printable, before the closing quote.
abbrev pub BeginsBadByte : List ℕ → Type 0
BeginsBadByte bytes = (b : ℕ) × (rest : List ℕ) × IsBadByte b × (bytes ≡ b ∷ rest)

abbrev pub BeginsTooLarge : List ℕ → Type 0
BeginsTooLarge bytes = (spelling : List ℕ) × (left : List ℕ) × IsTooLarge spelling × IsLongest spelling left × (bytes ≡ spelling ++ left)

abbrev pub BeginsOpenComment : List ℕ → Type 0
BeginsOpenComment bytes = (rest : List ℕ) × (¬ HasClose rest) × (bytes ≡ codes "(*" ++ rest)

-- nothing, or first a byte that is not printable
abbrev pub BreaksText : List ℕ → Type 0
BreaksText [] = Unit {0}
BreaksText (b ∷ bytes) = is_within 32 126 b ≡ false

abbrev pub BeginsOpenText : List ℕ → Type 0
BeginsOpenText bytes =
    (quote : ℕ) × (inside : List ℕ) × (left : List ℕ) × (is_quote quote ≡ true) × Each (is_inside quote) inside × BreaksText left × (bytes ≡ quote ∷ inside ++ left)

abbrev pub BeginsFault : Code → List ℕ → Type 0
BeginsFault BadByte bytes = BeginsBadByte bytes
BeginsFault NumberTooLarge bytes = BeginsTooLarge bytes
BeginsFault OpenComment bytes = BeginsOpenComment bytes
BeginsFault OpenText bytes = BeginsOpenText bytes
BeginsFault _ bytes = ⊥

-- The first lexical fault of a source: tokens with gaps around them lead up to it.
pub record HasFirstFault (code : Code) (place : Place) (source : List ℕ) : Type 0 where
  pub tokens : List Token
  pub left : List ℕ
  pub reads : Reads first_place tokens source place left
  pub fault : BeginsFault code left
