-- The lines of a text, and the fields of a line.
use Rattle.std.specs.Prelude.{ℕ, Bool, true, false, ◌==◌, ◌&&◌, ◌||◌, if◌then◌else◌, List, [], ◌∷◌, filter}
use Rattle.std.specs.List.{slice_split, before_first}

abbrev pub is_line_feed : ℕ → Bool
is_line_feed b = b == 10

abbrev pub is_semicolon : ℕ → Bool
is_semicolon b = b == 59

-- space or tab
abbrev pub is_blank : ℕ → Bool
is_blank b = b == 32 || b == 9

abbrev pub begins_with_line_feed : List ℕ → Bool
begins_with_line_feed [] = false
begins_with_line_feed (b ∷ bytes) = is_line_feed b

-- a carriage return directly before a line feed is dropped, and no other
abbrev pub without_returns : List ℕ → List ℕ
without_returns [] = []
without_returns (b ∷ text) = if b == 13 && begins_with_line_feed text then without_returns text else b ∷ without_returns text

-- a line ends at a line feed or at the end of the text
abbrev pub lines_of : List ℕ → List (List ℕ)
lines_of text = slice_split is_line_feed (without_returns text)

abbrev pub has_bytes : List ℕ → Bool
has_bytes [] = false
has_bytes (b ∷ bytes) = true

-- the fields of a line without comment: what stands between its spaces and tabs
abbrev pub fields : List ℕ → List (List ℕ)
fields line = filter has_bytes (slice_split is_blank line)

-- a semicolon begins a comment, to the end of the line
abbrev pub fields_of : List ℕ → List (List ℕ)
fields_of line = fields (before_first is_semicolon line)
