-- What clauses say of the outside: files, what was printed, what was asked, spare room, and two counts.
-- A shelf may keep any of the first four to itself: `None` tells nothing, and `Some` tells it.
use Rattle.std.specs.Prelude.{◌≡◌, ℕ, ◌+◌, ◌-◌, ◌^◌, ◌≤◌, min, List, [], ◌∷◌, ◌++◌, Option, Some, option_map, unwrap_or, IsSomeAnd, bytes_eq, if◌then◌else◌}
use Rattle.mc_shelf.specs.declared.ask.Ask.{Ask}

-- the bytes of each name that has a file
abbrev pub Files : Type 0
Files = List ℕ → Option (List ℕ)

-- what a load of this name reads: a name without a file reads as a file without bytes
abbrev pub content : Files → List ℕ → List ℕ
content files name = unwrap_or (files name) []

-- P holds of what is told, where it is told
abbrev pub Told : {X : Type 0} → Option X → (X → Type 0) → Type 0
Told {X} told P = (x : X) → told ≡ Some x → P x

-- a count of 64 bits grew, or stands at its last value
abbrev pub Rose : ℕ → ℕ → Type 0
Rose before now = min (before + 1) (2 ^ 64 - 1) ≤ now

-- the files after this name got these bytes, or lost its file: every other name keeps its own
abbrev pub placed : Option Files → List ℕ → Option (List ℕ) → Option Files
placed files name bytes = option_map (λ file other. if bytes_eq other name then bytes else file other) files

-- what was printed, and then these bytes
abbrev pub appended : Option (List ℕ) → List ℕ → Option (List ℕ)
appended printed bytes = option_map (λ before. before ++ bytes) printed

-- what was printed, and then a first part of these bytes: none, some or all
pub record IsPart (printed : Option (List ℕ)) (bytes : List ℕ) (now : Option (List ℕ)) : Type 0 where
  pub front : List ℕ
  pub rest : List ℕ
  pub parts : bytes ≡ front ++ rest
  pub appends : now ≡ appended printed front

-- what was asked, and then this
abbrev pub asks : Option (List Ask) → Ask → Option (List Ask)
asks asked ask = option_map (λ before. before ++ ask ∷ []) asked

-- spare room for so many bytes, or for more, is told
abbrev pub HasRoom : Option ℕ → ℕ → Type 0
HasRoom spare n = IsSomeAnd spare (λ room. n ≤ room)

-- What a shelf tells of itself at a moment, and two counts of 64 bits. A count never falls, and may stand still at its last value.
pub record View : Type 0 where
  pub files : Option Files
  -- all bytes that were printed
  pub printed : Option (List ℕ)
  -- all loads and saves that were asked, in their order
  pub asked : Option (List Ask)
  -- how many bytes can be printed without want of memory
  pub spare : Option ℕ
  -- how often a call failed
  pub faults : ℕ
  -- how often a file was too long
  pub longs : ℕ
