-- What a shelf in memory keeps.
use Rattle.std.specs.Prelude.{ℕ, ◌+◌, ◌-◌, ◌^◌, min, List, [], ◌∷◌, ◌++◌, option_map, find, bytes_eq}
use Rattle.mc_shelf.specs.declared.ask.Ask.{Ask}
use Rattle.mc_shelf.specs.declared.files.MemFile.{MemFile}
use Rattle.mc_shelf.specs.Outside.{Files}

pub record Kept : Type 0 where
  pub files : List MemFile
  pub printed : List ℕ
  pub asked : List Ask
  -- how many bytes more can be printed without want of memory
  pub spare : ℕ
  -- how often a file was too long
  pub longs : ℕ

-- of files that bear one name the first counts
abbrev pub file_of : List MemFile → Files
file_of files name = option_map (λ f. f.bytes) (find (λ f. bytes_eq f.name name) files)

-- after one more was asked
abbrev pub asking : Kept → Ask → Kept
asking k ask = record k { asked = k.asked ++ ask ∷ [] }

-- one more, in a count that stands still at its last value
abbrev pub one_more : ℕ → ℕ
one_more count = min (count + 1) (2 ^ 64 - 1)
