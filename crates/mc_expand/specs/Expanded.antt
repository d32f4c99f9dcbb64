-- The image of a program of process code.
use Rattle.std.specs.Prelude.{ℕ, ◌+◌, ◌*◌, ◌%◌, List, [], ◌∷◌, ◌++◌, length, map, Option, Some, None, slice_get}
use Rattle.std.specs.List.{flat_map}
use Rattle.mc_pcode.specs.declared.program.PEntry.{PEntry}
use Rattle.mc_pcode.specs.declared.program.PProcess.{PProcess}
use Rattle.mc_pcode.specs.Code.{ProcessCode}
use Rattle.mc_image.specs.Format.{word_bytes}
use Rattle.mc_image.specs.Image.{ImageState}
use Rattle.mc_kernel.specs.declared.layout.Layout.{Layout}
use Rattle.mc_kernel.specs.Memory.{zeros, slot_at, top_of, low_memory}
use Rattle.mc_expand.specs.declared.line.Item.{Item}
use Rattle.mc_expand.specs.declared.line.Item.TheVariants as item
use Rattle.mc_expand.specs.Templates.{status_of, params_of}
use Rattle.mc_expand.specs.Pieces.{pieces_of, items_of, places_from, entries_from}

-- The words of a program, in which addresses still go by what they name

unfoldable pub code_items : ℕ → ProcessCode → List Item
code_items workspace p = items_of workspace p (pieces_of p)

unfoldable pub place_offsets : ℕ → ProcessCode → List ℕ
place_offsets workspace p = places_from workspace p 0 (pieces_of p)

unfoldable pub entry_offsets : ℕ → ProcessCode → List ℕ
entry_offsets workspace p = entries_from workspace p 0 (pieces_of p)

-- Where the parts stand: data from 20000 (octal), texts, code, the table of processes with four words each, workspaces

abbrev pub code_begin : ProcessCode → ℕ
code_begin p = 0o20000 + 2 * (p.data_words + length p.texts)

abbrev pub table_begin : ℕ → ProcessCode → ℕ
table_begin workspace p = code_begin p + 2 * length (code_items workspace p)

abbrev pub work_begin : ℕ → ProcessCode → ℕ
work_begin workspace p = table_begin workspace p + 8 * length p.processes

-- data words and code words
unfoldable pub words_of : ℕ → ProcessCode → ℕ
words_of workspace p = p.data_words + length p.texts + length (code_items workspace p) + 4 * length p.processes

-- what items name: the places of instructions and entries in words from the code's begin, the address of the table, and the address
-- behind the main process's workspace
pub record Spots : Type 0 where
  pub code : ℕ
  pub places : List ℕ
  pub entries : List ℕ
  pub table : ℕ
  pub top : ℕ

abbrev pub spots_of : ℕ → ProcessCode → Spots
spots_of workspace p = record {
  code = code_begin p;
  places = place_offsets workspace p;
  entries = entry_offsets workspace p;
  table = table_begin workspace p;
  top = top_of workspace (work_begin workspace p) 0;
}

-- so many words behind an address
abbrev pub spot : ℕ → Option ℕ → ℕ
spot at None = 0
spot at (Some n) = (at + n % 32768 * 2) % 65536

abbrev pub put : Spots → Item → ℕ
put s (item.Plain w) = w
put s (item.Place l) = spot s.code (slice_get s.places l)
put s (item.Entry e) = spot s.code (slice_get s.entries e)
put s (item.Record q) = (s.table + 8 * q) % 65536
put s (item.Data n) = (0o20000 + 2 * n) % 65536
put s item.MainTop = (s.top + 65532) % 65536

-- The table of processes: its entry, how many words are handed to it, the slot of its vector, and its processor status

abbrev pub slot_of : Option ℕ → ℕ
slot_of None = 0
slot_of (Some vector) = slot_at vector

abbrev pub process_words : Spots → List PEntry → PProcess → List ℕ
process_words s entries q =
    spot s.code (slice_get s.entries q.entry) ∷ params_of (slice_get entries q.entry) % 65536 ∷ slot_of q.vector ∷ status_of q.priority ∷ []

unfoldable pub table_words : Spots → ProcessCode → List ℕ
table_words s p = flat_map (process_words s p.entries) p.processes

-- All words from address 0 to the end of the table

unfoldable pub code_words : Spots → List Item → List ℕ
code_words s items = map (put s) items

unfoldable pub memory_of : Layout → ProcessCode → List ℕ
memory_of layout p =
    low_memory layout.settings.workspace_words layout.settings.processes (work_begin layout.settings.workspace_words p)
    ++ zeros p.data_words
    ++ p.texts
    ++ code_words (spots_of layout.settings.workspace_words p) (code_items layout.settings.workspace_words p)
    ++ table_words (spots_of layout.settings.workspace_words p) p

-- one block from address 0; it begins at the main process's entry
unfoldable pub expanded : ProcessCode → Layout → ImageState
expanded p layout = record {
  blocks = record { address = 0; bytes = flat_map word_bytes (memory_of layout p) } ∷ [];
  start = spot (code_begin p) (slice_get (entry_offsets layout.settings.workspace_words p) 0);
}
