-- Laws of the image: how many words it has.
use Rattle.std.specs.Prelude.{◌≡◌, ◌≢◌, ℕ, ◌+◌, ◌*◌, ◌≤◌, List, [], ◌∷◌, length, refl}
use Rattle.std.specs.List.{flat_map}
use Rattle.std.proofs.Common.{ap, arith}
use Rattle.std.proofs.lemmas.List.{length-append, length-map}
use Rattle.mc_pcode.specs.declared.program.PEntry.{PEntry}
use Rattle.mc_pcode.specs.declared.program.PProcess.{PProcess}
use Rattle.mc_pcode.specs.Code.{ProcessCode}
use Rattle.mc_image.specs.Blocks.{AreBlocks}
use Rattle.mc_image.specs.Format.{word_bytes}
use Rattle.mc_kernel.specs.declared.layout.Layout.{Layout}
use Rattle.mc_kernel.specs.Laws.{length-zeros, length-low_memory}
use Rattle.mc_expand.specs.declared.line.Item.{Item}
use Rattle.mc_expand.specs.Expanded.{code_items, work_begin, words_of, Spots, spots_of, put, process_words, code_words, table_words, memory_of}

-- workspaces begin behind all words
pub work_begin-is : (workspace : ℕ) (p : ProcessCode) → work_begin workspace p ≡ 8192 + 2 * words_of workspace p
unfolding words_of
work_begin-is workspace p = omega arith

pub length-code_words : (s : Spots) (items : List Item) → length (code_words s items) ≡ length items
unfolding code_words
length-code_words s items = length-map items (put s)

length-records : (s : Spots) (entries : List PEntry) (processes : List PProcess) → length (flat_map (process_words s entries) processes) ≡ 4 * length processes
length-records s entries [] = refl
length-records s entries (q ∷ processes) = omega (arith, length-records s entries processes)

pub length-table_words : (s : Spots) (p : ProcessCode) → length (table_words s p) ≡ 4 * length p.processes
unfolding table_words
length-table_words s p = length-records s p.entries p.processes

pub length-memory_of : (layout : Layout) (p : ProcessCode) → length (memory_of layout p) ≡ 4096 + words_of layout.settings.workspace_words p
unfolding memory_of words_of
length-memory_of layout p =
    let workspace : ℕ = layout.settings.workspace_words in
    let spots : Spots = spots_of workspace p in
    omega (arith, length-append {A = ℕ}, length-low_memory workspace layout.settings.processes (work_begin workspace p), length-zeros p.data_words, length-code_words spots (code_items workspace p), length-table_words spots p)

length-bytes : (words : List ℕ) → length (flat_map word_bytes words) ≡ 2 * length words
length-bytes [] = refl
length-bytes (w ∷ words) = omega (arith, length-bytes words)

not_empty : (bytes : List ℕ) → 1 ≤ length bytes → bytes ≢ []
not_empty bytes h e = absurd (omega (arith, ap length e))

-- some words, which end below the registers, are a block
pub is_block : (words : List ℕ) → 1 ≤ length words → length words ≤ 28672 → AreBlocks (record { address = 0; bytes = flat_map word_bytes words } ∷ [])
is_block words some room =
    (((not_empty (flat_map word_bytes words) (omega (arith, length-bytes words)), omega (arith, length-bytes words)), tt, tt))
