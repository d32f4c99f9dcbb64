use Rattle.std.proofs.Common.{arith, rules, ◌≡◌, ◌≤◌, ◌++◌, ℕ, List, [], ◌∷◌, sym, ◌∙◌, ap, subst, refl}
use Rattle.std.specs.Prelude.{slice_get}
use Rattle.std.specs.List.{flat_map}
use Rattle.mc_image.specs.declared.image.Block.{Block}
use Rattle.mc_image.specs.Blocks.{AreBlocks}
use Rattle.mc_image.specs.Format.{word_bytes}
use Rattle.mc_expand.specs.Expanded.{Spots, spot, words_of, memory_of, expanded}
use Rattle.mc_expand.specs.Laws.{length-memory_of, is_block}
use Rattle.mc_expand.proofs.expand.expand.Goals as goal

pub new-requires-clause-blocks : goal.new-requires-clause-blocks
unfolding words_of
new-requires-clause-blocks c =
    let fits : words_of c.args.layout.now.settings.workspace_words c.args.p.now ≤ 20000 = search rules in
    let words : List ℕ = memory_of c.args.layout.now c.args.p.now in
    let bytes : c.from_vec-bytes.result ≡ flat_map word_bytes words = c.from_vec-bytes.ensures ∙ (c.in_ok-bytes_of.ensures ∙ ap (λ (l : List ℕ). flat_map word_bytes l) (c.as_slice-2.ensures.value ∙ c.in_ok-words.ensures.value)) in
    let same : c.push.new.self.items ≡ record { address = 0; bytes = flat_map word_bytes words } ∷ [] =
    c.in_ok-push.ensures.items ∙ (ap (λ (l : List Block). l ++ record { address = 0; bytes = c.from_vec-bytes.result } ∷ []) c.in_ok-blocks.ensures.items ∙ ap (λ (b : List ℕ). record { address = 0; bytes = b } ∷ []) bytes) in
    subst (λ (l : List Block). AreBlocks l) (sym same) (is_block words (omega (arith, length-memory_of c.args.layout.now c.args.p.now)) (omega (arith, length-memory_of c.args.layout.now c.args.p.now, fits)))

pub returns-clause-ok : goal.returns-clause-ok
unfolding expanded
returns-clause-ok c =
    let words : List ℕ = memory_of c.args.layout.now c.args.p.now in
    let bytes : c.from_vec-bytes.result ≡ flat_map word_bytes words = c.from_vec-bytes.ensures ∙ (c.in_ok-bytes_of.ensures ∙ ap (λ (l : List ℕ). flat_map word_bytes l) (c.as_slice-2.ensures.value ∙ c.in_ok-words.ensures.value)) in
    let same : c.push.new.self.items ≡ record { address = 0; bytes = flat_map word_bytes words } ∷ [] =
    c.in_ok-push.ensures.items ∙ (ap (λ (l : List Block). l ++ record { address = 0; bytes = c.from_vec-bytes.result } ∷ []) c.in_ok-blocks.ensures.items ∙ ap (λ (b : List ℕ). record { address = 0; bytes = b } ∷ []) bytes) in
    let start : c.start_of.result ≡ (expanded c.args.p.now c.args.layout.now).start = c.start_of.ensures ∙ ap (λ (s : Spots). spot s.code (slice_get s.entries 0)) c.spots-s.ensures in
    rw (c.new.ensures, same, start) refl
