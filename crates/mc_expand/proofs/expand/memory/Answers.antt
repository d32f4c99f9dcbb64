use Rattle.std.proofs.Common.{arith, ◌≡◌, ◌+◌, ◌-◌, ◌*◌, ℕ, ◌∙◌, ap, refl}
use Rattle.mc_pcode.specs.Code.{ProcessCode}
use Rattle.mc_expand.specs.Expanded.{Spots, work_begin, memory_of}
use Rattle.mc_expand.specs.Laws.{work_begin-is}
use Rattle.mc_expand.proofs.expand.memory.Goals as goal

pub low_memory-requires : goal.low_memory-requires
low_memory-requires c =
    let workspace : ℕ = c.args.layout.now.settings.workspace_words in
    let top : c.s.inside.top ≡ work_begin workspace c.args.p.now + 2 * workspace * (0 + 1) = ap (λ (s : Spots). s.top) (c.s.view_is ∙ c.requires.spots) in
    omega (arith, top, work_begin-is workspace c.args.p.now, c.requires.fits)

pub returns : goal.returns
unfolding memory_of
returns c =
    let workspace : ℕ = c.args.layout.now.settings.workspace_words in
    let top : c.s.inside.top ≡ work_begin workspace c.args.p.now + 2 * workspace * (0 + 1) = ap (λ (s : Spots). s.top) (c.s.view_is ∙ c.requires.spots) in
    let work : c.s.inside.top - 2 * workspace ≡ work_begin workspace c.args.p.now = omega (arith, top) in
    let texts : c.as_slice.result.now ≡ c.args.p.now.texts = c.as_slice.ensures.value ∙ ap (λ (p : ProcessCode). p.texts) c.p.view_is in
    let words : c.p.inside.data_words ≡ c.args.p.now.data_words = ap (λ (p : ProcessCode). p.data_words) c.p.view_is in
    record {
      value = rw (c.in_ok-push_table.ensures, c.in_ok-push_code.ensures, c.in_ok-extend_from_slice.ensures.items, c.in_ok-push_zeros.ensures, c.in_ok-words.ensures.value, work, texts, c.requires.spots, c.requires.items, words) refl;
    }
