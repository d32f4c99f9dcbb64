use Rattle.std.proofs.Common.{◌≡◌, ℕ, arith, sym, ◌∙◌, ap, get_or, below_more}
use Rattle.std.proofs.lemmas.List.{get_or_default}
use Rattle.std.specs.Cmp.Lexicographic.{other_text}
use Rattle.mc_tree.specs.Spellings.{word_of}
use Rattle.mc_tree.specs.declared.token.Reserved.{Reserved}
use Rattle.mc_tree.specs.declared.token.Reserved.TheVariants.{AndWord}
use Rattle.mc_tree.specs.KindLaws.{all_words}
use Rattle.mc_scan.proofs.Reserved.{IsListed, listed}
use Rattle.mc_scan.proofs.word.reserved.Goals as goal

pub loop-word-preserved : goal.loop-word-preserved
loop-word-preserved c =
    let spelled : c.spelling.result.now ≡ word_of (get_or all_words c.loop-word.word-index AndWord) = c.spelling.ensures in
    let here : (other : Reserved) → word_of (get_or all_words c.loop-word.word-index other) ≡ c.args.bytes.now → ⊥ =
    λ other e.
    other_text c.spelling.result.now c.args.bytes.now c.if-eq.ensures
    (spelled ∙ (ap (λ (w : Reserved). word_of w) (get_or_default all_words c.loop-word.word-index AndWord other c.loop-word-test.true) ∙ e)) in
    λ k other l e.
    below_more (λ (n : ℕ). (o : Reserved) → word_of (get_or all_words n o) ≡ c.args.bytes.now → ⊥) c.loop-word.word-index
    (λ n m o. c.loop-word.invariant n o m) here k l other e

pub returns : goal.returns
returns c = λ word e.
    let l : IsListed word = listed word in
    c.loop-word.invariant l.index word (omega (arith, l.within)) (ap (λ (w : Reserved). word_of w) l.stands ∙ sym e)
