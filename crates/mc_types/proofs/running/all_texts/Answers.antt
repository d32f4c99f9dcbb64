use Rattle.std.proofs.Common.{◌≡◌, ◌<◌, ◌+◌, ◌∷◌, ◌++◌, [], ℕ, List, Option, get_or, ap, ◌∙◌, sym, subst, take, length, arith}
use Rattle.std.proofs.lemmas.List.{take_more, take_all, get_or_default}
use Rattle.mc_tree.specs.declared.fault.Fault.{Fault}
use Rattle.mc_prog.specs.Passes.{passed}
use Rattle.mc_prog.specs.Pieces.{Piece}
use Rattle.mc_prog.specs.Resolved.{Texts, no_texts, text_fault, texts_behind}
use Rattle.mc_types.specs.Ranks.{IsFirstOf}
use Rattle.mc_types.specs.Runs.{AreTextsOf}
use Rattle.mc_types.proofs.PassLaws.{passed-more, fault-more}
use Rattle.mc_types.proofs.running.all_texts.Goals as goal

-- src/running.rt: one more piece
pub loop-piece-preserved : goal.loop-piece-preserved
loop-piece-preserved c = λ k is.
    let pieces : List Piece = c.args.pieces.now in
    let procedures = c.args.procedures.now in
    let n : ℕ = c.loop-piece.piece-index in
    let p : Piece = c.piece-item.result in
    let inside : n < length pieces = omega (arith, c.loop-piece-test.true, c.loop-piece.auto.piece-index-end) in
    let same : get_or pieces n p ≡ p = grind (arith, get_or_default, c.piece-item.is) in
    let more : take (n + 1) pieces ≡ take n pieces ++ (p ∷ []) = take_more pieces n p inside ∙ ap (λ (x : Piece). take n pieces ++ (x ∷ [])) same in
    let so_far = c.loop-piece.invariant k is in
    let t : Texts = passed (texts_behind k procedures pieces) no_texts (take n pieces) in
    subst (λ (some : List Piece). AreTextsOf k procedures pieces some c.step.new.self c.first_of-fault.result) (sym more) (record {
      texts = c.in_ok-own.ensures.new k is ∙ ap (λ (x : Texts). texts_behind k procedures pieces x p) so_far.texts ∙ sym (passed-more (texts_behind k procedures pieces) no_texts (take n pieces) p);
      fault = fault-more (texts_behind k procedures pieces) (text_fault k pieces) no_texts (take n pieces) p c.loop-piece.fault c.first_of-fault.result so_far.fault
          (subst (λ (o : Option Fault). IsFirstOf c.loop-piece.fault o c.first_of-fault.result) (c.in_ok-own.ensures.fault k is ∙ ap (λ (x : Texts). text_fault k pieces x p) so_far.texts) c.first_of-fault.ensures);
    })

-- src/running.rt: all pieces
pub returns : goal.returns
returns c = λ k is.
    subst (λ (some : List Piece). AreTextsOf k c.args.procedures.now c.args.pieces.now some c.loop-piece.texts c.loop-piece.fault)
    (take_all c.loop-piece.piece-index c.args.pieces.now (omega (arith, c.loop-piece-test.false))) (c.loop-piece.invariant k is)
