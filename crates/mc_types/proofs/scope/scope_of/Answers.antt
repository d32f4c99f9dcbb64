use Rattle.std.proofs.Common.{◌≡◌, ◌<◌, ◌+◌, ◌∷◌, ◌++◌, [], ℕ, List, Option, get_or, ap, ◌∙◌, sym, subst, take, length, arith}
use Rattle.std.proofs.lemmas.List.{take_more, take_all, get_or_default}
use Rattle.mc_tree.specs.declared.fault.Fault.{Fault}
use Rattle.mc_prog.specs.DeclarationTypes.{Scope, declaration_fault, nothing_declared, scope_behind}
use Rattle.mc_prog.specs.Passes.{passed}
use Rattle.mc_prog.specs.Pieces.{Piece}
use Rattle.mc_types.specs.Ranks.{IsFirstOf}
use Rattle.mc_types.specs.Stands.{IsScopeOf, Stands}
use Rattle.mc_types.proofs.PassLaws.{passed-more, fault-more}
use Rattle.mc_types.proofs.scope.scope_of.Goals as goal

-- src/scope.rt: one more piece
pub loop-piece-preserved : goal.loop-piece-preserved
loop-piece-preserved c = λ namings u.
    let pieces : List Piece = c.args.pieces.now in
    let n : ℕ = c.loop-piece.piece-index in
    let p : Piece = c.piece-item.result in
    let inside : n < length pieces = omega (arith, c.loop-piece-test.true, c.loop-piece.auto.piece-index-end) in
    let same : get_or pieces n p ≡ p = grind (arith, get_or_default, c.piece-item.is) in
    let more : take (n + 1) pieces ≡ take n pieces ++ (p ∷ []) = take_more pieces n p inside ∙ ap (λ (x : Piece). take n pieces ++ (x ∷ [])) same in
    let so_far = c.loop-piece.invariant namings u in
    let s : Scope = passed (scope_behind namings pieces) nothing_declared (take n pieces) in
    subst (λ (some : List Piece). IsScopeOf namings c.args.uses.now pieces some c.step.new.entities c.step.new.declared c.step.new.typed.items c.first_of-fault.result) (sym more) (record {
      stands = subst (λ (x : Scope). Stands namings x c.args.uses.now c.step.new.entities c.step.new.declared c.step.new.typed.items)
          (sym (passed-more (scope_behind namings pieces) nothing_declared (take n pieces) p)) (c.in_ok-own.ensures.stands namings s so_far.stands);
      fault = fault-more (scope_behind namings pieces) (declaration_fault namings pieces) nothing_declared (take n pieces) p c.loop-piece.fault c.first_of-fault.result so_far.fault
          (subst (λ (o : Option Fault). IsFirstOf c.loop-piece.fault o c.first_of-fault.result) (c.in_ok-own.ensures.fault namings s so_far.stands) c.first_of-fault.ensures);
    })

-- src/scope.rt: all pieces
pub returns : goal.returns
returns c = λ namings u.
    let pieces : List Piece = c.args.pieces.now in
    subst (λ (some : List Piece). IsScopeOf namings c.args.uses.now pieces some c.loop-piece.entities c.loop-piece.declared c.loop-piece.typed.items c.loop-piece.fault)
    (take_all c.loop-piece.piece-index pieces (omega (arith, c.loop-piece-test.false))) (c.loop-piece.invariant namings u)
