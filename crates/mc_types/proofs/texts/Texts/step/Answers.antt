use Rattle.std.proofs.Common.{◌≡◌, ◌∙◌, ◌++◌, ◌∷◌, [], ℕ, List, ap, sym, subst}
use Rattle.mc_prog.specs.declared.typing.Typed.{Typed}
use Rattle.mc_prog.specs.Pieces.{Around, Construct, Piece}
use Rattle.mc_prog.specs.DeclarationTypes.{place_of_piece, typed_by}
use Rattle.mc_prog.specs.Resolved.{Texts, text_fault, texts_behind}
use Rattle.mc_pieces.specs.Constructs.{around_of, construct_of}
use Rattle.mc_types.proofs.Steps.{said-by, stepped}
use Rattle.mc_types.proofs.texts.Texts.step.Goals as goal

-- src/texts.rt: what is known behind the piece
pub returns-clause-new : goal.returns-clause-new
returns-clause-new c = λ k is.
    let q = c.args.piece.now in
    let s = c.self.inside in
    let texts-with : List Typed → Texts = λ (x : List Typed). record { typed = x; nodes = s.nodes.items; texts = s.texts.items } in
    let piece-with : Construct → List ℕ → Around → Piece = λ n x a. record { front = q.front; construct = n; parts = x; around = a } in
    let t : Texts = texts-with c.as_slice-typed.result.now in
    let p : Piece = piece-with (construct_of c.construct-construct.result) c.numbers-numbers.result.now (around_of c.around-around.result) in
    let is-t = ap texts-with c.as_slice-typed.ensures.value ∙ c.self.view_is in
    let is-p = ap (λ n. piece-with n p.parts p.around) c.construct-construct.ensures ∙ ap (λ x. piece-with q.construct x p.around) c.numbers-numbers.ensures ∙ ap (piece-with q.construct q.parts) c.around-around.ensures in
    let new : Texts = record { typed = c.push.new.self.items; nodes = c.add_nodes.new.nodes.items; texts = c.add_text.new.texts.items } in
    let at = c.place_of.ensures ∙ ap (place_of_piece t.typed) (sym is-p) in
    let parts-are = c.as_slice.ensures.value ∙ c.in_ok-parts.ensures in
    subst (λ (u : Texts). new ≡ texts_behind k c.args.procedures.now c.args.pieces.now u c.args.piece.now) is-t
    (subst (λ (q : Piece). new ≡ texts_behind k c.args.procedures.now c.args.pieces.now t q) is-p
    (stepped k c.args.procedures.now c.args.pieces.now t p
    c.place_of.result c.as_slice.result.now c.as_slice-2.result.now c.part-first.result c.in_ok-said.said c.len-before.result c.len.result c.in_ok-node.node c.in_ok-next.next
    c.push.new.self.items c.add_nodes.new.nodes.items c.add_text.new.texts.items
    at parts-are (c.as_slice-2.ensures.value ∙ c.in_ok-of_parts.ensures) c.part-first.ensures
    (said-by k c.args.pieces.now t.typed p c.place_of.result c.as_slice.result.now c.in_ok-said.said at parts-are (c.in_ok-said.ensures k is))
    (c.in_ok-add_nodes.ensures k is) (c.len-before.ensures ∙ c.self.inside.nodes.ok.0) (c.len.ensures ∙ c.add_nodes.new.nodes.ok.0) c.in_ok-node.ensures
    (c.in_ok-next.ensures k is ∙ ap (λ (x : List Typed). typed_by k x c.place_of.result p.around p.construct c.in_ok-node.node c.in_ok-said.said) (c.as_slice-3.ensures.value ∙ sym c.as_slice.ensures.value))
    (c.in_ok-push.ensures.items ∙ ap (λ (x : List Typed). x ++ (c.in_ok-next.next ∷ [])) (sym c.as_slice-typed.ensures.value)) c.in_ok-add_text.ensures))

-- src/texts.rt: the fault of the piece
pub returns-clause-fault : goal.returns-clause-fault
returns-clause-fault c = λ k is.
    let q = c.args.piece.now in
    let s = c.self.inside in
    let texts-with : List Typed → Texts = λ (x : List Typed). record { typed = x; nodes = s.nodes.items; texts = s.texts.items } in
    let piece-with : Construct → List ℕ → Around → Piece = λ n x a. record { front = q.front; construct = n; parts = x; around = a } in
    let t : Texts = texts-with c.as_slice-typed.result.now in
    let p : Piece = piece-with (construct_of c.construct-construct.result) c.numbers-numbers.result.now (around_of c.around-around.result) in
    let is-t = ap texts-with c.as_slice-typed.ensures.value ∙ c.self.view_is in
    let is-p = ap (λ n. piece-with n p.parts p.around) c.construct-construct.ensures ∙ ap (λ x. piece-with q.construct x p.around) c.numbers-numbers.ensures ∙ ap (piece-with q.construct q.parts) c.around-around.ensures in
    let at = c.place_of.ensures ∙ ap (place_of_piece t.typed) (sym is-p) in
    subst (λ (u : Texts). c.in_ok-said.said.fault ≡ text_fault k c.args.pieces.now u c.args.piece.now) is-t
    (subst (λ (q : Piece). c.in_ok-said.said.fault ≡ text_fault k c.args.pieces.now t q) is-p
    (ap (λ s. s.fault) (said-by k c.args.pieces.now t.typed p c.place_of.result c.as_slice.result.now c.in_ok-said.said at (c.as_slice.ensures.value ∙ c.in_ok-parts.ensures) (c.in_ok-said.ensures k is))))
