-- What is known of the texts behind one more piece.
use Rattle.std.specs.Prelude.{◌≡◌, ℕ, ◌+◌, List, [], ◌∷◌, ◌++◌, length, map}
use Rattle.std.proofs.Common.{ap, ◌∙◌, sym}
use Rattle.std.proofs.lemmas.List.{length-append}
use Rattle.mc_tree.specs.declared.place.Place.{Place}
use Rattle.mc_prog.specs.declared.program.CodeInfo.{CodeInfo}
use Rattle.mc_prog.specs.declared.program.Node.{Node}
use Rattle.mc_prog.specs.declared.typing.Meaning.{Meaning}
use Rattle.mc_prog.specs.declared.typing.Said.{Said}
use Rattle.mc_prog.specs.declared.typing.Typed.{Typed}
use Rattle.mc_prog.specs.Pieces.{Piece}
use Rattle.mc_prog.specs.Known.{Known, part}
use Rattle.mc_prog.specs.Nodes.{nodes_of}
use Rattle.mc_prog.specs.PieceTypes.{text_piece}
use Rattle.mc_prog.specs.DeclarationTypes.{parts_of_piece, place_of_piece, typed_by}
use Rattle.mc_prog.specs.Resolved.{Text, Texts, node_at, node_number, text_said, texts_behind, texts_by}

-- what a piece says, by its place and its parts
pub said-by : (k : Known) (pieces : List Piece) (typed : List Typed) (p : Piece) (place : Place) (parts : List Typed) (said : Said)
    → place ≡ place_of_piece typed p → parts ≡ parts_of_piece typed p → said ≡ text_piece k pieces typed p.around place p.parts parts p.construct
    → said ≡ text_said k pieces typed p
said-by k pieces typed p place parts said at is by =
    by ∙ ap (λ (x : Place). text_piece k pieces typed p.around x p.parts parts p.construct) at
    ∙ ap (λ (x : List Typed). text_piece k pieces typed p.around (place_of_piece typed p) p.parts x p.construct) is

-- the nodes that it adds
abbrev pub added : Known → List CodeInfo → Texts → Piece → Place → List ℕ → Meaning → List Node
added k procedures t p place numbers m = nodes_of k procedures p.around place m t.typed p.parts (length t.nodes) numbers p.construct

-- what is known then, by what is said and where
behind : Known → List CodeInfo → Texts → Piece → Place → List Typed → List ℕ → Typed → Said → Texts
behind k procedures t p place_ parts_ numbers first said = record {
  typed = t.typed ++ (typed_by k parts_ place_ p.around p.construct (node_number (length t.nodes) first.node (added k procedures t p place_ numbers said.meaning)) said ∷ []);
  nodes = t.nodes ++ added k procedures t p place_ numbers said.meaning;
  texts = t.texts ++ texts_by p.around first p.construct;
}

pub stepped : (k : Known) (procedures : List CodeInfo) (pieces : List Piece) (t : Texts) (p : Piece)
    (place : Place) (parts : List Typed) (numbers : List ℕ) (first : Typed) (said : Said) (before now n : ℕ) (next : Typed) (typed1 : List Typed) (nodes1 : List Node) (texts1 : List Text)
    → place ≡ place_of_piece t.typed p → parts ≡ parts_of_piece t.typed p → numbers ≡ map (node_at t.typed) p.parts → first ≡ part t.typed p.parts 0
    → said ≡ text_said k pieces t.typed p
    → nodes1 ≡ t.nodes ++ added k procedures t p place numbers said.meaning
    → before ≡ length t.nodes → now ≡ length nodes1
    → ((more : List Node) → now ≡ before + length more → n ≡ node_number before first.node more)
    → next ≡ typed_by k parts place p.around p.construct n said
    → typed1 ≡ t.typed ++ (next ∷ [])
    → texts1 ≡ t.texts ++ texts_by p.around first p.construct
    → ◌≡◌ {A = Texts} (record { typed = typed1; nodes = nodes1; texts = texts1 }) (texts_behind k procedures pieces t p)
unfolding behind
stepped k procedures pieces t p place_ parts_ numbers first said before now n next typed1 nodes1 texts1 at is are is-first by new was is-now number knows pushed ends =
    let more : List Node = added k procedures t p place_ numbers said.meaning in
    let number-is : n ≡ node_number (length t.nodes) first.node more =
    number more (is-now ∙ ap (λ (x : List Node). length x) new ∙ length-append t.nodes more ∙ ap (λ (x : ℕ). x + length more) (sym was)) ∙ ap (λ (x : ℕ). node_number x first.node more) was in
    ap (λ (x : List Typed). record { typed = x; nodes = nodes1; texts = texts1 }) (pushed ∙ ap (λ (x : Typed). t.typed ++ (x ∷ [])) (knows ∙ ap (λ (x : ℕ). typed_by k parts_ place_ p.around p.construct x said) number-is))
    ∙ ap (λ (x : List Node). record { typed = (behind k procedures t p place_ parts_ numbers first said).typed; nodes = x; texts = texts1 }) new
    ∙ ap (λ (x : List Text). record { typed = (behind k procedures t p place_ parts_ numbers first said).typed; nodes = (behind k procedures t p place_ parts_ numbers first said).nodes; texts = x }) ends
    ∙ ap (λ (x : Place). behind k procedures t p x parts_ numbers first said) at
    ∙ ap (λ (x : List Typed). behind k procedures t p (place_of_piece t.typed p) x numbers first said) is
    ∙ ap (λ (x : List ℕ). behind k procedures t p (place_of_piece t.typed p) (parts_of_piece t.typed p) x first said) are
    ∙ ap (λ (x : Typed). behind k procedures t p (place_of_piece t.typed p) (parts_of_piece t.typed p) (map (node_at t.typed) p.parts) x said) is-first
    ∙ ap (λ (x : Said). behind k procedures t p (place_of_piece t.typed p) (parts_of_piece t.typed p) (map (node_at t.typed) p.parts) (part t.typed p.parts 0) x) by
