-- One step of each list that is built, as the definitions take it.
use Rattle.std.specs.Prelude.{◌≡◌, ℕ, suc, ◌+◌, Bool, false, List, [], ◌∷◌, ◌++◌, length, take, drop, refl}
use Rattle.std.specs.List.{flat_map}
use Rattle.std.proofs.Common.{sym, ◌∙◌, ap, arith}
use Rattle.std.proofs.lemmas.List.{append_assoc, append-nil, length-append, drop-drop}
use Rattle.mc_pcode.specs.declared.instruction.PInstr.{PInstr}
use Rattle.mc_pcode.specs.declared.program.PEntry.{PEntry}
use Rattle.mc_pcode.specs.Code.{ProcessCode}
use Rattle.mc_expand.specs.declared.line.Item.{Item}
use Rattle.mc_expand.specs.declared.pieces.Piece.{Piece}
use Rattle.mc_expand.specs.declared.pieces.Piece.TheVariants as piece
use Rattle.mc_expand.specs.Pieces.{goes_on, due, fronts, passing, pieces_from, pieces_of, piece_items, items_of, place_at, entry_at, places_from, entries_from}

pub pieces_step : (done : List Piece) (c : ℕ) (on : Bool) (n : ℕ) (entries : List PEntry) (i : PInstr) (code : List PInstr) →
    (((done ++ passing on c (due c entries)) ++ fronts c n (take (due c entries) entries)) ++ piece.Runs i ∷ []) ++ pieces_from (suc c) (goes_on i) (n + due c entries) (drop (due c entries) entries) code
    ≡ done ++ pieces_from c on n entries (i ∷ code)
unfolding pieces_from
pieces_step done c on n entries i code = simp append_assoc

pub pieces_end : (c : ℕ) (on : Bool) (n : ℕ) (entries : List PEntry) → pieces_from c on n entries [] ≡ fronts c n entries
unfolding pieces_from
pieces_end c on n entries = refl

pub pieces_whole : (p : ProcessCode) → pieces_of p ≡ pieces_from 0 false 0 p.entries p.code
unfolding pieces_of
pieces_whole p = refl

pub pieces_next : (done : List Piece) (c : ℕ) (on : Bool) (n : ℕ) (entries : List PEntry) (i : PInstr) (code : List PInstr) (k : ℕ) (taken : List PEntry) (further : Bool) →
    k ≡ due c (drop n entries) → taken ≡ take k (drop n entries) → further ≡ goes_on i → drop c code ≡ i ∷ drop (c + 1) code →
    (((done ++ passing on c k) ++ fronts c n taken) ++ piece.Runs i ∷ []) ++ pieces_from (c + 1) further (n + k) (drop (n + k) entries) (drop (c + 1) code)
    ≡ done ++ pieces_from c on n (drop n entries) (drop c code)
pieces_next done c on n entries i code k taken further ek et eo ed =
    let e : c + 1 ≡ suc c = omega arith in
    rw (et, eo, ek, ed, ← drop-drop (due c (drop n entries)) n entries, e) (pieces_step done c on n (drop n entries) i (drop (suc c) code))

pub items_more : (workspace : ℕ) (p : ProcessCode) (pieces : List Piece) (x : Piece) →
    items_of workspace p (pieces ++ x ∷ []) ≡ items_of workspace p pieces ++ piece_items workspace p x
unfolding items_of
items_more workspace p [] x = append-nil (piece_items workspace p x)
items_more workspace p (y ∷ pieces) x =
    ap (λ (l : List Item). piece_items workspace p y ++ l) (items_more workspace p pieces x)
    ∙ sym (append_assoc (piece_items workspace p y) (flat_map (piece_items workspace p) pieces) (piece_items workspace p x))

length-items_of : (workspace : ℕ) (p : ProcessCode) (x : Piece) (pieces : List Piece) →
    length (items_of workspace p (x ∷ pieces)) ≡ length (piece_items workspace p x) + length (items_of workspace p pieces)
unfolding items_of
length-items_of workspace p x pieces = length-append (piece_items workspace p x) (flat_map (piece_items workspace p) pieces)

items_none : (workspace : ℕ) (p : ProcessCode) → length (items_of workspace p []) ≡ 0
unfolding items_of
items_none workspace p = refl

pub places_more : (workspace : ℕ) (p : ProcessCode) (at : ℕ) (pieces : List Piece) (x : Piece) →
    places_from workspace p at (pieces ++ x ∷ []) ≡ places_from workspace p at pieces ++ place_at (at + length (items_of workspace p pieces)) x
unfolding places_from
places_more workspace p at [] x =
    let e : at ≡ at + length (items_of workspace p []) = omega (arith, items_none workspace p) in
    append-nil (place_at at x) ∙ ap (λ (n : ℕ). place_at n x) e
places_more workspace p at (y ∷ pieces) x =
    let next : ℕ = at + length (piece_items workspace p y) in
    let e : next + length (items_of workspace p pieces) ≡ at + length (items_of workspace p (y ∷ pieces)) = omega (arith, length-items_of workspace p y pieces) in
    ap (λ (l : List ℕ). place_at at y ++ l) (places_more workspace p next pieces x ∙ ap (λ (n : ℕ). places_from workspace p next pieces ++ place_at n x) e)
    ∙ sym (append_assoc (place_at at y) (places_from workspace p next pieces) (place_at (at + length (items_of workspace p (y ∷ pieces))) x))

pub entries_more : (workspace : ℕ) (p : ProcessCode) (at : ℕ) (pieces : List Piece) (x : Piece) →
    entries_from workspace p at (pieces ++ x ∷ []) ≡ entries_from workspace p at pieces ++ entry_at (at + length (items_of workspace p pieces)) x
unfolding entries_from
entries_more workspace p at [] x =
    let e : at ≡ at + length (items_of workspace p []) = omega (arith, items_none workspace p) in
    append-nil (entry_at at x) ∙ ap (λ (n : ℕ). entry_at n x) e
entries_more workspace p at (y ∷ pieces) x =
    let next : ℕ = at + length (piece_items workspace p y) in
    let e : next + length (items_of workspace p pieces) ≡ at + length (items_of workspace p (y ∷ pieces)) = omega (arith, length-items_of workspace p y pieces) in
    ap (λ (l : List ℕ). entry_at at y ++ l) (entries_more workspace p next pieces x ∙ ap (λ (n : ℕ). entries_from workspace p next pieces ++ entry_at n x) e)
    ∙ sym (append_assoc (entry_at at y) (entries_from workspace p next pieces) (entry_at (at + length (items_of workspace p (y ∷ pieces))) x))

pub items_start : (workspace : ℕ) (p : ProcessCode) → items_of workspace p [] ≡ []
unfolding items_of
items_start workspace p = refl

pub places_start : (workspace : ℕ) (p : ProcessCode) → places_from workspace p 0 [] ≡ []
unfolding places_from
places_start workspace p = refl

pub entries_start : (workspace : ℕ) (p : ProcessCode) → entries_from workspace p 0 [] ≡ []
unfolding entries_from
entries_start workspace p = refl
