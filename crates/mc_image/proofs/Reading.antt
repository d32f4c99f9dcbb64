-- An image is read one piece further.
use Rattle.std.proofs.Common.{◌≡◌, ◌≢◌, ℕ, zero, suc, ◌+◌, ◌-◌, ◌%◌, ◌<◌, ◌≤◌, ◌⊎◌, inl, inr, List, [], ◌∷◌, ◌++◌, length, take, drop, get_or, replicate, Result, Ok, Err, refl, sym, ◌∙◌, ap, subst, arith, append_assoc}
use Rattle.std.specs.Result.{MatchResult, IfOk, IfErr}
use Rattle.std.proofs.lemmas.List.{append-nil, take-append-drop, drop_more, drop_at, drop_all, length-append}
use Rattle.mc_image.specs.declared.image.Block.{Block}
use Rattle.mc_image.specs.declared.fault.ImageFault.{ImageFault}
use Rattle.mc_image.specs.declared.fault.ImageFault.TheVariants.{NoStart, Memory}
use Rattle.std.specs.Result.{OnOk}
use Rattle.mc_image.specs.Blocks.{IsPlaced, AreApart, IsApartFrom, AreBlocks}
use Rattle.mc_image.specs.Image.{ImageState}
use Rattle.mc_image.specs.Format.{start_bytes, Piece, Null, Data, piece_bytes, pieces_bytes, blocks_of, data_bytes, IsImage}
use Rattle.mc_image.specs.Faults.{StandsAt, HasTrailing, HasFirstFault}
use Rattle.mc_image.specs.Laws.{IsImage-unique, HasFirstFault-unique, IsImage-no_fault}
use Rattle.mc_image.specs.Steps.{IsRead, MayStand, IsRefusal}

-- Blocks

pub apart_more : (b : Block) (blocks : List Block) (i : ℕ) (d : Block) → i < length blocks → IsApartFrom b (take i blocks) → AreApart b (get_or blocks i d) → IsApartFrom b (take (suc i) blocks)
apart_more b [] i d l h a = absurd (omega arith)
apart_more b (c ∷ blocks) zero d l h a = (a, tt)
apart_more b (c ∷ blocks) (suc i) d l h a = (h.0, apart_more b blocks i d (omega arith) h.1 a)

pub apart_at : (b : Block) (blocks : List Block) (i : ℕ) (d : Block) → i < length blocks → IsApartFrom b blocks → AreApart b (get_or blocks i d)
apart_at b [] i d l h = absurd (omega arith)
apart_at b (c ∷ blocks) zero d l h = h.0
apart_at b (c ∷ blocks) (suc i) d l h = apart_at b blocks i d (omega arith) h.1

-- Pieces

bytes_more : (pieces : List Piece) (p : Piece) → pieces_bytes (pieces ++ p ∷ []) ≡ pieces_bytes pieces ++ piece_bytes p
bytes_more [] p = append-nil (piece_bytes p)
bytes_more (q ∷ pieces) p = ap (λ (l : List ℕ). piece_bytes q ++ l) (bytes_more pieces p) ∙ sym (append_assoc (piece_bytes q) (pieces_bytes pieces) (piece_bytes p))

blocks_more_null : (pieces : List Piece) → blocks_of (pieces ++ Null ∷ []) ≡ blocks_of pieces
blocks_more_null [] = refl
blocks_more_null (Null ∷ pieces) = blocks_more_null pieces
blocks_more_null (Data b ∷ pieces) = ap (λ (l : List Block). b ∷ l) (blocks_more_null pieces)

blocks_more_data : (pieces : List Piece) (b : Block) → blocks_of (pieces ++ Data b ∷ []) ≡ blocks_of pieces ++ b ∷ []
blocks_more_data [] b = refl
blocks_more_data (Null ∷ pieces) b = blocks_more_data pieces b
blocks_more_data (Data c ∷ pieces) b = ap (λ (l : List Block). c ∷ l) (blocks_more_data pieces b)

-- Steps

pub nothing_read : (bytes : List ℕ) → IsRead 0 [] bytes
nothing_read bytes = record { pieces = []; parts = refl; place = refl; taken = refl; placed = tt }

pub over_null : (at : ℕ) (blocks : List Block) (bytes : List ℕ) → at < length bytes → get_or bytes at 0 ≡ 0 → IsRead at blocks bytes → IsRead (at + 1) blocks bytes
over_null at blocks bytes l e r =
    let next : drop at bytes ≡ 0 ∷ drop (at + 1) bytes = drop_more bytes at 0 l ∙ ap (λ (b : ℕ). b ∷ drop (at + 1) bytes) e in
    record {
      pieces = r.pieces ++ Null ∷ [];
      parts = r.parts ∙ (ap (λ (l : List ℕ). pieces_bytes r.pieces ++ l) next
          ∙ (sym (append_assoc (pieces_bytes r.pieces) (0 ∷ []) (drop (at + 1) bytes)) ∙ ap (λ (l : List ℕ). l ++ drop (at + 1) bytes) (sym (bytes_more r.pieces Null))));
      place = ap length (bytes_more r.pieces Null) ∙ (length-append (pieces_bytes r.pieces) (0 ∷ []) ∙ ap (λ (n : ℕ). n + 1) r.place);
      taken = r.taken ∙ sym (blocks_more_null r.pieces);
      placed = r.placed;
    }

pub over_block : (at : ℕ) (blocks : List Block) (bytes : List ℕ) (b : Block) (left : List ℕ) → drop at bytes ≡ data_bytes b ++ left → AreBlocks (blocks ++ b ∷ []) → IsRead at blocks bytes → IsRead (length bytes - length left) (blocks ++ b ∷ []) bytes
over_block at blocks bytes b left e h r =
    let behind : List Piece = r.pieces ++ Data b ∷ [] in
    let parts : bytes ≡ pieces_bytes behind ++ left =
    r.parts ∙ (ap (λ (l : List ℕ). pieces_bytes r.pieces ++ l) e
    ∙ (sym (append_assoc (pieces_bytes r.pieces) (data_bytes b) left) ∙ ap (λ (l : List ℕ). l ++ left) (sym (bytes_more r.pieces (Data b))))) in
    let total : length bytes ≡ length (pieces_bytes behind) + length left = ap length parts ∙ length-append (pieces_bytes behind) left in
    let place : length (pieces_bytes behind) ≡ length bytes - length left = omega arith in
    let rest : drop (length bytes - length left) bytes ≡ left = ap (drop (length bytes - length left)) parts ∙ drop_at (pieces_bytes behind) left (length bytes - length left) place in
    record {
      pieces = behind;
      parts = parts ∙ ap (λ (l : List ℕ). pieces_bytes behind ++ l) (sym rest);
      place = place;
      taken = ap (λ (l : List Block). l ++ b ∷ []) r.taken ∙ sym (blocks_more_data r.pieces b);
      placed = h;
    }

-- Answers

pub fault_here : (fault : ImageFault) (at : ℕ) (blocks : List Block) (bytes rest : List ℕ) → drop at bytes ≡ rest → IsRead at blocks bytes → StandsAt fault at blocks rest → HasFirstFault bytes fault
fault_here fault at blocks bytes rest e r s =
    record {
      pieces = r.pieces;
      rest = rest;
      parts = r.parts ∙ ap (λ (l : List ℕ). pieces_bytes r.pieces ++ l) e;
      placed = subst (λ (l : List Block). AreBlocks l) r.taken r.placed;
      stands = subst (λ (k : ℕ). StandsAt fault k (blocks_of r.pieces) rest) (sym r.place) (subst (λ (l : List Block). StandsAt fault at l rest) r.taken s);
    }

pub may_stand : (fault : ImageFault) (at : ℕ) (blocks : List Block) (bytes rest : List ℕ) → drop at bytes ≡ rest → IsRead at blocks bytes → MayStand fault at blocks rest → IsRefusal fault bytes
may_stand fault at blocks bytes rest e r (inl m) = inl m
may_stand fault at blocks bytes rest e r (inr s) = inr (fault_here fault at blocks bytes rest e r s)

pub no_start : (at : ℕ) (blocks : List Block) (bytes : List ℕ) → length bytes ≤ at → IsRead at blocks bytes → HasFirstFault bytes NoStart
no_start at blocks bytes l r = fault_here NoStart at blocks bytes [] (drop_all at bytes l) r (inl refl)

pub image_there : (at : ℕ) (blocks : List Block) (bytes : List ℕ) (start : ℕ) (left : List ℕ) → drop at bytes ≡ start_bytes start ++ left → left ≡ replicate (length left) 0 → start % 2 ≡ 0 → IsRead at blocks bytes → IsImage bytes (record { blocks = blocks; start = start })
image_there at blocks bytes start left e nulls even r =
    record {
      pieces = r.pieces;
      nulls = length left;
      parts = r.parts ∙ ap (λ (l : List ℕ). pieces_bytes r.pieces ++ l) (e ∙ ap (λ (l : List ℕ). start_bytes start ++ l) nulls);
      blocks = r.taken;
      placed = r.placed;
      even = even;
    }

pub trailing_there : (at start : ℕ) (left : List ℕ) (i : ℕ) → i < length left → take i left ≡ replicate i 0 → get_or left i 0 ≢ 0 → start % 2 ≡ 0 → HasTrailing (at + 7 + i) at (start_bytes start ++ left)
trailing_there at start left i l e n even =
    let parts : left ≡ replicate i 0 ++ get_or left i 0 ∷ drop (i + 1) left =
    sym (take-append-drop i left) ∙ (ap (λ (x : List ℕ). x ++ drop i left) e ∙ ap (λ (x : List ℕ). replicate i 0 ++ x) (drop_more left i 0 l)) in
    (start, i, get_or left i 0, drop (i + 1) left, ap (λ (x : List ℕ). start_bytes start ++ x) parts, even, n, omega arith)

pub accepted : (answer : Result ImageState ImageFault) (bytes : List ℕ) (image : ImageState) → IfOk answer (λ i. IsImage bytes i) → IfErr answer (λ f. IsRefusal f bytes) → IsImage bytes image → MatchResult answer (λ i. i ≡ image) (λ f. f ≡ Memory)
accepted (Ok i) bytes image h g s = IsImage-unique bytes i image h s
accepted (Err f) bytes image h g s = only g
  where
    only : IsRefusal f bytes → f ≡ Memory
    only (inl e) = e
    only (inr k) = absurd (IsImage-no_fault bytes image f s k)

pub refused : (answer : Result ImageState ImageFault) (bytes : List ℕ) (fault : ImageFault) → IfOk answer (λ i. IsImage bytes i) → IfErr answer (λ f. IsRefusal f bytes) → HasFirstFault bytes fault → MatchResult answer (λ _. ⊥) (λ f. (f ≡ Memory) ⊎ (f ≡ fault))
refused (Ok i) bytes fault h g s = IsImage-no_fault bytes i fault h s
refused (Err f) bytes fault h g s = only g
  where
    only : IsRefusal f bytes → (f ≡ Memory) ⊎ (f ≡ fault)
    only (inl e) = inl e
    only (inr k) = inr (HasFirstFault-unique bytes f fault k s)

pub has_bytes : (bytes : List ℕ) → bytes ≢ [] → 0 < length bytes
has_bytes [] n = absurd (n refl)
has_bytes (b ∷ bytes) n = omega arith

pub placed_at : (blocks : List Block) (i : ℕ) (d : Block) → i < length blocks → AreBlocks blocks → IsPlaced (get_or blocks i d)
placed_at [] i d l h = absurd (omega arith)
placed_at (b ∷ blocks) zero d l h = h.0
placed_at (b ∷ blocks) (suc i) d l h = placed_at blocks i d (omega arith) h.2

pub finished : (answer : Result ImageState ImageFault) (at : ℕ) (blocks : List Block) (bytes : List ℕ) (start : ℕ) (left : List ℕ) → drop at bytes ≡ start_bytes start ++ left → IsRead at blocks bytes → IfOk answer (λ i. i ≡ record { blocks = blocks; start = start }) → OnOk answer (start % 2 ≡ 0) → OnOk answer (left ≡ replicate (length left) 0) → IfOk answer (λ i. IsImage bytes i)
finished (Ok i) at blocks bytes start left e r same even nulls = subst (λ (x : ImageState). IsImage bytes x) (sym same) (image_there at blocks bytes start left e nulls even r)
finished (Err f) at blocks bytes start left e r same even nulls = tt

pub not_finished : (answer : Result ImageState ImageFault) (at : ℕ) (blocks : List Block) (bytes rest : List ℕ) → drop at bytes ≡ rest → IsRead at blocks bytes → IfErr answer (λ f. StandsAt f at blocks rest) → IfErr answer (λ f. IsRefusal f bytes)
not_finished (Ok i) at blocks bytes rest e r h = tt
not_finished (Err f) at blocks bytes rest e r h = inr (fault_here f at blocks bytes rest e r h)
