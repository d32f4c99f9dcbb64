-- The laws of images: bytes have at most one image or one first fault, and not both, and an image's own bytes are that image.
use Rattle.std.specs.Prelude.{◌≡◌, ℕ, ◌+◌, ◌%◌, List, [], ◌∷◌, ◌++◌, length, replicate, refl, sum}
use Rattle.std.specs.List.{flat_map}
use Rattle.std.proofs.Common.{sym, ◌∙◌, ap, subst, inl, inr, arith, append_assoc, length-append}
use Rattle.std.proofs.lemmas.List.{append-nil}
use Rattle.std.proofs.lemmas.List.Sums.{sum_by_push}
use Rattle.mc_image.specs.declared.image.Block.{Block}
use Rattle.mc_image.specs.declared.fault.ImageFault.{ImageFault}
use Rattle.mc_image.specs.Blocks.{IsPlaced, AreApart, IsApartFrom, AreBlocks}
use Rattle.mc_image.specs.Image.{ImageState}
use Rattle.mc_image.specs.Format.{frame, checksum, block_bytes, start_bytes, Piece, Null, Data, piece_bytes, pieces_bytes, blocks_of, IsImage, data_bytes, image_bytes}
use Rattle.mc_image.specs.Faults.{HasFirstFault}
use Rattle.mc_image.specs.Fronts.{sums_to_zero, Front, Takes, Fails, Ends, front, front_null, takes_block, ends_image, front_fails}

-- Blocks

apart_symmetric : (b c : Block) → AreApart b c → AreApart c b
apart_symmetric b c (inl e) = inr e
apart_symmetric b c (inr e) = inl e

apart_from_one : (c b : Block) (blocks more : List Block) → IsApartFrom c (blocks ++ b ∷ more) → AreApart c b
apart_from_one c b [] more h = h.0
apart_from_one c b (x ∷ blocks) more h = apart_from_one c b blocks more h.1

-- each of the blocks is placed, and apart from those before it
pub block_within : (blocks : List Block) (b : Block) (more : List Block) → AreBlocks (blocks ++ b ∷ more) → IsPlaced b × IsApartFrom b blocks
block_within [] b more h = (h.0, tt)
block_within (c ∷ blocks) b more h =
    let r = block_within blocks b more h.2 in
    (r.0, (apart_symmetric c b (apart_from_one c b blocks more h.1), r.1))

apart_from_more : (c b : Block) (blocks : List Block) → IsApartFrom c blocks → AreApart c b → IsApartFrom c (blocks ++ b ∷ [])
apart_from_more c b [] h a = (a, tt)
apart_from_more c b (x ∷ blocks) h a = (h.0, apart_from_more c b blocks h.1 a)

-- one block more
pub AreBlocks-more : (blocks : List Block) (b : Block) → AreBlocks blocks → IsPlaced b → IsApartFrom b blocks → AreBlocks (blocks ++ b ∷ [])
AreBlocks-more [] b h p a = (p, tt, tt)
AreBlocks-more (c ∷ blocks) b h p a = (h.0, apart_from_more c b blocks h.1 (apart_symmetric b c a.0), AreBlocks-more blocks b h.2 p a.1)

-- Reading

-- the blocks behind a piece
abbrev blocks_behind : List Block → Piece → List Block
blocks_behind blocks Null = blocks
blocks_behind blocks (Data b) = blocks ++ b ∷ []

-- from the place `here` on, behind these blocks, the pieces are taken, and then the front of what is left is `last`
abbrev Reads : ℕ → List Block → List Piece → List ℕ → Front → Type 0
Reads here blocks [] bytes last = front here blocks bytes ≡ last
Reads here blocks (p ∷ pieces) bytes last =
    (left : List ℕ) × (front here blocks bytes ≡ Takes p left) × Reads (here + length (piece_bytes p)) (blocks_behind blocks p) pieces left last

abbrev IsLast : Front → Type 0
IsLast (Takes p left) = ⊥
IsLast (Fails fault) = Unit {0}
IsLast (Ends start) = Unit {0}

not_last : (p : Piece) (left : List ℕ) (last : Front) → IsLast last → Takes p left ≡ last → ⊥
not_last p left (Takes q other) h e = h
not_last p left (Fails fault) h e = cc
not_last p left (Ends start) h e = cc

record SameReading (pieces others : List Piece) (last other : Front) : Type 0 where
  same_pieces : pieces ≡ others
  same_last : last ≡ other

reads_unique : (pieces others : List Piece) (here : ℕ) (blocks : List Block) (bytes : List ℕ) (last other : Front) → IsLast last → IsLast other → Reads here blocks pieces bytes last → Reads here blocks others bytes other → SameReading pieces others last other
reads_unique [] [] here blocks bytes last other a b h g = record { same_pieces = refl; same_last = sym h ∙ g }
reads_unique [] (q ∷ others) here blocks bytes last other a b h g = absurd (not_last q g.0 last a (sym g.1 ∙ h))
reads_unique (p ∷ pieces) [] here blocks bytes last other a b h g = absurd (not_last p h.0 other b (sym h.1 ∙ g))
reads_unique (p ∷ pieces) (q ∷ others) here blocks bytes last other a b h g =
    let both : Takes p h.0 ≡ Takes q g.0 = sym h.1 ∙ g.1 in
    let same_piece : p ≡ q = cc in
    let same_left : h.0 ≡ g.0 = cc in
    let further : Reads (here + length (piece_bytes p)) (blocks_behind blocks p) others h.0 other =
    subst (λ (l : List ℕ). Reads (here + length (piece_bytes p)) (blocks_behind blocks p) others l other) (sym same_left)
    (subst (λ (r : Piece). Reads (here + length (piece_bytes r)) (blocks_behind blocks r) others g.0 other) (sym same_piece) g.2) in
    let more : SameReading pieces others last other = reads_unique pieces others (here + length (piece_bytes p)) (blocks_behind blocks p) h.0 last other a b h.2 further in
    record { same_pieces = cc (same_piece, more.same_pieces); same_last = more.same_last }

-- pieces that stand one behind the other are read so
reads_pieces : (pieces : List Piece) (here : ℕ) (blocks : List Block) (rest : List ℕ) (last : Front) → AreBlocks (blocks ++ blocks_of pieces) → front (here + length (pieces_bytes pieces)) (blocks ++ blocks_of pieces) rest ≡ last → Reads here blocks pieces (pieces_bytes pieces ++ rest) last
reads_pieces [] here blocks rest last h e =
    let place : here + 0 ≡ here = omega arith in
    subst (λ (l : List Block). front here l rest ≡ last) (append-nil blocks) (subst (λ (k : ℕ). front k (blocks ++ []) rest ≡ last) place e)
reads_pieces (Null ∷ pieces) here blocks rest last h e =
    let place : here + length (pieces_bytes (Null ∷ pieces)) ≡ here + 1 + length (pieces_bytes pieces) = omega arith in
    (pieces_bytes pieces ++ rest, front_null here blocks (pieces_bytes pieces ++ rest), reads_pieces pieces (here + 1) blocks rest last h (subst (λ (k : ℕ). front k (blocks ++ blocks_of pieces) rest ≡ last) place e))
reads_pieces (Data b ∷ pieces) here blocks rest last h e =
    let within : IsPlaced b × IsApartFrom b blocks = block_within blocks b (blocks_of pieces) h in
    let grouped : (blocks ++ b ∷ []) ++ blocks_of pieces ≡ blocks ++ b ∷ blocks_of pieces = append_assoc blocks (b ∷ []) (blocks_of pieces) in
    let place : here + length (data_bytes b ++ pieces_bytes pieces) ≡ here + length (data_bytes b) + length (pieces_bytes pieces) = omega (arith, length-append (data_bytes b) (pieces_bytes pieces)) in
    let parts : (data_bytes b ++ pieces_bytes pieces) ++ rest ≡ data_bytes b ++ (pieces_bytes pieces ++ rest) = append_assoc (data_bytes b) (pieces_bytes pieces) rest in
    let further : front (here + length (data_bytes b) + length (pieces_bytes pieces)) ((blocks ++ b ∷ []) ++ blocks_of pieces) rest ≡ last =
    subst (λ (l : List Block). front (here + length (data_bytes b) + length (pieces_bytes pieces)) l rest ≡ last) (sym grouped)
    (subst (λ (k : ℕ). front k (blocks ++ b ∷ blocks_of pieces) rest ≡ last) place e) in (
      pieces_bytes pieces ++ rest,
      ap (front here blocks) parts ∙ takes_block here blocks b (pieces_bytes pieces ++ rest) within.0 within.1,
      reads_pieces pieces (here + length (data_bytes b)) (blocks ++ b ∷ []) rest last (subst (λ (l : List Block). AreBlocks l) (sym grouped) h) further,
    )

image_reads : (bytes : List ℕ) (image : ImageState) (h : IsImage bytes image) → Reads 0 [] h.pieces bytes (Ends image.start)
image_reads bytes image h =
    subst (λ (l : List ℕ). Reads 0 [] h.pieces l (Ends image.start)) (sym h.parts)
    (reads_pieces h.pieces 0 [] (start_bytes image.start ++ replicate h.nulls 0) (Ends image.start) (subst (λ (l : List Block). AreBlocks l) h.blocks h.placed)
    (ends_image (0 + length (pieces_bytes h.pieces)) (blocks_of h.pieces) image.start h.nulls h.even))

fault_reads : (bytes : List ℕ) (fault : ImageFault) (h : HasFirstFault bytes fault) → Reads 0 [] h.pieces bytes (Fails fault)
fault_reads bytes fault h =
    let place : length (pieces_bytes h.pieces) ≡ 0 + length (pieces_bytes h.pieces) = omega arith in
    subst (λ (l : List ℕ). Reads 0 [] h.pieces l (Fails fault)) (sym h.parts)
    (reads_pieces h.pieces 0 [] h.rest (Fails fault) h.placed
    (subst (λ (k : ℕ). front k (blocks_of h.pieces) h.rest ≡ Fails fault) place (front_fails fault (length (pieces_bytes h.pieces)) (blocks_of h.pieces) h.rest h.stands)))

-- Bytes are at most one image.
pub IsImage-unique : (bytes : List ℕ) (image other : ImageState) → IsImage bytes image → IsImage bytes other → image ≡ other
IsImage-unique bytes image other h g =
    let same : SameReading h.pieces g.pieces (Ends image.start) (Ends other.start) = reads_unique h.pieces g.pieces 0 [] bytes (Ends image.start) (Ends other.start) tt tt (image_reads bytes image h) (image_reads bytes other g) in
    let ends : Ends image.start ≡ Ends other.start = same.same_last in
    let starts : image.start ≡ other.start = cc in
    let all_blocks : image.blocks ≡ other.blocks = h.blocks ∙ (ap (λ (l : List Piece). blocks_of l) same.same_pieces ∙ sym g.blocks) in
    both all_blocks starts
  where
    both : image.blocks ≡ other.blocks → image.start ≡ other.start → image ≡ other
    both p q i = record { blocks = p i; start = q i }

-- Bytes have at most one first fault.
pub HasFirstFault-unique : (bytes : List ℕ) (fault other : ImageFault) → HasFirstFault bytes fault → HasFirstFault bytes other → fault ≡ other
HasFirstFault-unique bytes fault other h g =
    let same : SameReading h.pieces g.pieces (Fails fault) (Fails other) = reads_unique h.pieces g.pieces 0 [] bytes (Fails fault) (Fails other) tt tt (fault_reads bytes fault h) (fault_reads bytes other g) in
    let both : Fails fault ≡ Fails other = same.same_last in
    cc

-- An image has no fault.
pub IsImage-no_fault : (bytes : List ℕ) (image : ImageState) (fault : ImageFault) → IsImage bytes image → HasFirstFault bytes fault → ⊥
IsImage-no_fault bytes image fault h g =
    let same : SameReading h.pieces g.pieces (Ends image.start) (Fails fault) = reads_unique h.pieces g.pieces 0 [] bytes (Ends image.start) (Fails fault) tt tt (image_reads bytes image h) (fault_reads bytes fault g) in
    let both : Ends image.start ≡ Fails fault = same.same_last in
    cc

-- Writing

-- All bytes of a block, with its checksum, sum to 0 modulo 256.
pub block_bytes-sum : (address : ℕ) (bytes : List ℕ) → sum (block_bytes address bytes) % 256 ≡ 0
block_bytes-sum address bytes =
    let whole : sum (block_bytes address bytes) ≡ sum (frame address bytes) + checksum (frame address bytes) = sum_by_push (λ x. x) (frame address bytes) (checksum (frame address bytes)) in
    ap (λ (n : ℕ). n % 256) whole ∙ sums_to_zero (sum (frame address bytes))

-- blocks without nulls between them
abbrev data_pieces : List Block → List Piece
data_pieces [] = []
data_pieces (b ∷ blocks) = Data b ∷ data_pieces blocks

blocks_of-data_pieces : (blocks : List Block) → blocks ≡ blocks_of (data_pieces blocks)
blocks_of-data_pieces [] = refl
blocks_of-data_pieces (b ∷ blocks) = ap (λ (l : List Block). b ∷ l) (blocks_of-data_pieces blocks)

bytes-data_pieces : (blocks : List Block) → flat_map data_bytes blocks ≡ pieces_bytes (data_pieces blocks)
bytes-data_pieces [] = refl
bytes-data_pieces (b ∷ blocks) = ap (λ (l : List ℕ). data_bytes b ++ l) (bytes-data_pieces blocks)

-- What is written without nulls is the image.
pub image_bytes-is : (image : ImageState) → AreBlocks image.blocks → image.start % 2 ≡ 0 → IsImage (image_bytes image) image
image_bytes-is image h e =
    record {
      pieces = data_pieces image.blocks;
      nulls = 0;
      parts = ap (λ (l : List ℕ). l ++ start_bytes image.start) (bytes-data_pieces image.blocks)
          ∙ ap (λ (l : List ℕ). pieces_bytes (data_pieces image.blocks) ++ l) (sym (append-nil (start_bytes image.start)));
      blocks = blocks_of-data_pieces image.blocks;
      placed = h;
      even = e;
    }
