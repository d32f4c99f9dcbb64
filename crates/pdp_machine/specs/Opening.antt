-- The machine at opening.
use Rattle.std.specs.Prelude.{◌≡◌, ℕ, zero, suc, ◌+◌, ◌*◌, ◌/◌, ◌%◌, ◌<◌, List, [], ◌∷◌, ◌++◌, length, None, slice_index, refl}
use Rattle.std.proofs.Common.{sym, ap, ◌∙◌, arith}
use Rattle.mc_image.specs.declared.image.Block.{Block}
use Rattle.mc_image.specs.Image.{ImageState}
use Rattle.mc_script.specs.Script.{ScriptState}
use Rattle.pdp_dev.specs.Devices.{opening_devices}
use Rattle.pdp_def.specs.State.{byte_of}
use Rattle.pdp_def.specs.Bytes.{patched_by}
use Rattle.pdp_def.specs.Laws.{core_of}
use Rattle.pdp_machine.specs.Timed.{Timed}

-- the byte at an address where these blocks were put, and was another before
abbrev pub byte_with : List Block → ℕ → ℕ → ℕ
byte_with [] a old = old
byte_with (b ∷ blocks) a old = byte_with blocks a (patched_by (length b.bytes) b.bytes b.address a old)

-- a word has its low byte at the even address: memory is zero apart from the image
abbrev pub word_with : List Block → ℕ → ℕ
word_with blocks i = byte_with blocks (2 * i) 0 + 256 * byte_with blocks (2 * i + 1) 0

abbrev words_from : List Block → ℕ → ℕ → List ℕ
words_from blocks i zero = []
words_from blocks i (suc n) = word_with blocks i ∷ words_from blocks (i + 1) n

-- so many words of memory
unfoldable pub image_memory : ℕ → List Block → List ℕ
image_memory n blocks = words_from blocks 0 n

-- time and the count of instructions start at 0; R0 to R6 and PS are zero, and PC is the image's start
abbrev pub opening_machine : ImageState → ScriptState → Timed
opening_machine image script =
    record {
      core = core_of 0 0 0 0 0 0 0 image.start 0 (image_memory 28672 image.blocks);
      devices = opening_devices;
      time = 0;
      instructions = 0;
      printer_due = None;
      punch_due = None;
      reader_due = None;
      printer_delay = script.printer;
      punch_delay = script.punch;
      reader_delay = script.reader;
      keys = script.keys;
      tape = script.tape;
      clock = script.clock;
      limit = script.limit;
      stop = None;
    }

-- Laws

length-words_from : (blocks : List Block) (i n : ℕ) → length (words_from blocks i n) ≡ n
length-words_from blocks i zero = refl
length-words_from blocks i (suc n) = ap suc (length-words_from blocks (i + 1) n)

pub length-image_memory : (n : ℕ) (blocks : List Block) → length (image_memory n blocks) ≡ n
unfolding image_memory
length-image_memory n blocks = length-words_from blocks 0 n

words_from-at : (blocks : List Block) (i n k : ℕ) → k < n → slice_index (words_from blocks i n) k ≡ word_with blocks (i + k)
words_from-at blocks i zero k h = absurd (omega arith)
words_from-at blocks i (suc n) zero h = let e : i ≡ i + 0 = omega arith in ap (word_with blocks) e
words_from-at blocks i (suc n) (suc k) h =
    let e : i + 1 + k ≡ i + suc k = omega arith in
    words_from-at blocks (i + 1) n k (omega arith) ∙ ap (word_with blocks) e

pub image_memory-at : (n : ℕ) (blocks : List Block) (k : ℕ) → k < n → slice_index (image_memory n blocks) k ≡ word_with blocks k
unfolding image_memory
image_memory-at n blocks k h = words_from-at blocks 0 n k h ∙ (let e : 0 + k ≡ k = omega arith in ap (word_with blocks) e)

pub byte_with-append : (xs ys : List Block) (a old : ℕ) → byte_with (xs ++ ys) a old ≡ byte_with ys a (byte_with xs a old)
byte_with-append [] ys a old = refl
byte_with-append (x ∷ xs) ys a old = byte_with-append xs ys a (patched_by (length x.bytes) x.bytes x.address a old)

-- a word is its bytes
halves : (m : List ℕ) (i : ℕ) → byte_of m (2 * i) + 256 * byte_of m (2 * i + 1) ≡ slice_index m i
halves m i =
    let w : ℕ = slice_index m i in
    let even : 2 * i % 2 ≡ 0 = omega arith in
    let odd : (2 * i + 1) % 2 ≡ 1 = omega arith in
    let low : 2 * i / 2 ≡ i = omega arith in
    let high : (2 * i + 1) / 2 ≡ i = omega arith in
    rw (even, odd, low, high) (omega arith)

from_bytes : (m : List ℕ) (blocks : List Block) (i n : ℕ) → length m ≡ n → ((k : ℕ) → k < n → slice_index m k ≡ word_with blocks (i + k)) → m ≡ words_from blocks i n
from_bytes [] blocks i zero e each = refl
from_bytes [] blocks i (suc n) e each = absurd (omega arith)
from_bytes (w ∷ m) blocks i zero e each = absurd (omega arith)
from_bytes (w ∷ m) blocks i (suc n) e each =
    let first : w ≡ word_with blocks i = each 0 (omega arith) ∙ (let e0 : i + 0 ≡ i = omega arith in ap (word_with blocks) e0) in
    let next : (k : ℕ) → k < n → slice_index m k ≡ word_with blocks (i + 1 + k) = λ k h. each (suc k) (omega arith) ∙ (let ek : i + suc k ≡ i + 1 + k = omega arith in ap (word_with blocks) ek) in
    let rest = from_bytes m blocks (i + 1) n (omega arith) next in
    ap (λ (x : ℕ). x ∷ m) first ∙ ap (λ (l : List ℕ). word_with blocks i ∷ l) rest

-- words whose bytes are the image's are the image's
pub image_memory-is : (m : List ℕ) (blocks : List Block) (n : ℕ) → length m ≡ n → ((a : ℕ) → a < 2 * n → byte_of m a ≡ byte_with blocks a 0) → m ≡ image_memory n blocks
unfolding image_memory
image_memory-is m blocks n e each =
    from_bytes m blocks 0 n e
    (λ k h.
    let low = each (2 * k) (omega arith) in
    let high = each (2 * k + 1) (omega arith) in
    let here : k ≡ 0 + k = omega arith in
    sym (halves m k) ∙ ap (λ (x : ℕ). x + 256 * byte_of m (2 * k + 1)) low ∙ ap (λ (y : ℕ). byte_with blocks (2 * k) 0 + 256 * y) high ∙ ap (word_with blocks) here)
