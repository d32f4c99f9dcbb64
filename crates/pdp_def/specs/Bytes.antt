-- Bytes as halves of words: what a write of one does to all.
use Rattle.std.specs.Prelude.{◌≡◌, ◌≢◌, ℕ, ◌+◌, ◌-◌, ◌*◌, ◌/◌, ◌%◌, ◌<◌, ◌≤◌, ◌==◌, nat_le, nat_lt, true, false, ◌&&◌, ◌⊎◌, List, length, slice_index, slice_set, refl, if◌then◌else◌}
use Rattle.std.proofs.Common.{sym, ap, ◌∙◌, inl, inr, arith, get_or-set_same, get_or-set_other}
use Rattle.std.proofs.lemmas.Bool.{ne_eqb, lt-ltb, le-leb}
use Rattle.std.proofs.lemmas.Bool.Decides.{eqb_tells, leb_tells, nat_tests}
use Rattle.pdp_def.specs.State.{byte_of, with_byte}

-- either a number equals another, or it does not
same_or_not : (a b : ℕ) → (a ≡ b) ⊎ (a ≢ b)
same_or_not a b = elim (eqb_tells a b) [ inl h ↦ inl h.1 | inr h ↦ inr h.1 ]

lt_or_ge : (a b : ℕ) → (a < b) ⊎ (b ≤ a)
lt_or_ge a b = elim (leb_tells b a) [ inl h ↦ inr h.1 | inr h ↦ inl h.1 ]

ge_or_lt : (a b : ℕ) → (b ≤ a) ⊎ (a < b)
ge_or_lt a b = elim (leb_tells b a) [ inl h ↦ inl h.1 | inr h ↦ inr h.1 ]

abbrev half : ℕ → ℕ → ℕ
half a w = if a % 2 == 0 then w % 256 else w / 256

abbrev with_half : ℕ → ℕ → ℕ → ℕ
with_half a w b = if a % 2 == 0 then w / 256 * 256 + b else b * 256 + w % 256

half-same : (a w b : ℕ) → b < 256 → half a (with_half a w b) ≡ b
half-same a w b h = go (eqb_tells (a % 2) 0)
  where
    go : ((a % 2 == 0) ≡ true) × (a % 2 ≡ 0) ⊎ ((a % 2 == 0) ≡ false) × (a % 2 ≢ 0) → half a (with_half a w b) ≡ b
    go (inl e) = rw e.0 (omega arith)
    go (inr e) = rw e.0 (omega arith)

half-other : (a a' w b : ℕ) → b < 256 → a % 2 ≢ a' % 2 → half a' (with_half a w b) ≡ half a' w
half-other a a' w b h ne = go (same_or_not (a % 2) 0) (same_or_not (a' % 2) 0)
  where
    go : (a % 2 ≡ 0) ⊎ (a % 2 ≢ 0) → (a' % 2 ≡ 0) ⊎ (a' % 2 ≢ 0) → half a' (with_half a w b) ≡ half a' w
    go (inl e) (inl e') = absurd (ne (e ∙ sym e'))
    go (inl e) (inr e') = rw (e, ne_eqb (a' % 2) 0 e') (omega arith)
    go (inr e) (inl e') = rw (ne_eqb (a % 2) 0 e, e') (omega arith)
    go (inr e) (inr e') = absurd (omega arith)

pub with_byte-same : (m : List ℕ) (a b : ℕ) → a / 2 < length m → b < 256 → byte_of (with_byte m a b) a ≡ b
with_byte-same m a b l h =
    let w : ℕ = slice_index m (a / 2) in
    ap (half a) (get_or-set_same m (a / 2) (with_half a w b) 0 l) ∙ half-same a w b h

pub with_byte-other : (m : List ℕ) (a a' b : ℕ) → a / 2 < length m → b < 256 → a' ≢ a → byte_of (with_byte m a b) a' ≡ byte_of m a'
with_byte-other m a a' b l h ne = go (same_or_not (a' / 2) (a / 2))
  where
    go : (a' / 2 ≡ a / 2) ⊎ (a' / 2 ≢ a / 2) → byte_of (with_byte m a b) a' ≡ byte_of m a'
    go (inl e) =
        let w : ℕ = slice_index m (a / 2) in
        let differ : a % 2 ≢ a' % 2 = omega arith in
        ap (λ (k : ℕ). half a' (slice_index (slice_set m (a / 2) (with_half a w b)) k)) e ∙ ap (half a') (get_or-set_same m (a / 2) (with_half a w b) 0 l) ∙ half-other a a' w b h differ ∙ ap (λ (k : ℕ). half a' (slice_index m k)) (sym e)
    go (inr n) =
        let w : ℕ = slice_index m (a / 2) in
        ap (half a') (get_or-set_other m (a / 2) (a' / 2) (with_half a w b) 0 n)

-- the byte at an address after so many of these bytes were put at a place
abbrev pub patched_by : ℕ → List ℕ → ℕ → ℕ → ℕ → ℕ
patched_by n bytes at a old = if nat_le at a && nat_lt a (at + n) then slice_index bytes (a - at) else old

-- the memory is what it was, with so many of these bytes put at a place
abbrev pub IsPatched : ℕ → List ℕ → ℕ → List ℕ → List ℕ → Type 0
IsPatched n bytes at before now =
    (a : ℕ) → a < 57344 → byte_of now a ≡ patched_by n bytes at a (byte_of before a)

pub patched-inside : (n : ℕ) (bytes : List ℕ) (at a old : ℕ) → at ≤ a → a < at + n → patched_by n bytes at a old ≡ slice_index bytes (a - at)
patched-inside n bytes at a old h k = rw (le-leb at a h, lt-ltb a (at + n) k) refl

patched-below : (n : ℕ) (bytes : List ℕ) (at a old : ℕ) → a < at → patched_by n bytes at a old ≡ old
patched-below n bytes at a old h = grind (arith, nat_tests)

patched-behind : (n : ℕ) (bytes : List ℕ) (at a old : ℕ) → at + n ≤ a → patched_by n bytes at a old ≡ old
patched-behind n bytes at a old h = grind (arith, nat_tests)

pub patched-none : (bytes : List ℕ) (at : ℕ) (before : List ℕ) → IsPatched 0 bytes at before before
patched-none bytes at before a h = go (lt_or_ge a at)
  where
    go : (a < at) ⊎ (at ≤ a) → byte_of before a ≡ patched_by 0 bytes at a (byte_of before a)
    go (inl k) = sym (patched-below 0 bytes at a (byte_of before a) k)
    go (inr k) = sym (patched-behind 0 bytes at a (byte_of before a) (omega arith))

-- one more byte is put
pub patched-more : (n : ℕ) (bytes : List ℕ) (at : ℕ) (before now : List ℕ) (b : ℕ) → n < length bytes → at + length bytes ≤ 57344 → length now ≡ 28672 → b ≡ slice_index bytes n → b < 256 → IsPatched n bytes at before now → IsPatched (n + 1) bytes at before (with_byte now (at + n) b)
patched-more n bytes at before now b h room long is byte patched a within = go (same_or_not a (at + n))
  where
    old : ℕ
    old = byte_of before a

    outside : (at ≤ a) ⊎ (a < at) → a ≢ at + n → patched_by n bytes at a old ≡ patched_by (n + 1) bytes at a old
    outside (inr k) ne = patched-below n bytes at a old k ∙ sym (patched-below (n + 1) bytes at a old k)
    outside (inl k) ne = inside (lt_or_ge a (at + n))
      where
        inside : (a < at + n) ⊎ (at + n ≤ a) → patched_by n bytes at a old ≡ patched_by (n + 1) bytes at a old
        inside (inl l) = patched-inside n bytes at a old k l ∙ sym (patched-inside (n + 1) bytes at a old k (omega arith))
        inside (inr l) = patched-behind n bytes at a old l ∙ sym (patched-behind (n + 1) bytes at a old (omega arith))

    go : (a ≡ at + n) ⊎ (a ≢ at + n) → byte_of (with_byte now (at + n) b) a ≡ patched_by (n + 1) bytes at a old
    go (inl e) =
        let place : n ≡ a - at = omega arith in
        ap (byte_of (with_byte now (at + n) b)) e ∙ with_byte-same now (at + n) b (omega arith) byte ∙ is ∙ ap (slice_index bytes) place ∙ sym (patched-inside (n + 1) bytes at a old (omega arith) (omega arith))
    go (inr ne) = with_byte-other now (at + n) a b (omega arith) byte ne ∙ patched a within ∙ outside (ge_or_lt a at) ne
