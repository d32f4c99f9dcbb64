-- Laws of the instruction table: no word is in two rows, and each instruction is read again from its word.
use Rattle.std.proofs.Common.{◌≡◌, ℕ, zero, suc, ◌+◌, ◌*◌, ◌/◌, ◌%◌, ◌<◌, ◌≤◌, Bool, true, false, ◌&&◌, ◌||◌, Option, Some, None, List, [], ◌∷◌, length, get_or, refl, sym, ap, ◌∙◌, subst, arith, lit<}
use Rattle.std.proofs.Math.Nat.{div-add-mod}
use Rattle.std.proofs.lemmas.Bool.{eq-eqb, eqb-true}
use Rattle.std.proofs.lemmas.Bool.Decides.{nat_tests}
use Rattle.std.proofs.lemmas.List.Sums.{AllPass-from_list_all}
use denote.Struct.Props.{props}
use Rattle.std.specs.Prelude.{nat_le, ◌==◌, IfSome, IfNone}
use Rattle.std.specs.List.{All, list_all}
use Rattle.pdp_isa.specs.declared.instr.Field.{Field}
use Rattle.pdp_isa.specs.declared.instr.Instr.{Instr}
use Rattle.pdp_isa.specs.declared.instr.Instr.TheVariants.{Mov, MovByte, Cmp, CmpByte, Bit, BitByte, Bic, BicByte, Bis, BisByte, Add, Sub, Clr, ClrByte, Com, ComByte, Inc, IncByte, Dec, DecByte, Neg, NegByte, Adc, AdcByte, Sbc, SbcByte, Tst, TstByte, Ror, RorByte, Rol, RolByte, Asr, AsrByte, Asl, AslByte, Sxt, Swab, Xor, Mul, Div, Ash, Ashc, Sob, Jmp, Jsr, Rts, Rti, Rtt, Halt, Wait, Reset, Bpt, Iot, Emt, Trap, ClearCodes, SetCodes, Br, Bne, Beq, Bge, Blt, Bgt, Ble, Bpl, Bmi, Bhi, Blos, Bvc, Bvs, Bcc, Bcs}
use Rattle.pdp_isa.specs.Table.{low_three, low_four, low_six, low_eight, high_three, high_six, Row, table, is_in, find, instruction_of, rows, IsAnswer, spelled}

-- fields of one value are one field
pub same_field : (N : ℕ) (s t : Field N) → s.value ≡ t.value → s ≡ t
same_field N s t e =
    let p : IsProp (s.value < N) = hlevel props in
    let F : ℕ → Type 0 = λ w. (k : w < N) → s ≡ record { value = w; in_range = k } in
    subst F e (λ k. ap (λ (h : s.value < N). let f : Field N = record { value = s.value; in_range = h } in f) (p s.in_range k)) t.in_range

-- the words of a row are those from its pattern on
abbrev is_aligned : Row → Bool
is_aligned row = row.words * (row.pattern / row.words) == row.pattern && nat_le 1 row.words

-- the words of one row lie before those of the other
abbrev are_apart : Row → Row → Bool
are_apart r s = nat_le (r.pattern + r.words) s.pattern || nat_le (s.pattern + s.words) r.pattern

abbrev all_apart : List Row → Bool
all_apart [] = true
all_apart (row ∷ rest) = list_all (are_apart row) rest && all_apart rest

both : (a b : Bool) → (a && b) ≡ true → (a ≡ true) × (b ≡ true)
both true b h = (refl, h)
both false b h = cc

not_true : (b : Bool) → (b ≡ true → ⊥) → b ≡ false
not_true true h = absurd (h refl)
not_true false h = refl

within : (n p w : ℕ) → 1 ≤ n → n * (p / n) ≡ p → w / n ≡ p / n → (p ≤ w) × (w < p + n)
within n p w a b e =
    let f : n * (w / n) + w % n ≡ w = div-add-mod w n in
    let g : n * (w / n) ≡ p = ap (λ k. n * k) e ∙ b in
    let h : w % n < n = omega arith in
    (omega (arith, f, g, h), omega (arith, f, g, h))

row_within : (r : Row) (w : ℕ) → is_aligned r ≡ true → is_in r w ≡ true → (r.pattern ≤ w) × (w < r.pattern + r.words)
row_within r w a i =
    let parts = both (r.words * (r.pattern / r.words) == r.pattern) (nat_le 1 r.words) a in
    let some : 1 ≤ r.words = let l = parts.1 in grind (arith, nat_tests) in
    within r.words r.pattern w some (eqb-true (r.words * (r.pattern / r.words)) r.pattern parts.0) (eqb-true (w / r.words) (r.pattern / r.words) i)

in_one : (r s : Row) (w : ℕ) → is_aligned r ≡ true → is_aligned s ≡ true → are_apart r s ≡ true → is_in r w ≡ true → is_in s w ≡ true → ⊥
in_one r s w a b apart i j =
    let f = row_within r w a i in
    let g = row_within s w b j in
    clash r.pattern r.words s.pattern s.words w apart f.0 f.1 g.0 g.1
  where
    clash : (p m q n w : ℕ) → (nat_le (p + m) q || nat_le (q + n) p) ≡ true → p ≤ w → w < p + m → q ≤ w → w < q + n → ⊥
    clash p m q n w t a b c d = grind (arith, nat_tests)

-- a row that has the word is the one that is found
find_at :
    (rows : List Row) → list_all is_aligned rows ≡ true → all_apart rows ≡ true
    → (k : ℕ) (d : Row) (w : ℕ) → k < length rows → is_in (get_or rows k d) w ≡ true → find rows w ≡ Some ((get_or rows k d).reads w)
find_at [] a b k d w low i = absurd (omega arith)
find_at (r ∷ rest) a b zero d w low i = rw i refl
find_at (r ∷ rest) a b (suc k) d w low i =
    let aligned = both (is_aligned r) (list_all is_aligned rest) a in
    let apart = both (list_all (are_apart r) rest) (all_apart rest) b in
    let low' : k < length rest = omega arith in
    let s = get_or rest k d in
    let other : is_in r w ≡ false =
    not_true (is_in r w) (λ j. in_one r s w aligned.0 (AllPass-from_list_all is_aligned rest aligned.1 k d low') (AllPass-from_list_all (are_apart r) rest apart.0 k d low') j i) in
    rw other (find_at rest aligned.1 apart.1 k d w low' i)

-- the row of this number
abbrev row_at : ℕ → Row
row_at k = get_or table k (record { pattern = 0; words = 1; reads = λ w. Halt })

found_at : (k : ℕ) (w : ℕ) → k < 73 → is_in (row_at k) w ≡ true → instruction_of w ≡ Some ((row_at k).reads w)
unfolding instruction_of
found_at k w low i = find_at table refl refl k (record { pattern = 0; words = 1; reads = λ w. Halt }) w low i

-- a row of the table, with this number
record IsRow (k pattern words : ℕ) (reads : ℕ → Instr) : Type 0 where
  stands : k < 73
  is : row_at k ≡ record { pattern = pattern; words = words; reads = reads }

six_six :
    (k front : ℕ) (make : Field 64 → Field 64 → Instr) → IsRow k (0o10000 * front) 0o10000 (λ w. make (high_six w) (low_six w))
    → (a : Field 64) (b : Field 64) → instruction_of (0o10000 * front + 0o100 * a.value + b.value) ≡ Some (make a b)
six_six k front make row a b =
    let w = 0o10000 * front + 0o100 * a.value + b.value in
    let fa : high_six w ≡ a = same_field 64 (high_six w) a (omega arith) in
    let fb : low_six w ≡ b = same_field 64 (low_six w) b (omega arith) in
    let same : w / 0o10000 ≡ 0o10000 * front / 0o10000 = omega arith in
    let i : is_in (row_at k) w ≡ true = rw row.is (eq-eqb (w / 0o10000) (0o10000 * front / 0o10000) same) in
    let e : (row_at k).reads w ≡ make (high_six w) (low_six w) = ap (λ (r : Row). r.reads w) row.is in
    found_at k w row.stands i ∙ ap Some e ∙ ap (λ f. Some (make f (low_six w))) fa ∙ ap (λ f. Some (make a f)) fb

three_six :
    (k front : ℕ) (make : Field 8 → Field 64 → Instr) → IsRow k (0o1000 * front) 0o1000 (λ w. make (high_three w) (low_six w))
    → (a : Field 8) (b : Field 64) → instruction_of (0o1000 * front + 0o100 * a.value + b.value) ≡ Some (make a b)
three_six k front make row a b =
    let w = 0o1000 * front + 0o100 * a.value + b.value in
    let fa : high_three w ≡ a = same_field 8 (high_three w) a (omega arith) in
    let fb : low_six w ≡ b = same_field 64 (low_six w) b (omega arith) in
    let same : w / 0o1000 ≡ 0o1000 * front / 0o1000 = omega arith in
    let i : is_in (row_at k) w ≡ true = rw row.is (eq-eqb (w / 0o1000) (0o1000 * front / 0o1000) same) in
    let e : (row_at k).reads w ≡ make (high_three w) (low_six w) = ap (λ (r : Row). r.reads w) row.is in
    found_at k w row.stands i ∙ ap Some e ∙ ap (λ f. Some (make f (low_six w))) fa ∙ ap (λ f. Some (make a f)) fb

six :
    (k front : ℕ) (make : Field 64 → Instr) → IsRow k (0o100 * front) 0o100 (λ w. make (low_six w))
    → (a : Field 64) → instruction_of (0o100 * front + a.value) ≡ Some (make a)
six k front make row a =
    let w = 0o100 * front + a.value in
    let fa : low_six w ≡ a = same_field 64 (low_six w) a (omega arith) in
    let same : w / 0o100 ≡ 0o100 * front / 0o100 = omega arith in
    let i : is_in (row_at k) w ≡ true = rw row.is (eq-eqb (w / 0o100) (0o100 * front / 0o100) same) in
    let e : (row_at k).reads w ≡ make (low_six w) = ap (λ (r : Row). r.reads w) row.is in
    found_at k w row.stands i ∙ ap Some e ∙ ap (λ f. Some (make f)) fa

three :
    (k front : ℕ) (make : Field 8 → Instr) → IsRow k (0o10 * front) 0o10 (λ w. make (low_three w))
    → (a : Field 8) → instruction_of (0o10 * front + a.value) ≡ Some (make a)
three k front make row a =
    let w = 0o10 * front + a.value in
    let fa : low_three w ≡ a = same_field 8 (low_three w) a (omega arith) in
    let same : w / 0o10 ≡ 0o10 * front / 0o10 = omega arith in
    let i : is_in (row_at k) w ≡ true = rw row.is (eq-eqb (w / 0o10) (0o10 * front / 0o10) same) in
    let e : (row_at k).reads w ≡ make (low_three w) = ap (λ (r : Row). r.reads w) row.is in
    found_at k w row.stands i ∙ ap Some e ∙ ap (λ f. Some (make f)) fa

four :
    (k front : ℕ) (make : Field 16 → Instr) → IsRow k (0o20 * front) 0o20 (λ w. make (low_four w))
    → (a : Field 16) → instruction_of (0o20 * front + a.value) ≡ Some (make a)
four k front make row a =
    let w = 0o20 * front + a.value in
    let fa : low_four w ≡ a = same_field 16 (low_four w) a (omega arith) in
    let same : w / 0o20 ≡ 0o20 * front / 0o20 = omega arith in
    let i : is_in (row_at k) w ≡ true = rw row.is (eq-eqb (w / 0o20) (0o20 * front / 0o20) same) in
    let e : (row_at k).reads w ≡ make (low_four w) = ap (λ (r : Row). r.reads w) row.is in
    found_at k w row.stands i ∙ ap Some e ∙ ap (λ f. Some (make f)) fa

eight :
    (k front : ℕ) (make : Field 256 → Instr) → IsRow k (0o400 * front) 0o400 (λ w. make (low_eight w))
    → (a : Field 256) → instruction_of (0o400 * front + a.value) ≡ Some (make a)
eight k front make row a =
    let w = 0o400 * front + a.value in
    let fa : low_eight w ≡ a = same_field 256 (low_eight w) a (omega arith) in
    let same : w / 0o400 ≡ 0o400 * front / 0o400 = omega arith in
    let i : is_in (row_at k) w ≡ true = rw row.is (eq-eqb (w / 0o400) (0o400 * front / 0o400) same) in
    let e : (row_at k).reads w ≡ make (low_eight w) = ap (λ (r : Row). r.reads w) row.is in
    found_at k w row.stands i ∙ ap Some e ∙ ap (λ f. Some (make f)) fa

-- an instruction's word is read as that instruction
pub found_again : (i : Instr) → instruction_of (spelled i) ≡ Some i
unfolding instruction_of
found_again (Mov a b) = six_six 0 0o1 Mov (record { stands = lit< tt; is = refl }) a b
found_again (MovByte a b) = six_six 1 0o11 MovByte (record { stands = lit< tt; is = refl }) a b
found_again (Cmp a b) = six_six 2 0o2 Cmp (record { stands = lit< tt; is = refl }) a b
found_again (CmpByte a b) = six_six 3 0o12 CmpByte (record { stands = lit< tt; is = refl }) a b
found_again (Bit a b) = six_six 4 0o3 Bit (record { stands = lit< tt; is = refl }) a b
found_again (BitByte a b) = six_six 5 0o13 BitByte (record { stands = lit< tt; is = refl }) a b
found_again (Bic a b) = six_six 6 0o4 Bic (record { stands = lit< tt; is = refl }) a b
found_again (BicByte a b) = six_six 7 0o14 BicByte (record { stands = lit< tt; is = refl }) a b
found_again (Bis a b) = six_six 8 0o5 Bis (record { stands = lit< tt; is = refl }) a b
found_again (BisByte a b) = six_six 9 0o15 BisByte (record { stands = lit< tt; is = refl }) a b
found_again (Add a b) = six_six 10 0o6 Add (record { stands = lit< tt; is = refl }) a b
found_again (Sub a b) = six_six 11 0o16 Sub (record { stands = lit< tt; is = refl }) a b
found_again (Clr a) = six 12 0o50 Clr (record { stands = lit< tt; is = refl }) a
found_again (ClrByte a) = six 13 0o1050 ClrByte (record { stands = lit< tt; is = refl }) a
found_again (Com a) = six 14 0o51 Com (record { stands = lit< tt; is = refl }) a
found_again (ComByte a) = six 15 0o1051 ComByte (record { stands = lit< tt; is = refl }) a
found_again (Inc a) = six 16 0o52 Inc (record { stands = lit< tt; is = refl }) a
found_again (IncByte a) = six 17 0o1052 IncByte (record { stands = lit< tt; is = refl }) a
found_again (Dec a) = six 18 0o53 Dec (record { stands = lit< tt; is = refl }) a
found_again (DecByte a) = six 19 0o1053 DecByte (record { stands = lit< tt; is = refl }) a
found_again (Neg a) = six 20 0o54 Neg (record { stands = lit< tt; is = refl }) a
found_again (NegByte a) = six 21 0o1054 NegByte (record { stands = lit< tt; is = refl }) a
found_again (Adc a) = six 22 0o55 Adc (record { stands = lit< tt; is = refl }) a
found_again (AdcByte a) = six 23 0o1055 AdcByte (record { stands = lit< tt; is = refl }) a
found_again (Sbc a) = six 24 0o56 Sbc (record { stands = lit< tt; is = refl }) a
found_again (SbcByte a) = six 25 0o1056 SbcByte (record { stands = lit< tt; is = refl }) a
found_again (Tst a) = six 26 0o57 Tst (record { stands = lit< tt; is = refl }) a
found_again (TstByte a) = six 27 0o1057 TstByte (record { stands = lit< tt; is = refl }) a
found_again (Ror a) = six 28 0o60 Ror (record { stands = lit< tt; is = refl }) a
found_again (RorByte a) = six 29 0o1060 RorByte (record { stands = lit< tt; is = refl }) a
found_again (Rol a) = six 30 0o61 Rol (record { stands = lit< tt; is = refl }) a
found_again (RolByte a) = six 31 0o1061 RolByte (record { stands = lit< tt; is = refl }) a
found_again (Asr a) = six 32 0o62 Asr (record { stands = lit< tt; is = refl }) a
found_again (AsrByte a) = six 33 0o1062 AsrByte (record { stands = lit< tt; is = refl }) a
found_again (Asl a) = six 34 0o63 Asl (record { stands = lit< tt; is = refl }) a
found_again (AslByte a) = six 35 0o1063 AslByte (record { stands = lit< tt; is = refl }) a
found_again (Sxt a) = six 36 0o67 Sxt (record { stands = lit< tt; is = refl }) a
found_again (Swab a) = six 37 0o3 Swab (record { stands = lit< tt; is = refl }) a
found_again (Xor a b) = three_six 38 0o74 Xor (record { stands = lit< tt; is = refl }) a b
found_again (Mul a b) = three_six 39 0o70 Mul (record { stands = lit< tt; is = refl }) a b
found_again (Div a b) = three_six 40 0o71 Div (record { stands = lit< tt; is = refl }) a b
found_again (Ash a b) = three_six 41 0o72 Ash (record { stands = lit< tt; is = refl }) a b
found_again (Ashc a b) = three_six 42 0o73 Ashc (record { stands = lit< tt; is = refl }) a b
found_again (Sob a b) = three_six 43 0o77 Sob (record { stands = lit< tt; is = refl }) a b
found_again (Jmp a) = six 44 0o1 Jmp (record { stands = lit< tt; is = refl }) a
found_again (Jsr a b) = three_six 45 0o4 Jsr (record { stands = lit< tt; is = refl }) a b
found_again (Rts a) = three 46 0o20 Rts (record { stands = lit< tt; is = refl }) a
found_again Rti = refl
found_again Rtt = refl
found_again Halt = refl
found_again Wait = refl
found_again Reset = refl
found_again Bpt = refl
found_again Iot = refl
found_again (Emt a) = eight 54 0o210 Emt (record { stands = lit< tt; is = refl }) a
found_again (Trap a) = eight 55 0o211 Trap (record { stands = lit< tt; is = refl }) a
found_again (ClearCodes a) = four 56 0o12 ClearCodes (record { stands = lit< tt; is = refl }) a
found_again (SetCodes a) = four 57 0o13 SetCodes (record { stands = lit< tt; is = refl }) a
found_again (Br a) = eight 58 0o1 Br (record { stands = lit< tt; is = refl }) a
found_again (Bne a) = eight 59 0o2 Bne (record { stands = lit< tt; is = refl }) a
found_again (Beq a) = eight 60 0o3 Beq (record { stands = lit< tt; is = refl }) a
found_again (Bge a) = eight 61 0o4 Bge (record { stands = lit< tt; is = refl }) a
found_again (Blt a) = eight 62 0o5 Blt (record { stands = lit< tt; is = refl }) a
found_again (Bgt a) = eight 63 0o6 Bgt (record { stands = lit< tt; is = refl }) a
found_again (Ble a) = eight 64 0o7 Ble (record { stands = lit< tt; is = refl }) a
found_again (Bpl a) = eight 65 0o200 Bpl (record { stands = lit< tt; is = refl }) a
found_again (Bmi a) = eight 66 0o201 Bmi (record { stands = lit< tt; is = refl }) a
found_again (Bhi a) = eight 67 0o202 Bhi (record { stands = lit< tt; is = refl }) a
found_again (Blos a) = eight 68 0o203 Blos (record { stands = lit< tt; is = refl }) a
found_again (Bvc a) = eight 69 0o204 Bvc (record { stands = lit< tt; is = refl }) a
found_again (Bvs a) = eight 70 0o205 Bvs (record { stands = lit< tt; is = refl }) a
found_again (Bcc a) = eight 71 0o206 Bcc (record { stands = lit< tt; is = refl }) a
found_again (Bcs a) = eight 72 0o207 Bcs (record { stands = lit< tt; is = refl }) a

-- a word that is an instruction's is read as that instruction
pub is_found : (i : Instr) (w : ℕ) → spelled i ≡ w → instruction_of w ≡ Some i
is_found i w e = subst (λ (v : ℕ). instruction_of v ≡ Some i) e (found_again i)

none_found : (rows : List Row) (w : ℕ) → All (λ row. is_in row w ≡ false) rows → find rows w ≡ None
none_found [] w h = refl
none_found (row ∷ rest) w h =
    let here = h 0 row (omega arith) in
    rw here (none_found rest w (λ k d low. h (suc k) d (omega arith)))

pub is_answer : (w : ℕ) → IsAnswer w (instruction_of w)
unfolding instruction_of rows
is_answer w = record {
  each = λ row has i.
      let e : get_or table has.0 row ≡ row = has.2 in
      find_at table refl refl has.0 row w has.1 (rw e i) ∙ ap (λ (r : Row). Some (r.reads w)) e;
  none = none_found table w;
}

-- what gives back the word, or is None only where the table is, is the table's answer
pub is_instruction_of : (w : ℕ) (answer : Option Instr) → IfSome answer (λ i. spelled i ≡ w) → IfNone answer (instruction_of w ≡ None) → answer ≡ instruction_of w
is_instruction_of w (Some i) a b = sym (is_found i w a)
is_instruction_of w None a b = sym b
