-- Pieces that are printed one behind the other.
use Rattle.std.proofs.Common.{◌≡◌, ◌≤◌, ◌%◌, ◌/◌, ◌*◌, ℕ, ◌+◌, List, [], ◌∷◌, ◌++◌, length, Option, Some, None, Result, Ok, Err, IfErr, IsErrAnd, take, drop, get_or, zero, suc, ◌<◌, Bool, refl, sym, ap, ◌∙◌, subst, arith, append_assoc, length-append}
use Rattle.std.proofs.lemmas.List.{append-nil, take-append-drop, length-take-le}
use Rattle.mc_shelf.specs.Outside.{Rose, appended, IsPart, HasRoom, View}
use Rattle.mc_shelf.specs.Laws.{appended-append, IsPart-front, IsPart-behind}
use Rattle.mc_shelf.specs.declared.shelf.PutFault.{PutFault}
use Rattle.std.proofs.lemmas.Grind.{take_at_read}
use Rattle.pdp_dev.specs.declared.entry.Entry.{Entry}
use Rattle.mc_report.specs.Report.{line}
use Rattle.mc_driver.specs.Outside.{IsInPieces, IsPieces, Streams, Prints, Breaks, lines_of}

pub appended-none : (printed : Option (List ℕ)) → printed ≡ appended printed []
appended-none None = refl
appended-none (Some before) = ap (λ (l : List ℕ). let o : Option (List ℕ) = Some l in o) (sym (append-nil before))

room_as : (spare : Option ℕ) (a b : ℕ) → a ≡ b → HasRoom spare a → HasRoom spare b
room_as spare a b e h = subst (HasRoom spare) e h

-- Whole pieces

pub whole_both : (a b : List ℕ) → length a % 4096 ≡ 0 → length b % 4096 ≡ 0 → length (a ++ b) % 4096 ≡ 0
whole_both a b p q = omega (arith, p, q, length-append a b)

-- pieces of a first text are pieces of the whole
pub pieces_front : {printed now : Option (List ℕ)} (a b : List ℕ) → IsInPieces printed a now → IsInPieces printed (a ++ b) now
pieces_front a b p = record {
  front = p.front;
  rest = p.rest ++ b;
  parts = ap (λ (x : List ℕ). x ++ b) p.parts ∙ append_assoc p.front p.rest b;
  appends = p.appends;
  whole = p.whole;
}

-- pieces that are a whole text, and then those of a second one
pub pieces_behind : {printed between now : Option (List ℕ)} (a b : List ℕ) → between ≡ appended printed a → length a % 4096 ≡ 0 → IsInPieces between b now → IsInPieces printed (a ++ b) now
pieces_behind {printed} a b all whole p = record {
  front = a ++ p.front;
  rest = p.rest;
  parts = ap (λ (x : List ℕ). a ++ x) p.parts ∙ sym (append_assoc a p.front p.rest);
  appends = p.appends ∙ ap (λ (x : Option (List ℕ)). appended x p.front) all ∙ appended-append printed a p.front;
  whole = whole_both a p.front whole p.whole;
}

-- nothing was printed
pub pieces_none : (printed now : Option (List ℕ)) (bytes : List ℕ) → now ≡ printed → IsInPieces printed bytes now
pieces_none printed now bytes e = record { front = []; rest = bytes; parts = refl; appends = e ∙ appended-none printed; whole = refl }

-- each first part is whole pieces and a first part of the next one
pub in_pieces : (printed : Option (List ℕ)) (bytes : List ℕ) (now : Option (List ℕ)) → IsPart printed bytes now → IsPieces printed bytes now
in_pieces printed bytes now p =
    let n : ℕ = length p.front / 4096 * 4096 in
    let both : take n p.front ++ drop n p.front ≡ p.front = take-append-drop n p.front in
    let taken : length (take n p.front) ≡ n = length-take-le n p.front (omega arith) in
    record {
      front = take n p.front;
      piece = drop n p.front;
      rest = p.rest;
      parts = p.parts ∙ ap (λ (l : List ℕ). l ++ p.rest) (sym both) ∙ append_assoc (take n p.front) (drop n p.front) p.rest;
      appends = p.appends ∙ ap (λ (l : List ℕ). appended printed l) (sym both);
      whole = omega (arith, taken);
      within = omega (arith, taken, ap length both, length-append (take n p.front) (drop n p.front));
    }

-- nothing is behind the held bytes
pub streams_none : (v : View) (held : List ℕ) → Streams v held [] v held
streams_none v held =
    record {
      front = [];
      parts = append-nil held;
      printed = appended-none v.printed;
      whole = refl;
      room = λ n h. room_as v.spare _ _ (omega (arith, length-append held [])) h;
      files = refl;
      asked = refl;
      faults = refl;
      longs = refl;
    }

-- some bytes, and then others
pub streams_then : (v u w : View) (held x mid y now : List ℕ) → Streams v held x u mid → Streams u mid y w now → Streams v held (x ++ y) w now
streams_then v u w held x mid y now s t =
    let all : held ++ (x ++ y) ≡ (s.front ++ t.front) ++ now =
    sym (append_assoc held x y) ∙ ap (λ (l : List ℕ). l ++ y) s.parts ∙ append_assoc s.front mid y ∙ ap (λ (l : List ℕ). s.front ++ l) t.parts ∙ sym (append_assoc s.front t.front now) in
    record {
      front = s.front ++ t.front;
      parts = all;
      printed = t.printed ∙ ap (λ (o : Option (List ℕ)). appended o t.front) s.printed ∙ appended-append v.printed s.front t.front;
      whole = whole_both s.front t.front s.whole t.whole;
      room = λ n h. t.room n (room_as u.spare _ _ (omega (arith, length-append mid y)) (s.room (length y + n) (room_as v.spare _ _ (omega (arith, length-append held x, length-append held (x ++ y), length-append x y)) h)));
      files = t.files ∙ s.files;
      asked = t.asked ∙ s.asked;
      faults = t.faults ∙ s.faults;
      longs = t.longs ∙ s.longs;
    }

-- a break behind bytes that were streamed
pub breaks_then : (v u w : View) (held x mid y : List ℕ) (fault : PutFault) → Streams v held x u mid → Breaks u mid y fault w → Breaks v held (x ++ y) fault w
breaks_then v u w held x mid y fault s b =
    let all : s.front ++ (mid ++ y) ≡ held ++ (x ++ y) =
    sym (append_assoc s.front mid y) ∙ ap (λ (l : List ℕ). l ++ y) (sym s.parts) ∙ append_assoc held x y in
    record {
      part = subst (λ (l : List ℕ). IsPart v.printed l w.printed) all (IsPart-behind s.front (mid ++ y) s.printed b.part);
      pieces = λ e. subst (λ (l : List ℕ). IsInPieces v.printed l w.printed) all (pieces_behind s.front (mid ++ y) s.printed s.whole (b.pieces e));
      failed = λ e. subst (λ (k : ℕ). Rose k w.faults) s.faults (b.failed e);
      memory = λ e h. b.memory e (room_as u.spare _ _ (omega (arith, length-append mid y)) (s.room (length y) (room_as v.spare _ _ (omega (arith, length-append held x, length-append held (x ++ y), length-append x y)) h)));
      later = subst (λ (k : ℕ). k ≤ w.faults) s.faults b.later;
      same = λ ne. b.same ne ∙ s.faults;
      files = b.files ∙ s.files;
      asked = b.asked ∙ s.asked;
      longs = b.longs ∙ s.longs;
    }

-- a break before bytes that are not reached any more
pub breaks_before : (v w : View) (held x y : List ℕ) (fault : PutFault) → Breaks v held x fault w → Breaks v held (x ++ y) fault w
breaks_before v w held x y fault b =
    let all : (held ++ x) ++ y ≡ held ++ (x ++ y) = append_assoc held x y in
    record {
      part = subst (λ (l : List ℕ). IsPart v.printed l w.printed) all (IsPart-front (held ++ x) y b.part);
      pieces = λ e. subst (λ (l : List ℕ). IsInPieces v.printed l w.printed) all (pieces_front (held ++ x) y (b.pieces e));
      failed = b.failed;
      memory = λ e h. b.memory e (less v.spare _ _ (omega (arith, length-append held x, length-append held (x ++ y), length-append x y)) h);
      later = b.later;
      same = b.same;
      files = b.files;
      asked = b.asked;
      longs = b.longs;
    }
  where
    less : (spare : Option ℕ) (a b : ℕ) → a ≤ b → HasRoom spare b → HasRoom spare a
    less None a b e h = h
    less (Some room) a b e h = omega arith

-- some bytes, and then a print of all that is held
pub streams_print : (v u w : View) (held x mid : List ℕ) → Streams v held x u mid → Prints u mid w → Prints v (held ++ x) w
streams_print v u w held x mid s p =
    record {
      printed = p.printed ∙ ap (λ (o : Option (List ℕ)). appended o mid) s.printed ∙ appended-append v.printed s.front mid ∙ ap (λ (l : List ℕ). appended v.printed l) (sym s.parts);
      files = p.files ∙ s.files;
      asked = p.asked ∙ s.asked;
      faults = p.faults ∙ s.faults;
      longs = p.longs ∙ s.longs;
    }

-- a fault that is handed on
pub handed_on : {T E : Type 0} (r : Result T E) (e : E) (P : E → Type 0) → IsErrAnd r (λ y. y ≡ e) → P e → IfErr r P
handed_on (Ok x) e P is p = absurd is
handed_on (Err y) e P is p = subst P (sym is) p

-- a list is what stands before an element, the element, and what stands behind it
pub behind_one : {A : Type 0} (xs : List A) (i : ℕ) (d : A) → i < length xs → xs ≡ (take i xs ++ get_or xs i d ∷ []) ++ drop (suc i) xs
behind_one [] i d h = absurd (omega arith)
behind_one (x ∷ xs) zero d h = refl
behind_one (x ∷ xs) (suc i) d h = ap (λ (l : List _). x ∷ l) (behind_one xs i d (omega arith))

-- the lines up to an entry, and those of all

pub lines-append : (journal : Bool) (xs ys : List Entry) → lines_of journal (xs ++ ys) ≡ lines_of journal xs ++ lines_of journal ys
lines-append journal [] ys = refl
lines-append journal (x ∷ xs) ys = ap (λ (l : List ℕ). line x journal ++ l) (lines-append journal xs ys) ∙ sym (append_assoc (line x journal) (lines_of journal xs) (lines_of journal ys))

pub lines_more : (journal : Bool) (xs : List Entry) (i : ℕ) (d : Entry) → i < length xs → lines_of journal (take (i + 1) xs) ≡ lines_of journal (take i xs) ++ line (get_or xs i d) journal
lines_more journal xs i d h =
    ap (lines_of journal) (take_at_read xs i d h).1 ∙ lines-append journal (take i xs) (get_or xs i d ∷ []) ∙ ap (λ (l : List ℕ). lines_of journal (take i xs) ++ l) (append-nil (line (get_or xs i d) journal))

pub lines_whole : (journal : Bool) (xs : List Entry) (i : ℕ) (d : Entry) → i < length xs → lines_of journal xs ≡ (lines_of journal (take i xs) ++ line (get_or xs i d) journal) ++ lines_of journal (drop (suc i) xs)
lines_whole journal xs i d h =
    let front : lines_of journal (take i xs ++ get_or xs i d ∷ []) ≡ lines_of journal (take i xs) ++ line (get_or xs i d) journal =
    lines-append journal (take i xs) (get_or xs i d ∷ []) ∙ ap (λ (l : List ℕ). lines_of journal (take i xs) ++ l) (append-nil (line (get_or xs i d) journal)) in
    ap (lines_of journal) (behind_one xs i d h) ∙ lines-append journal (take i xs ++ get_or xs i d ∷ []) (drop (suc i) xs) ∙ ap (λ (l : List ℕ). l ++ lines_of journal (drop (suc i) xs)) front
