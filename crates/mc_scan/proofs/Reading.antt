-- A source is read one piece further.
use Rattle.std.proofs.Common.{◌≡◌, ◌≤◌, ◌<◌, ℕ, ◌+◌, Bool, true, false, nat_eq, List, [], ◌∷◌, ◌++◌, length, take, drop, ◌⊎◌, refl, sym, ◌∙◌, ap, subst, arith, append_assoc}
use Rattle.std.proofs.lemmas.List.{append-nil, take-append-drop}
use Rattle.std.specs.List.{concat}
use Rattle.std.proofs.Common.{if◌then◌else◌, None, Result, Ok, Err}
use Rattle.std.specs.Option.{IfSome}
use Rattle.std.specs.Result.{MatchResult, IfOk, IfErr}
use Rattle.mc_tree.specs.declared.place.Place.{Place}
use Rattle.mc_tree.specs.declared.token.Token.{Token}
use Rattle.mc_tree.specs.declared.token.Kind.{Kind}
use Rattle.mc_tree.specs.declared.fault.Code.{Code}
use Rattle.mc_tree.specs.declared.fault.Code.TheVariants.{BadByte, NumberTooLarge, OpenComment, OpenText}
use Rattle.mc_tree.specs.Spellings.{IsBlank, IsComment, AreGaps, IsGap, IsSpelling, IsLongest, IsInRange}
use Rattle.mc_tree.specs.Sources.{first_place, place_after, place_after_byte, StandsFirst, Reads, Spells, HasFirstFault}
use Rattle.mc_tree.specs.SourceLaws.{place_after-append}
use Rattle.mc_tree.specs.Laws.{Spells-unique, HasFirstFault-unique, Spells-no_fault}
use Rattle.mc_scan.specs.declared.fault.ScanFault.{ScanFault}
use Rattle.mc_scan.specs.declared.fault.ScanFault.TheVariants.{BadByte as BadByteAt, NumberTooLarge as NumberTooLargeAt, OpenComment as OpenCommentAt, OpenText as OpenTextAt, Memory}
use Rattle.mc_scan.specs.declared.Scanned.{Scanned}
use Rattle.mc_scan.specs.Refusals.{fault_of}
use Rattle.mc_scan.specs.Pieces.{Advances, over_gap, over_token, IsRefusal}

-- Places

record IsNear (here there : Place) (n : ℕ) : Type 0 where
  line : there.line ≤ here.line + n
  column : there.column ≤ here.column + n

one_further : (here : Place) (b : ℕ) → IsNear here (place_after_byte here b) 1
one_further here b = go (nat_eq b 10)
  where
    go : (lf : Bool) → IsNear here (if lf then record { line = here.line + 1; column = 1 } else record { line = here.line; column = here.column + 1 }) 1
    go true = record { line = omega arith; column = omega arith }
    go false = record { line = omega arith; column = omega arith }

near : (here : Place) (bytes : List ℕ) → IsNear here (place_after here bytes) (length bytes)
near here [] = record { line = omega arith; column = omega arith }
near here (b ∷ bytes) =
    let one : IsNear here (place_after_byte here b) 1 = one_further here b in
    let more : IsNear (place_after_byte here b) (place_after here (b ∷ bytes)) (length bytes) = near (place_after_byte here b) bytes in
    record { line = omega (arith, one.line, more.line); column = omega (arith, one.column, more.column) }

pub line_after : (here : Place) (bytes : List ℕ) → (place_after here bytes).line ≤ here.line + length bytes
line_after here bytes = (near here bytes).line

pub column_after : (here : Place) (bytes : List ℕ) → (place_after here bytes).column ≤ here.column + length bytes
column_after here bytes = (near here bytes).column

-- Pieces

AreGaps-append : (pieces : List (List ℕ)) (piece : List ℕ) → AreGaps pieces → IsBlank piece ⊎ IsComment piece → AreGaps (pieces ++ piece ∷ [])
AreGaps-append [] piece h g = (g, tt)
AreGaps-append (p ∷ pieces) piece h g = (h.0, AreGaps-append pieces piece h.1 g)

concat_more : (pieces : List (List ℕ)) (piece : List ℕ) → concat (pieces ++ piece ∷ []) ≡ concat pieces ++ piece
concat_more [] piece = append-nil piece
concat_more (p ∷ pieces) piece = ap (λ (l : List ℕ). p ++ l) (concat_more pieces piece) ∙ sym (append_assoc p (concat pieces) piece)

gap_more : (gap piece : List ℕ) → IsGap gap → IsBlank piece ⊎ IsComment piece → IsGap (gap ++ piece)
gap_more gap piece h g = (h.0 ++ piece ∷ [], AreGaps-append h.0 piece h.1 g, ap (λ (l : List ℕ). l ++ piece) h.2 ∙ sym (concat_more h.0 piece))

pub over_piece : (tokens : List Token) (here : Place) (bytes : List ℕ) (end : Place) (piece left : List ℕ) → Reads here tokens bytes end (piece ++ left) → IsBlank piece ⊎ IsComment piece → Reads here tokens bytes (place_after end piece) left
over_piece [] here bytes end piece left h g =
    (h.0 ++ piece, gap_more h.0 piece h.1 g, h.2 ∙ sym (append_assoc h.0 piece left), ap (λ (p : Place). place_after p piece) h.3 ∙ sym (place_after-append here h.0 piece))
over_piece (token ∷ tokens) here bytes end piece left h g = (h.0, over_piece tokens (place_after token.place h.0.spelling) h.0.left end piece left h.1 g)

pub over_spelling : (tokens : List Token) (here : Place) (bytes : List ℕ) (end : Place) (kind : Kind) (spelling left : List ℕ) → Reads here tokens bytes end (spelling ++ left) → IsSpelling kind spelling → IsLongest spelling left → IsInRange spelling → Reads here (tokens ++ record { kind = kind; place = end } ∷ []) bytes (place_after end spelling) left
over_spelling [] here bytes end kind s after h p l r =
    let first : StandsFirst here bytes (record { kind = kind; place = end }) =
    record { gap = h.0; spelling = s; left = after; parts = h.2; is_gap = h.1; placed = h.3; spelled = p; longest = l; in_range = r } in
    (first, ([], ([], tt, refl), refl, refl))
over_spelling (token ∷ tokens) here bytes end kind s after h p l r = (h.0, over_spelling tokens (place_after token.place h.0.spelling) h.0.left end kind s after h.1 p l r)

pub reads_further : (tokens more : List Token) (source : List ℕ) (here : Place) (n : ℕ) (bytes : List ℕ) → Reads first_place tokens source here bytes → Advances tokens more here n bytes → Reads first_place more source (place_after here (take n bytes)) (drop n bytes)
reads_further tokens more source here n bytes h (over_gap e g) =
    subst (λ (l : List Token). Reads first_place l source (place_after here (take n bytes)) (drop n bytes)) (sym e)
    (over_piece tokens first_place source here (take n bytes) (drop n bytes) (subst (λ (l : List ℕ). Reads first_place tokens source here l) (sym (take-append-drop n bytes)) h) g.is_gap)
reads_further tokens more source here n bytes h (over_token kind e t) =
    subst (λ (l : List Token). Reads first_place l source (place_after here (take n bytes)) (drop n bytes)) (sym e)
    (over_spelling tokens first_place source here kind (take n bytes) (drop n bytes) (subst (λ (l : List ℕ). Reads first_place tokens source here l) (sym (take-append-drop n bytes)) h) t.spelled t.longest t.in_range)

pub piece_within : (tokens more : List Token) (here : Place) (n : ℕ) (bytes : List ℕ) → Advances tokens more here n bytes → (n ≤ length bytes) × (0 < n)
piece_within tokens more here n bytes (over_gap e g) = (g.within, g.some)
piece_within tokens more here n bytes (over_token kind e t) = (t.within, t.some)

-- Answers

pub refused_first : (refusal : ScanFault) (tokens : List Token) (source : List ℕ) (here : Place) (bytes : List ℕ) → Reads first_place tokens source here bytes → IsRefusal refusal here bytes → IfSome (fault_of refusal) (λ fault. HasFirstFault fault.code fault.place source)
refused_first (BadByteAt place) tokens source here bytes h g = record { tokens = tokens; left = bytes; reads = subst (λ (p : Place). Reads first_place tokens source p bytes) (sym g.0) h; fault = g.1 }
refused_first (NumberTooLargeAt place) tokens source here bytes h g = record { tokens = tokens; left = bytes; reads = subst (λ (p : Place). Reads first_place tokens source p bytes) (sym g.0) h; fault = g.1 }
refused_first (OpenCommentAt place) tokens source here bytes h g = record { tokens = tokens; left = bytes; reads = subst (λ (p : Place). Reads first_place tokens source p bytes) (sym g.0) h; fault = g.1 }
refused_first (OpenTextAt place) tokens source here bytes h g = record { tokens = tokens; left = bytes; reads = subst (λ (p : Place). Reads first_place tokens source p bytes) (sym g.0) h; fault = g.1 }
refused_first Memory tokens source here bytes h g = tt

no_fault : (refusal : ScanFault) (tokens : List Token) (end : Place) (source : List ℕ) → Spells tokens end source → IfSome (fault_of refusal) (λ fault. HasFirstFault fault.code fault.place source) → fault_of refusal ≡ None
no_fault (BadByteAt place) tokens end source h g = absurd (Spells-no_fault tokens end BadByte place source h g)
no_fault (NumberTooLargeAt place) tokens end source h g = absurd (Spells-no_fault tokens end NumberTooLarge place source h g)
no_fault (OpenCommentAt place) tokens end source h g = absurd (Spells-no_fault tokens end OpenComment place source h g)
no_fault (OpenTextAt place) tokens end source h g = absurd (Spells-no_fault tokens end OpenText place source h g)
no_fault Memory tokens end source h g = refl

pub accepted : (answer : Result Scanned ScanFault) (tokens : List Token) (end : Place) (source : List ℕ) → IfOk answer (λ scanned. Spells scanned.tokens scanned.end source) → IfErr answer (λ refusal. IfSome (fault_of refusal) (λ fault. HasFirstFault fault.code fault.place source)) → Spells tokens end source → MatchResult answer (λ scanned. (scanned.tokens ≡ tokens) × (scanned.end ≡ end)) (λ refusal. fault_of refusal ≡ None)
accepted (Ok scanned) tokens end source h g s = Spells-unique scanned.tokens tokens scanned.end end source h s
accepted (Err refusal) tokens end source h g s = no_fault refusal tokens end source s g

same_fault : (refusal : ScanFault) (code : Code) (place : Place) (source : List ℕ) → IfSome (fault_of refusal) (λ fault. HasFirstFault fault.code fault.place source) → HasFirstFault code place source → IfSome (fault_of refusal) (λ fault. fault ≡ record { code = code; place = place })
same_fault (BadByteAt p) code place source h g = let s = HasFirstFault-unique BadByte code p place source h g in λ i. record { code = s.0 i; place = s.1 i }
same_fault (NumberTooLargeAt p) code place source h g = let s = HasFirstFault-unique NumberTooLarge code p place source h g in λ i. record { code = s.0 i; place = s.1 i }
same_fault (OpenCommentAt p) code place source h g = let s = HasFirstFault-unique OpenComment code p place source h g in λ i. record { code = s.0 i; place = s.1 i }
same_fault (OpenTextAt p) code place source h g = let s = HasFirstFault-unique OpenText code p place source h g in λ i. record { code = s.0 i; place = s.1 i }
same_fault Memory code place source h g = tt

pub refused : (answer : Result Scanned ScanFault) (code : Code) (place : Place) (source : List ℕ) → IfOk answer (λ scanned. Spells scanned.tokens scanned.end source) → IfErr answer (λ refusal. IfSome (fault_of refusal) (λ fault. HasFirstFault fault.code fault.place source)) → HasFirstFault code place source → MatchResult answer (λ _. ⊥) (λ refusal. IfSome (fault_of refusal) (λ fault. fault ≡ record { code = code; place = place }))
refused (Ok scanned) code place source h g f = Spells-no_fault scanned.tokens scanned.end code place source h f
refused (Err refusal) code place source h g f = same_fault refusal code place source g f
