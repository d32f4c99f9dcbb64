-- A byte with which nothing begins.
use Rattle.std.proofs.Common.{◌≡◌, ◌<◌, ℕ, true, false, List, [], ◌∷◌, length, get_or, refl, sym, ap, subst, arith}
use Rattle.std.proofs.lemmas.Bool.{both_ways}
use Rattle.mc_tree.specs.Spellings.{is_letter, is_digit, is_quote}
use Rattle.mc_tree.specs.SpellingLaws.{IsFront, Shape, a_word, a_numeral, a_text, a_symbol, shape_of, numeral_front, text_front}
use Rattle.std.proofs.Common.{Option, Some, None}
use Rattle.std.specs.Option.{MatchOption, ok_or}
use Rattle.std.specs.Result.{IfErr}
use Rattle.mc_tree.specs.declared.place.Place.{Place}
use Rattle.mc_tree.specs.declared.token.Symbol.TheVariants.{LeftParen}
use Rattle.mc_tree.specs.Sources.{IsBadByte, BeginsBadByte}
use Rattle.mc_scan.specs.declared.taken.Taken.{Taken}
use Rattle.mc_scan.specs.declared.fault.ScanFault.TheVariants.{BadByte as BadByteAt}
use Rattle.mc_scan.specs.Pieces.{BeginsNoSymbol, HasNoGap, IsRefusal}

no_lexeme : (b : ℕ) (bytes : List ℕ) → is_letter b ≡ false → is_digit b ≡ false → is_quote b ≡ false → BeginsNoSymbol (b ∷ bytes) → (others : List ℕ) → Shape (b ∷ others) → ⊥
no_lexeme b bytes l d q s others (a_word h) = both_ways (is_letter b) l h.0
no_lexeme b bytes l d q s others (a_numeral form value h) =
    let f : IsFront is_digit (b ∷ others) = numeral_front form value (b ∷ others) h in
    let same : f.first ≡ b = cc (f.parts) in
    both_ways (is_digit b) d (subst (λ (x : ℕ). is_digit x ≡ true) same f.passes)
no_lexeme b bytes l d q s others (a_text inside h) =
    let f : IsFront is_quote (b ∷ others) = text_front inside (b ∷ others) h in
    let same : f.first ≡ b = cc (f.parts) in
    both_ways (is_quote b) q (subst (λ (x : ℕ). is_quote x ≡ true) same f.passes)
no_lexeme b bytes l d q s others (a_symbol symbol h) = s symbol others (sym h)

pub bad_byte : (bytes : List ℕ) → 0 < length bytes → HasNoGap bytes → is_letter (get_or bytes 0 0) ≡ false → is_digit (get_or bytes 0 0) ≡ false → is_quote (get_or bytes 0 0) ≡ false → BeginsNoSymbol bytes → BeginsBadByte bytes
bad_byte [] some g l d q s = absurd (omega arith)
bad_byte (b ∷ bytes) some g l d q s = (b, bytes, is_bad, refl)
  where
    is_bad : IsBadByte b
    is_bad = record {
      no_blank = g.no_blank;
      no_token = λ others p. no_lexeme b bytes l d q s others (shape_of p.0 (b ∷ others) p.1);
      no_comment = λ rest h. s LeftParen [] (let e : b ∷ rest ≡ 40 ∷ 42 ∷ h.0 = h.1 in let same : 40 ≡ b = cc in ap (λ (x : ℕ). x ∷ []) same);
    }

pub refused_or_taken : (found : Option Taken) (T : Taken → Type 0) (here : Place) (bytes : List ℕ) → MatchOption found (BeginsNoSymbol bytes) T → (BeginsNoSymbol bytes → BeginsBadByte bytes) → IfErr (ok_or found (BadByteAt here)) (λ fault. IsRefusal fault here bytes)
refused_or_taken None T here bytes h g = (refl, g h)
refused_or_taken (Some taken) T here bytes h g = tt
