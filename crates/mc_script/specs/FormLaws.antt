-- A line's fields have at most one form, the one that reading finds.
use Rattle.std.specs.Prelude.{◌≡◌, ◌≢◌, ℕ, Bool, true, false, ◌&&◌, if◌then◌else◌, cond, List, [], ◌∷◌, ◌++◌, map, codes, Option, Some, None, ◌⊎◌, refl}
use Rattle.std.specs.List.{list_all}
use Rattle.std.specs.Str.{bytes_eq}
use Rattle.std.proofs.Common.{sym, ◌∙◌, ap, subst, inl, inr}
use Rattle.std.proofs.lemmas.Bool.{and_parts, and_from, true≢false}
use Rattle.std.proofs.lemmas.Slice.Eq.{bytes_eq-Decides}
use Rattle.mc_script.specs.declared.setting.Setting.{Setting}
use Rattle.mc_script.specs.declared.setting.Setting.TheVariants.{Printer, Reader, Punch, Clock, Limit}
use Rattle.mc_script.specs.Lines.{has_bytes}
use Rattle.mc_script.specs.Forms.{Form, Strikes, Tape, Sets, is_digit, AreDigits, value, IsNumeral, AreNumerals, words_of, IsForm}
use Rattle.mc_script.specs.Reading.{◌>>=◌, is_numeral, numeral_of, behind_of, ended_of, sets_of, delay_of, strikes_of, has_fields, tape_of, form_of}

-- Numerals

digits_pass : (base : ℕ) (digits : List ℕ) → AreDigits base digits → list_all (is_digit base) digits ≡ true
digits_pass base [] h = refl
digits_pass base (b ∷ digits) h = and_from _ _ h.0 (digits_pass base digits h.1)

passing_digits : (base : ℕ) (digits : List ℕ) → list_all (is_digit base) digits ≡ true → AreDigits base digits
passing_digits base [] h = tt
passing_digits base (b ∷ digits) h =
    let parts = and_parts (is_digit base b) (list_all (is_digit base) digits) h in
    (parts.0, passing_digits base digits parts.1)

some_bytes : (digits : List ℕ) → digits ≢ [] → has_bytes digits ≡ true
some_bytes [] n = absurd (n refl)
some_bytes (b ∷ digits) n = refl

bytes_some : (digits : List ℕ) → has_bytes digits ≡ true → digits ≢ []
bytes_some [] h e = absurd (true≢false (sym h))
bytes_some (b ∷ digits) h e = cc

numeral_passes : (base : ℕ) (digits : List ℕ) (n : ℕ) → IsNumeral base digits n → is_numeral base digits ≡ true
unfolding is_numeral
numeral_passes base digits n h = and_from _ _ (some_bytes digits h.some) (digits_pass base digits h.each)

passing_numeral : (base : ℕ) (digits : List ℕ) → is_numeral base digits ≡ true → IsNumeral base digits (value base digits)
unfolding is_numeral
passing_numeral base digits h =
    let parts = and_parts (has_bytes digits) (list_all (is_digit base) digits) h in
    record { some = bytes_some digits parts.0; each = passing_digits base digits parts.1; is = refl }

-- What is of a form is read so.

numeral_again : (base : ℕ) (digits : List ℕ) (n : ℕ) (others : List (List ℕ)) → IsNumeral base digits n → numeral_of base (digits ∷ others) ≡ Some (digits, others)
unfolding numeral_of
numeral_again base digits n others h = rw (numeral_passes base digits n h) refl

sets_again : (setting : Setting) (digits : List ℕ) (n : ℕ) → IsNumeral 10 digits n → sets_of setting (digits ∷ []) ≡ Some (Sets setting n)
unfolding sets_of ended_of
sets_again setting digits n h = rw (numeral_again 10 digits n [] h) (ap (λ (k : ℕ). Some (Sets setting k)) (sym h.is))

key_again : (others : List (List ℕ)) → behind_of (codes "key") (codes "key" ∷ others) ≡ Some others
unfolding behind_of
key_again others = refl

strikes_again : (t b : List ℕ) (time byte : ℕ) → IsNumeral 10 t time → IsNumeral 8 b byte → strikes_of (t ∷ codes "key" ∷ b ∷ []) ≡ Some (Strikes time byte)
unfolding strikes_of ended_of
strikes_again t b time byte h g =
    rw (numeral_again 10 t time (codes "key" ∷ b ∷ []) h, key_again (b ∷ []), numeral_again 8 b byte [] g)
    (ap (λ (k : ℕ). Some (Strikes k (value 8 b))) (sym h.is) ∙ ap (λ (k : ℕ). Some (Strikes time k)) (sym g.is))

numerals_pass : (numerals : List (List ℕ)) (bytes : List ℕ) → AreNumerals 8 numerals bytes → (list_all (is_numeral 8) numerals ≡ true) × (map (value 8) numerals ≡ bytes)
numerals_pass [] [] h = (refl, refl)
numerals_pass [] (n ∷ bytes) h = absurd h
numerals_pass (digits ∷ numerals) [] h = absurd h
numerals_pass (digits ∷ numerals) (n ∷ bytes) h =
    let more = numerals_pass numerals bytes h.1 in
    let value_is : value 8 digits ≡ n = sym h.0.is in
    (and_from _ _ (numeral_passes 8 digits n h.0) more.0, cc (value_is, more.1))

some_fields : (words : List (List ℕ)) → words ≢ [] → has_fields words ≡ true
some_fields [] n = absurd (n refl)
some_fields (word ∷ words) n = refl

tape_again : (numerals : List (List ℕ)) (bytes : List ℕ) → numerals ≢ [] → AreNumerals 8 numerals bytes → tape_of numerals ≡ Some (Tape bytes)
unfolding tape_of
tape_again numerals bytes n h =
    let pass = numerals_pass numerals bytes h in
    rw (some_fields numerals n, pass.0) (ap (λ (l : List ℕ). Some (Tape l)) pass.1)

pub form_again : (line : List (List ℕ)) (form : Form) → IsForm line form → form_of line ≡ Some form
unfolding form_of delay_of
form_again line (Strikes time byte) h = ap form_of h.4 ∙ strikes_again h.0 h.1 time byte h.2 h.3
form_again line (Tape bytes) h = ap form_of h.3 ∙ tape_again h.0 bytes h.1 h.2
form_again line (Sets Printer n) h = ap form_of h.2 ∙ sets_again Printer h.0 n h.1
form_again line (Sets Reader n) h = ap form_of h.2 ∙ sets_again Reader h.0 n h.1
form_again line (Sets Punch n) h = ap form_of h.2 ∙ sets_again Punch h.0 n h.1
form_again line (Sets Clock n) h = ap form_of h.2 ∙ sets_again Clock h.0 n h.1
form_again line (Sets Limit n) h = ap form_of h.2 ∙ sets_again Limit h.0 n h.1

-- What is read is of that form.

bind_some : {A B : Type 0} (o : Option A) (f : A → Option B) (y : B) → (o >>= f) ≡ Some y → (x : A) × (o ≡ Some x) × (f x ≡ Some y)
bind_some None f y e = absurd cc
bind_some (Some x) f y e = (x, refl, e)

chosen : {A : Type 0} (b : Bool) (x y z : A) → cond b x y ≡ z → ((b ≡ true) × (x ≡ z)) ⊎ ((b ≡ false) × (y ≡ z))
chosen true x y z e = inl (refl, e)
chosen false x y z e = inr (refl, e)

-- one of two answers, of which the second is none
found : {A : Type 0} (b : Bool) (x : Option A) (y : A) → cond b x None ≡ Some y → (b ≡ true) × (x ≡ Some y)
found true x y e = (refl, e)
found false x y e = absurd cc

same_word : (word other : List ℕ) → bytes_eq word other ≡ true → word ≡ other
same_word word other e = (bytes_eq-Decides word other).0 e

numeral_back : (base : ℕ) (words : List (List ℕ)) (x : List ℕ × List (List ℕ)) → numeral_of base words ≡ Some x → IsNumeral base x.0 (value base x.0) × (words ≡ x.0 ∷ x.1)
unfolding numeral_of
numeral_back base [] x e = absurd cc
numeral_back base (field ∷ others) x e =
    let f = found (is_numeral base field) (Some (field, others)) x e in
    let same : Some (field, others) ≡ Some x = f.1 in
    let pair : (field, others) ≡ x = cc in
    subst (λ (y : List ℕ × List (List ℕ)). IsNumeral base y.0 (value base y.0) × (field ∷ others ≡ y.0 ∷ y.1)) pair (passing_numeral base field f.0, refl)

behind_back : (word : List ℕ) (words others : List (List ℕ)) → behind_of word words ≡ Some others → words ≡ word ∷ others
unfolding behind_of
behind_back word [] others e = absurd cc
behind_back word (field ∷ rest) others e =
    let f = found (bytes_eq field word) (Some rest) others e in
    let same : rest ≡ others = cc in
    let first : field ≡ word = same_word field word f.0 in
    cc

ended_back : (words : List (List ℕ)) (x : Unit {0}) → ended_of words ≡ Some x → words ≡ []
unfolding ended_of
ended_back [] x e = refl
ended_back (field ∷ others) x e = absurd cc

record IsSet (setting : Setting) (words : List (List ℕ)) (form : Form) : Type 0 where
  digits : List ℕ
  numeral : IsNumeral 10 digits (value 10 digits)
  parts : words ≡ digits ∷ []
  form_is : Sets setting (value 10 digits) ≡ form

sets_back : (setting : Setting) (words : List (List ℕ)) (form : Form) → sets_of setting words ≡ Some form → IsSet setting words form
unfolding sets_of
sets_back setting words form e =
    let a = bind_some (numeral_of 10 words) (λ n. ended_of n.1 >>= λ end. Some (Sets setting (value 10 n.0))) form e in
    let b = bind_some (ended_of a.0.1) (λ end. Some (Sets setting (value 10 a.0.0))) form a.2 in
    let n = numeral_back 10 words a.0 a.1 in
    let none = ended_back a.0.1 b.0 b.1 in
    let last : Some (Sets setting (value 10 a.0.0)) ≡ Some form = b.2 in
    record { digits = a.0.0; numeral = n.0; parts = n.1 ∙ ap (λ (l : List (List ℕ)). a.0.0 ∷ l) none; form_is = cc }

strikes_back : (words : List (List ℕ)) (form : Form) → strikes_of words ≡ Some form → IsForm (codes "at" ∷ words) form
unfolding strikes_of
strikes_back words form e =
    let a = bind_some (numeral_of 10 words) (λ time. behind_of (codes "key") time.1 >>= λ key. numeral_of 8 key >>= λ byte. ended_of byte.1 >>= λ end. Some (Strikes (value 10 time.0) (value 8 byte.0))) form e in
    let b = bind_some (behind_of (codes "key") a.0.1) (λ key. numeral_of 8 key >>= λ byte. ended_of byte.1 >>= λ end. Some (Strikes (value 10 a.0.0) (value 8 byte.0))) form a.2 in
    let d = bind_some (numeral_of 8 b.0) (λ byte. ended_of byte.1 >>= λ end. Some (Strikes (value 10 a.0.0) (value 8 byte.0))) form b.2 in
    let f = bind_some (ended_of d.0.1) (λ end. Some (Strikes (value 10 a.0.0) (value 8 d.0.0))) form d.2 in
    let time = numeral_back 10 words a.0 a.1 in
    let key = behind_back (codes "key") a.0.1 b.0 b.1 in
    let byte = numeral_back 8 b.0 d.0 d.1 in
    let none = ended_back d.0.1 f.0 f.1 in
    let last : Some (Strikes (value 10 a.0.0) (value 8 d.0.0)) ≡ Some form = f.2 in
    let same : Strikes (value 10 a.0.0) (value 8 d.0.0) ≡ form = cc in
    let parts : words ≡ a.0.0 ∷ codes "key" ∷ d.0.0 ∷ [] =
    time.1 ∙ ap (λ (l : List (List ℕ)). a.0.0 ∷ l) (key ∙ ap (λ (l : List (List ℕ)). codes "key" ∷ l) (byte.1 ∙ ap (λ (l : List (List ℕ)). d.0.0 ∷ l) none)) in
    subst (λ (x : Form). IsForm (codes "at" ∷ words) x) same (a.0.0, d.0.0, time.0, byte.0, ap (λ (l : List (List ℕ)). codes "at" ∷ l) parts)

passing_numerals : (words : List (List ℕ)) → list_all (is_numeral 8) words ≡ true → AreNumerals 8 words (map (value 8) words)
passing_numerals [] h = tt
passing_numerals (digits ∷ words) h =
    let parts = and_parts (is_numeral 8 digits) (list_all (is_numeral 8) words) h in
    (passing_numeral 8 digits parts.0, passing_numerals words parts.1)

fields_some : (words : List (List ℕ)) → has_fields words ≡ true → words ≢ []
fields_some [] h e = absurd (true≢false (sym h))
fields_some (word ∷ words) h e = cc

tape_back : (words : List (List ℕ)) (form : Form) → tape_of words ≡ Some form → IsForm (codes "tape" ∷ words) form
unfolding tape_of
tape_back words form e =
    let f = found (has_fields words && list_all (is_numeral 8) words) (Some (Tape (map (value 8) words))) form e in
    let parts = and_parts (has_fields words) (list_all (is_numeral 8) words) f.0 in
    let last : Some (Tape (map (value 8) words)) ≡ Some form = f.1 in
    let same : Tape (map (value 8) words) ≡ form = cc in
    subst (λ (x : Form). IsForm (codes "tape" ∷ words) x) same (words, fields_some words parts.0, passing_numerals words parts.1, refl)

delay_back : (words : List (List ℕ)) (form : Form) → delay_of words ≡ Some form → IsForm (codes "delay" ∷ words) form
unfolding delay_of
delay_back [] form e = absurd cc
delay_back (device ∷ words) form e =
    elim (chosen (bytes_eq device (codes "printer")) (sets_of Printer words) (if bytes_eq device (codes "reader") then sets_of Reader words else (if bytes_eq device (codes "punch") then sets_of Punch words else None)) (Some form) e) [
      | inl h ↦ made Printer (codes "printer") refl (same_word device (codes "printer") h.0) (sets_back Printer words form h.1)
      | inr h ↦
          elim (chosen (bytes_eq device (codes "reader")) (sets_of Reader words) (if bytes_eq device (codes "punch") then sets_of Punch words else None) (Some form) h.1) [
            | inl g ↦ made Reader (codes "reader") refl (same_word device (codes "reader") g.0) (sets_back Reader words form g.1)
            | inr g ↦
                let f = found (bytes_eq device (codes "punch")) (sets_of Punch words) form g.1 in
                made Punch (codes "punch") refl (same_word device (codes "punch") f.0) (sets_back Punch words form f.1)
          ]
    ]
  where
    made : (setting : Setting) (name : List ℕ) → words_of setting ≡ codes "delay" ∷ name ∷ [] → device ≡ name → IsSet setting words form → IsForm (codes "delay" ∷ device ∷ words) form
    made setting name named same s =
        let parts : codes "delay" ∷ device ∷ words ≡ words_of setting ++ s.digits ∷ [] =
        ap (λ (l : List (List ℕ)). codes "delay" ∷ device ∷ l) s.parts
        ∙ (ap (λ (x : List ℕ). codes "delay" ∷ x ∷ s.digits ∷ []) same ∙ ap (λ (l : List (List ℕ)). l ++ s.digits ∷ []) (sym named)) in
        subst (λ (x : Form). IsForm (codes "delay" ∷ device ∷ words) x) s.form_is (s.digits, s.numeral, parts)

set_back : (setting : Setting) (name : List ℕ) (words : List (List ℕ)) (form : Form) → words_of setting ≡ name ∷ [] → IsSet setting words form → IsForm (name ∷ words) form
set_back setting name words form named s =
    let parts : name ∷ words ≡ words_of setting ++ s.digits ∷ [] =
    ap (λ (l : List (List ℕ)). name ∷ l) s.parts ∙ ap (λ (l : List (List ℕ)). l ++ s.digits ∷ []) (sym named) in
    subst (λ (x : Form). IsForm (name ∷ words) x) s.form_is (s.digits, s.numeral, parts)

-- the same for the first word
with_word : (word name : List ℕ) (words : List (List ℕ)) (form : Form) → bytes_eq word name ≡ true → IsForm (name ∷ words) form → IsForm (word ∷ words) form
with_word word name words form e h = subst (λ (x : List ℕ). IsForm (x ∷ words) form) (sym (same_word word name e)) h

pub form_back : (line : List (List ℕ)) (form : Form) → form_of line ≡ Some form → IsForm line form
unfolding form_of
form_back [] form e = absurd cc
form_back (word ∷ words) form e =
    let last : Option Form = if bytes_eq word (codes "limit") then sets_of Limit words else None in
    let fourth : Option Form = if bytes_eq word (codes "clock") then sets_of Clock words else last in
    let third : Option Form = if bytes_eq word (codes "delay") then delay_of words else fourth in
    let second : Option Form = if bytes_eq word (codes "tape") then tape_of words else third in
    elim (chosen (bytes_eq word (codes "at")) (strikes_of words) second (Some form) e) [
      | inl h ↦ with_word word (codes "at") words form h.0 (strikes_back words form h.1)
      | inr h ↦
          elim (chosen (bytes_eq word (codes "tape")) (tape_of words) third (Some form) h.1) [
            | inl g ↦ with_word word (codes "tape") words form g.0 (tape_back words form g.1)
            | inr g ↦
                elim (chosen (bytes_eq word (codes "delay")) (delay_of words) fourth (Some form) g.1) [
                  | inl k ↦ with_word word (codes "delay") words form k.0 (delay_back words form k.1)
                  | inr k ↦
                      elim (chosen (bytes_eq word (codes "clock")) (sets_of Clock words) last (Some form) k.1) [
                        | inl m ↦ with_word word (codes "clock") words form m.0 (set_back Clock (codes "clock") words form refl (sets_back Clock words form m.1))
                        | inr m ↦
                            let f = found (bytes_eq word (codes "limit")) (sets_of Limit words) form m.1 in
                            with_word word (codes "limit") words form f.0 (set_back Limit (codes "limit") words form refl (sets_back Limit words form f.1))
                      ]
                ]
          ]
    ]

-- Laws

pub IsForm-unique : (line : List (List ℕ)) (form other : Form) → IsForm line form → IsForm line other → form ≡ other
IsForm-unique line form other h g =
    let both : Some form ≡ Some other = sym (form_again line form h) ∙ form_again line other g in
    cc

pub IsForm-nothing : (form : Form) → IsForm [] form → ⊥
unfolding form_of
IsForm-nothing form h =
    let e : None ≡ Some form = form_again [] form h in
    cc

-- where reading finds no form, there is none
pub IsForm-none : (line : List (List ℕ)) → form_of line ≡ None → (form : Form) → IsForm line form → ⊥
IsForm-none line e form h =
    let both : None ≡ Some form = sym e ∙ form_again line form h in
    cc
