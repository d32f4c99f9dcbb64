-- What is kept of a script while its lines are read.
use Rattle.std.specs.Prelude.{◌≡◌, ℕ, ◌<◌, ◌≤◌, Bool, true, false, cond, List, [], ◌∷◌, ◌++◌, fold, Option, Some, None, IsSome, unwrap_or, ◌⊎◌, refl}
use Rattle.std.proofs.Common.{sym, ◌∙◌, ap, subst, inl, inr, arith, append_assoc}
use Rattle.std.proofs.lemmas.List.{append-nil}
use Rattle.std.proofs.lemmas.Bool.{true≢false}
use Rattle.mc_script.specs.declared.script.Key.{Key}
use Rattle.mc_script.specs.declared.setting.Setting.{Setting}
use Rattle.mc_script.specs.declared.setting.Setting.TheVariants.{Printer, Reader, Punch, Clock, Limit}
use Rattle.mc_script.specs.declared.fault.ScriptFault.{ScriptFault}
use Rattle.mc_script.specs.declared.fault.ScriptFault.TheVariants.{BadLine, OutOfRange, Twice, Backwards, Memory}
use Rattle.mc_script.specs.Script.{ScriptState, IsWithin, AreAfter, AreBytes, bytes_of, IsPeriod, IsScript}
use Rattle.mc_script.specs.Forms.{Form, Strikes, Tape, Sets, IsForm, greatest_of, IsInRange, keys_of, tape_of, same_setting, value_of, last_time, script_of, IsGood}
use Rattle.mc_script.specs.Texts.{Accepts, StandsIn}

pub record DraftState : Type 0 where
  pub keys : List Key
  -- the time of the last key; 0 where there is none
  pub last : ℕ
  pub tape : List ℕ
  pub printer : Option ℕ
  pub reader : Option ℕ
  pub punch : Option ℕ
  pub clock : Option ℕ
  pub limit : Option ℕ

abbrev pub draft_of : List Form → DraftState
draft_of forms =
    record {
      keys = keys_of forms;
      last = last_time forms;
      tape = tape_of forms;
      printer = value_of Printer forms;
      reader = value_of Reader forms;
      punch = value_of Punch forms;
      clock = value_of Clock forms;
      limit = value_of Limit forms;
    }

-- the value that a setting was given
abbrev pub given : DraftState → Setting → Option ℕ
given d Printer = d.printer
given d Reader = d.reader
given d Punch = d.punch
given d Clock = d.clock
given d Limit = d.limit

abbrev pub with_value : DraftState → Setting → ℕ → DraftState
with_value d Printer n = record d { printer = Some n }
with_value d Reader n = record d { reader = Some n }
with_value d Punch n = record d { punch = Some n }
with_value d Clock n = record d { clock = Some n }
with_value d Limit n = record d { limit = Some n }

abbrev pub with_form : DraftState → Form → DraftState
with_form d (Strikes time byte) = record d { keys = d.keys ++ record { at = time; byte = byte } ∷ []; last = time }
with_form d (Tape bytes) = record d { tape = d.tape ++ bytes }
with_form d (Sets setting n) = with_value d setting n

-- with the usual values where none was given
abbrev pub script_in : DraftState → ScriptState
script_in d =
    record { keys = d.keys; tape = d.tape; printer = unwrap_or d.printer 300; reader = unwrap_or d.reader 200; punch = unwrap_or d.punch 400; clock = d.clock; limit = unwrap_or d.limit 1000000 }

-- the form is in range, sets nothing twice and does not go back
abbrev pub IsAllowed : Form → DraftState → Type 0
IsAllowed (Strikes time byte) d = IsInRange (Strikes time byte) × (d.last < time)
IsAllowed (Tape bytes) d = IsInRange (Tape bytes)
IsAllowed (Sets setting n) d = IsInRange (Sets setting n) × (given d setting ≡ None)

-- the fault of a form behind what was read before
abbrev pub IsFaultOf : ScriptFault → ℕ → Form → DraftState → Type 0
IsFaultOf (BadLine n) number form d = ⊥
IsFaultOf (OutOfRange n) number form d = (n ≡ number) × ¬ IsInRange form
IsFaultOf (Twice n) number (Strikes time byte) d = ⊥
IsFaultOf (Twice n) number (Tape bytes) d = ⊥
IsFaultOf (Twice n) number (Sets setting v) d = (n ≡ number) × IsInRange (Sets setting v) × IsSome (given d setting)
IsFaultOf (Backwards n) number (Strikes time byte) d = (n ≡ number) × IsInRange (Strikes time byte) × (time ≤ d.last)
IsFaultOf (Backwards n) number (Tape bytes) d = ⊥
IsFaultOf (Backwards n) number (Sets setting v) d = ⊥
IsFaultOf Memory number form d = ⊥

-- Laws

given_is : (forms : List Form) (setting : Setting) → given (draft_of forms) setting ≡ value_of setting forms
given_is forms Printer = refl
given_is forms Reader = refl
given_is forms Punch = refl
given_is forms Clock = refl
given_is forms Limit = refl

some_not_none : (o : Option ℕ) → o ≡ None → IsSome o → ⊥
some_not_none None e h = true≢false (sym h)
some_not_none (Some n) e h = cc

pub allowed_is_good : (form : Form) (forms : List Form) → IsAllowed form (draft_of forms) → IsGood form forms
allowed_is_good (Strikes time byte) forms h = record { in_range = h.0; once = λ r. r; forward = λ g. absurd (omega (arith, h.1, g)) }
allowed_is_good (Tape bytes) forms h = record { in_range = h; once = λ r. r; forward = λ g. g }
allowed_is_good (Sets setting n) forms h =
    record { in_range = h.0; once = λ r. some_not_none (value_of setting forms) (sym (given_is forms setting) ∙ h.1) r; forward = λ g. g }

pub fault_stands : (fault : ScriptFault) (number : ℕ) (form : Form) (forms : List Form) (line : List (List ℕ)) → IsForm line form → IsFaultOf fault number form (draft_of forms) → StandsIn fault number line forms
fault_stands (BadLine n) number form forms line f h = absurd h
fault_stands (OutOfRange n) number form forms line f h = (h.0, form, f, h.1)
fault_stands (Twice n) number (Strikes time byte) forms line f h = absurd h
fault_stands (Twice n) number (Tape bytes) forms line f h = absurd h
fault_stands (Twice n) number (Sets setting v) forms line f h = (h.0, Sets setting v, f, h.1, subst (λ (o : Option ℕ). IsSome o) (given_is forms setting) h.2)
fault_stands (Backwards n) number (Strikes time byte) forms line f h = (h.0, Strikes time byte, f, h.1, λ r. r, h.2)
fault_stands (Backwards n) number (Tape bytes) forms line f h = absurd h
fault_stands (Backwards n) number (Sets setting v) forms line f h = absurd h
fault_stands Memory number form forms line f h = absurd h

-- one form more

abbrev key_in : Form → List Key
key_in (Strikes time byte) = record { at = time; byte = byte } ∷ []
key_in (Tape bytes) = []
key_in (Sets setting n) = []

abbrev bytes_in : Form → List ℕ
bytes_in (Strikes time byte) = []
bytes_in (Tape bytes) = bytes
bytes_in (Sets setting n) = []

abbrev value_in : Setting → Form → Option ℕ
value_in setting (Strikes time byte) = None
value_in setting (Tape bytes) = None
value_in setting (Sets other n) = cond (same_setting setting other) (Some n) None

abbrev or_else : Option ℕ → Option ℕ → Option ℕ
or_else None o = o
or_else (Some n) o = Some n

keys_more : (forms : List Form) (form : Form) → keys_of (forms ++ form ∷ []) ≡ keys_of forms ++ key_in form
keys_more [] (Strikes time byte) = refl
keys_more [] (Tape bytes) = refl
keys_more [] (Sets setting n) = refl
keys_more (Strikes time byte ∷ forms) form = ap (λ (l : List Key). record { at = time; byte = byte } ∷ l) (keys_more forms form)
keys_more (Tape bytes ∷ forms) form = keys_more forms form
keys_more (Sets setting n ∷ forms) form = keys_more forms form

tape_more : (forms : List Form) (form : Form) → tape_of (forms ++ form ∷ []) ≡ tape_of forms ++ bytes_in form
tape_more [] (Strikes time byte) = refl
tape_more [] (Tape bytes) = append-nil bytes
tape_more [] (Sets setting n) = refl
tape_more (Strikes time byte ∷ forms) form = tape_more forms form
tape_more (Tape bytes ∷ forms) form = ap (λ (l : List ℕ). bytes ++ l) (tape_more forms form) ∙ sym (append_assoc bytes (tape_of forms) (bytes_in form))
tape_more (Sets setting n ∷ forms) form = tape_more forms form

or_else_cond : (b : Bool) (n : ℕ) (x y : Option ℕ) → cond b (Some n) (or_else x y) ≡ or_else (cond b (Some n) x) y
or_else_cond true n x y = refl
or_else_cond false n x y = refl

value_more : (setting : Setting) (forms : List Form) (form : Form) → value_of setting (forms ++ form ∷ []) ≡ or_else (value_of setting forms) (value_in setting form)
value_more setting [] (Strikes time byte) = refl
value_more setting [] (Tape bytes) = refl
value_more setting [] (Sets other n) = refl
value_more setting (Strikes time byte ∷ forms) form = value_more setting forms form
value_more setting (Tape bytes ∷ forms) form = value_more setting forms form
value_more setting (Sets other n ∷ forms) form =
    ap (λ (o : Option ℕ). cond (same_setting setting other) (Some n) o) (value_more setting forms form) ∙ or_else_cond (same_setting setting other) n (value_of setting forms) (value_in setting form)

or_else_none : (o : Option ℕ) → or_else o None ≡ o
or_else_none None = refl
or_else_none (Some n) = refl

value_stays : (setting : Setting) (forms : List Form) (form : Form) → value_in setting form ≡ None → value_of setting (forms ++ form ∷ []) ≡ value_of setting forms
value_stays setting forms form e = value_more setting forms form ∙ (ap (λ (o : Option ℕ). or_else (value_of setting forms) o) e ∙ or_else_none (value_of setting forms))

value_given : (setting : Setting) (forms : List Form) (n : ℕ) → value_of setting forms ≡ None → same_setting setting setting ≡ true → value_of setting (forms ++ Sets setting n ∷ []) ≡ Some n
value_given setting forms n e same =
    value_more setting forms (Sets setting n) ∙ (ap (λ (o : Option ℕ). or_else o (value_in setting (Sets setting n))) e ∙ ap (λ (b : Bool). cond b (Some n) None) same)

last_more : (time : ℕ) (keys : List Key) (key : Key) → fold (λ t k. k.at) time (keys ++ key ∷ []) ≡ key.at
last_more time [] key = refl
last_more time (k ∷ keys) key = last_more k.at keys key

-- the parts of a draft
same_draft : (d e : DraftState) → d.keys ≡ e.keys → d.last ≡ e.last → d.tape ≡ e.tape → d.printer ≡ e.printer → d.reader ≡ e.reader → d.punch ≡ e.punch → d.clock ≡ e.clock → d.limit ≡ e.limit → d ≡ e
same_draft d e a b f g h k l m i = record { keys = a i; last = b i; tape = f i; printer = g i; reader = h i; punch = k i; clock = l i; limit = m i }

last_of_keys : (forms : List Form) (keys : List Key) → keys_of forms ≡ keys → last_time forms ≡ fold (λ t k. k.at) 0 keys
last_of_keys forms keys e = ap (λ (l : List Key). fold (λ t k. k.at) 0 l) e

-- What is kept after one form more is what those forms say.
pub draft_more : (forms : List Form) (form : Form) → IsAllowed form (draft_of forms) → with_form (draft_of forms) form ≡ draft_of (forms ++ form ∷ [])
draft_more forms (Strikes time byte) h =
    let form : Form = Strikes time byte in
    let keys : keys_of (forms ++ form ∷ []) ≡ keys_of forms ++ record { at = time; byte = byte } ∷ [] = keys_more forms form in
    same_draft (with_form (draft_of forms) form) (draft_of (forms ++ form ∷ [])) (sym keys)
    (sym (last_of_keys (forms ++ form ∷ []) (keys_of forms ++ record { at = time; byte = byte } ∷ []) keys ∙ last_more 0 (keys_of forms) (record { at = time; byte = byte })))
    (sym (tape_more forms form ∙ append-nil (tape_of forms)))
    (sym (value_stays Printer forms form refl)) (sym (value_stays Reader forms form refl)) (sym (value_stays Punch forms form refl)) (sym (value_stays Clock forms form refl)) (sym (value_stays Limit forms form refl))
draft_more forms (Tape bytes) h =
    let form : Form = Tape bytes in
    let keys : keys_of (forms ++ form ∷ []) ≡ keys_of forms = keys_more forms form ∙ append-nil (keys_of forms) in
    same_draft (with_form (draft_of forms) form) (draft_of (forms ++ form ∷ [])) (sym keys) (sym (last_of_keys (forms ++ form ∷ []) (keys_of forms) keys)) (sym (tape_more forms form))
    (sym (value_stays Printer forms form refl)) (sym (value_stays Reader forms form refl)) (sym (value_stays Punch forms form refl)) (sym (value_stays Clock forms form refl)) (sym (value_stays Limit forms form refl))
draft_more forms (Sets Printer n) h =
    let form : Form = Sets Printer n in
    let keys : keys_of (forms ++ form ∷ []) ≡ keys_of forms = keys_more forms form ∙ append-nil (keys_of forms) in
    same_draft (with_form (draft_of forms) form) (draft_of (forms ++ form ∷ [])) (sym keys) (sym (last_of_keys (forms ++ form ∷ []) (keys_of forms) keys)) (sym (tape_more forms form ∙ append-nil (tape_of forms)))
    (sym (value_given Printer forms n h.1 refl)) (sym (value_stays Reader forms form refl)) (sym (value_stays Punch forms form refl)) (sym (value_stays Clock forms form refl)) (sym (value_stays Limit forms form refl))
draft_more forms (Sets Reader n) h =
    let form : Form = Sets Reader n in
    let keys : keys_of (forms ++ form ∷ []) ≡ keys_of forms = keys_more forms form ∙ append-nil (keys_of forms) in
    same_draft (with_form (draft_of forms) form) (draft_of (forms ++ form ∷ [])) (sym keys) (sym (last_of_keys (forms ++ form ∷ []) (keys_of forms) keys)) (sym (tape_more forms form ∙ append-nil (tape_of forms)))
    (sym (value_stays Printer forms form refl)) (sym (value_given Reader forms n h.1 refl)) (sym (value_stays Punch forms form refl)) (sym (value_stays Clock forms form refl)) (sym (value_stays Limit forms form refl))
draft_more forms (Sets Punch n) h =
    let form : Form = Sets Punch n in
    let keys : keys_of (forms ++ form ∷ []) ≡ keys_of forms = keys_more forms form ∙ append-nil (keys_of forms) in
    same_draft (with_form (draft_of forms) form) (draft_of (forms ++ form ∷ [])) (sym keys) (sym (last_of_keys (forms ++ form ∷ []) (keys_of forms) keys)) (sym (tape_more forms form ∙ append-nil (tape_of forms)))
    (sym (value_stays Printer forms form refl)) (sym (value_stays Reader forms form refl)) (sym (value_given Punch forms n h.1 refl)) (sym (value_stays Clock forms form refl)) (sym (value_stays Limit forms form refl))
draft_more forms (Sets Clock n) h =
    let form : Form = Sets Clock n in
    let keys : keys_of (forms ++ form ∷ []) ≡ keys_of forms = keys_more forms form ∙ append-nil (keys_of forms) in
    same_draft (with_form (draft_of forms) form) (draft_of (forms ++ form ∷ [])) (sym keys) (sym (last_of_keys (forms ++ form ∷ []) (keys_of forms) keys)) (sym (tape_more forms form ∙ append-nil (tape_of forms)))
    (sym (value_stays Printer forms form refl)) (sym (value_stays Reader forms form refl)) (sym (value_stays Punch forms form refl)) (sym (value_given Clock forms n h.1 refl)) (sym (value_stays Limit forms form refl))
draft_more forms (Sets Limit n) h =
    let form : Form = Sets Limit n in
    let keys : keys_of (forms ++ form ∷ []) ≡ keys_of forms = keys_more forms form ∙ append-nil (keys_of forms) in
    same_draft (with_form (draft_of forms) form) (draft_of (forms ++ form ∷ [])) (sym keys) (sym (last_of_keys (forms ++ form ∷ []) (keys_of forms) keys)) (sym (tape_more forms form ∙ append-nil (tape_of forms)))
    (sym (value_stays Printer forms form refl)) (sym (value_stays Reader forms form refl)) (sym (value_stays Punch forms form refl)) (sym (value_stays Clock forms form refl)) (sym (value_given Limit forms n h.1 refl))

-- What accepted lines say is a script.

keys_after : (time : ℕ) (keys : List Key) (key : Key) → AreAfter time keys → fold (λ t k. k.at) time keys < key.at → key.at ≤ 20000000 → AreAfter time (keys ++ key ∷ [])
keys_after time [] key h l m = (l, m, tt)
keys_after time (k ∷ keys) key h l m = (h.0, h.1, keys_after k.at keys key h.2 l m)

bytes_more : (xs ys : List ℕ) → AreBytes xs → AreBytes ys → AreBytes (xs ++ ys)
bytes_more [] ys h k = k
bytes_more (x ∷ xs) ys h k = (h.0, bytes_more xs ys h.1 k)

struck_more : (xs ys : List Key) → AreBytes (bytes_of xs) → AreBytes (bytes_of ys) → AreBytes (bytes_of (xs ++ ys))
struck_more [] ys h k = k
struck_more (x ∷ xs) ys h k = (h.0, struck_more xs ys h.1 k)

struck_in : (form : Form) → IsInRange form → AreBytes (bytes_of (key_in form))
struck_in (Strikes time byte) h = (h.1, tt)
struck_in (Tape bytes) h = tt
struck_in (Sets setting n) h = tt

punched_in : (form : Form) → IsInRange form → AreBytes (bytes_in form)
punched_in (Strikes time byte) h = tt
punched_in (Tape bytes) h = h
punched_in (Sets setting n) h = tt

-- values in their ranges
pub record IsSound (forms : List Form) : Type 0 where
  pub keys : AreAfter 0 (keys_of forms)
  pub bytes : AreBytes (bytes_of (keys_of forms))
  pub tape : AreBytes (tape_of forms)
  pub values : (setting : Setting) (n : ℕ) → value_of setting forms ≡ Some n → IsWithin (greatest_of setting) n

chosen_value : (setting other : Setting) (n m : ℕ) (o : Option ℕ) → cond (same_setting setting other) (Some n) o ≡ Some m → ((same_setting setting other ≡ true) × (n ≡ m)) ⊎ (o ≡ Some m)
chosen_value setting other n m o e = go (same_setting setting other) e
  where
    go : (b : Bool) → cond b (Some n) o ≡ Some m → ((b ≡ true) × (n ≡ m)) ⊎ (o ≡ Some m)
    go true e = inl (refl, cc)
    go false e = inr e

same_greatest : (setting other : Setting) → same_setting setting other ≡ true → greatest_of other ≡ greatest_of setting
same_greatest Printer Printer e = refl
same_greatest Reader Reader e = refl
same_greatest Punch Punch e = refl
same_greatest Clock Clock e = refl
same_greatest Limit Limit e = refl
same_greatest Printer Reader e = refl
same_greatest Printer Punch e = refl
same_greatest Reader Printer e = refl
same_greatest Reader Punch e = refl
same_greatest Punch Printer e = refl
same_greatest Punch Reader e = refl
same_greatest Clock Limit e = refl
same_greatest Limit Clock e = refl
same_greatest _ _ e = absurd (true≢false (sym e))

or_else_value : (x y : Option ℕ) (m : ℕ) → or_else x y ≡ Some m → (x ≡ Some m) ⊎ (y ≡ Some m)
or_else_value None y m e = inr e
or_else_value (Some n) y m e = inl e

value_in_range : (setting : Setting) (form : Form) (m : ℕ) → IsInRange form → value_in setting form ≡ Some m → IsWithin (greatest_of setting) m
value_in_range setting (Strikes time byte) m h e = absurd cc
value_in_range setting (Tape bytes) m h e = absurd cc
value_in_range setting (Sets other n) m h e =
    elim (chosen_value setting other n m None e) [
      | inl g ↦ subst (λ (k : ℕ). IsWithin (greatest_of setting) k) g.1 (subst (λ (k : ℕ). IsWithin k n) (same_greatest setting other g.0) h)
      | inr g ↦ absurd cc
    ]

keys_sound : (forms : List Form) (form : Form) → IsGood form forms → AreAfter 0 (keys_of forms) → AreAfter 0 (keys_of forms ++ key_in form)
keys_sound forms (Strikes time byte) g h = keys_after 0 (keys_of forms) (record { at = time; byte = byte }) h (greater (λ l. g.forward l)) g.in_range.0.1
  where
    greater : (time ≤ last_time forms → ⊥) → fold (λ t k. k.at) 0 (keys_of forms) < time
    greater n = omega arith
keys_sound forms (Tape bytes) g h = subst (λ (l : List Key). AreAfter 0 l) (sym (append-nil (keys_of forms))) h
keys_sound forms (Sets setting n) g h = subst (λ (l : List Key). AreAfter 0 l) (sym (append-nil (keys_of forms))) h

sound_more : (forms : List Form) (form : Form) → IsSound forms → IsGood form forms → IsSound (forms ++ form ∷ [])
sound_more forms form h g =
    record {
      keys = subst (λ (l : List Key). AreAfter 0 l) (sym (keys_more forms form)) (keys_sound forms form g h.keys);
      bytes = subst (λ (l : List Key). AreBytes (bytes_of l)) (sym (keys_more forms form)) (struck_more (keys_of forms) (key_in form) h.bytes (struck_in form g.in_range));
      tape = subst (λ (l : List ℕ). AreBytes l) (sym (tape_more forms form)) (bytes_more (tape_of forms) (bytes_in form) h.tape (punched_in form g.in_range));
      values = λ setting n e.
          elim (or_else_value (value_of setting forms) (value_in setting form) n (sym (value_more setting forms form) ∙ e)) [
            | inl v ↦ h.values setting n v
            | inr v ↦ value_in_range setting form n g.in_range v
          ];
    }

accepts_sound : (lines : List (List ℕ)) (before all : List Form) → Accepts before lines all → IsSound before → IsSound all
accepts_sound [] before all e h = subst (λ (l : List Form). IsSound l) (sym e) h
accepts_sound (line ∷ lines) before all (inl a) h = accepts_sound lines before all a.1 h
accepts_sound (line ∷ lines) before all (inr a) h = accepts_sound lines (before ++ a.0 ∷ []) all a.3 (sound_more before a.0 h a.2)

nothing_is_sound : IsSound []
nothing_is_sound = record { keys = tt; bytes = tt; tape = tt; values = λ setting n e. absurd cc }

within_or : (o : Option ℕ) (most usual : ℕ) → ((n : ℕ) → o ≡ Some n → IsWithin most n) → IsWithin most usual → IsWithin most (unwrap_or o usual)
within_or None most usual h u = u
within_or (Some n) most usual h u = h n refl

period : (o : Option ℕ) → ((n : ℕ) → o ≡ Some n → IsWithin 20000000 n) → IsPeriod o
period None h = tt
period (Some n) h = h n refl

pub Accepts-script : (lines : List (List ℕ)) (forms : List Form) → Accepts [] lines forms → IsScript (script_of forms)
Accepts-script lines forms a =
    let s : IsSound forms = accepts_sound lines [] forms a nothing_is_sound in
    record {
      keys = s.keys;
      bytes = s.bytes;
      tape = s.tape;
      printer = within_or (value_of Printer forms) 1000000 300 (s.values Printer) (omega arith, omega arith);
      reader = within_or (value_of Reader forms) 1000000 200 (s.values Reader) (omega arith, omega arith);
      punch = within_or (value_of Punch forms) 1000000 400 (s.values Punch) (omega arith, omega arith);
      clock = period (value_of Clock forms) (s.values Clock);
      limit = within_or (value_of Limit forms) 20000000 1000000 (s.values Limit) (omega arith, omega arith);
    }
