-- A script is read one line further.
use Rattle.std.proofs.Common.{Bor, true, ◌≡◌, ℕ, ◌+◌, ◌⊎◌, inl, inr, List, [], ◌∷◌, ◌++◌, take, drop, Option, Some, None, Result, Ok, Err, refl, sym, ◌∙◌, ap, subst, append_assoc, length-append}
use Rattle.std.specs.Option.{MatchOption, is_some}
use Rattle.std.specs.Result.{MatchResult, IfOk, IfErr, OnOk}
use Rattle.mc_script.specs.declared.fault.ScriptFault.{ScriptFault}
use Rattle.mc_script.specs.declared.fault.ScriptFault.TheVariants.{Memory}
use Rattle.mc_script.specs.Script.{ScriptState}
use Rattle.mc_script.specs.Lines.{lines_of, fields, fields_of}
use Rattle.mc_script.specs.Forms.{Form, IsForm, IsGood}
use Rattle.mc_script.specs.Texts.{Accepts, IsText, StandsIn, HasFirstFault}
use Rattle.mc_script.specs.TextLaws.{IsText-unique, HasFirstFault-unique, IsText-no_fault}
use Rattle.mc_script.specs.Drafts.{DraftState, draft_of, with_form, script_in, IsAllowed, IsFaultOf, allowed_is_good, fault_stands, draft_more}
use Rattle.mc_script.specs.Steps.{strip, HasNoFeed, IsRead, GoesOn, skips, takes, MayStand, IsRefusal}
use Rattle.mc_script.specs.LineLaws.{lines_of-more, lines_of-last}

-- Lines

Accepts-more : (done : List (List ℕ)) (line : List ℕ) (before mid after : List Form) → Accepts before done mid → GoesOn (fields_of line) mid after → Accepts before (done ++ line ∷ []) after
Accepts-more [] line before mid after h (skips e f) = inl (e, f ∙ h)
Accepts-more [] line before mid after h (takes form f g e) =
    inr (form, f, subst (λ (l : List Form). IsGood form l) h g, e ∙ ap (λ (l : List Form). l ++ form ∷ []) h)
Accepts-more (first ∷ done) line before mid after (inl h) g = inl (h.0, Accepts-more done line before mid after h.1 g)
Accepts-more (first ∷ done) line before mid after (inr h) g = inr (h.0, h.1, h.2, Accepts-more done line (before ++ h.0 ∷ []) mid after h.3 g)

-- nothing is read
pub nothing_read : (text : List ℕ) → IsRead 1 [] text text
nothing_read text = record { lines = []; parts = refl; counted = refl; accepts = refl }

-- the first line of what is left is `line`, and `left` are those behind it
further : (number : ℕ) (forms after : List Form) (rest next text line : List ℕ) → lines_of rest ≡ line ∷ lines_of next → IsRead number forms rest text → GoesOn (fields_of line) forms after → IsRead (number + 1) after next text
further number forms after rest next text line e r g =
    record {
      lines = r.lines ++ line ∷ [];
      parts = r.parts ∙ (ap (λ (l : List (List ℕ)). r.lines ++ l) e ∙ sym (append_assoc r.lines (line ∷ []) (lines_of next)));
      counted = ap (λ (n : ℕ). n + 1) (length-append r.lines (line ∷ []) ∙ r.counted);
      accepts = Accepts-more r.lines line [] forms after r.accepts g;
    }

pub line_read : (number n : ℕ) (forms after : List Form) (rest text : List ℕ) → HasNoFeed (take n rest) → rest ≡ take n rest ++ 10 ∷ drop (n + 1) rest → IsRead number forms rest text → GoesOn (fields_of (strip (take n rest))) forms after → IsRead (number + 1) after (drop (n + 1) rest) text
line_read number n forms after rest text h e r g =
    further number forms after rest (drop (n + 1) rest) text (strip (take n rest)) (ap lines_of e ∙ lines_of-more (take n rest) (drop (n + 1) rest) h) r g

-- Answers

-- a fault in the first line that is left
refused_at : (fault : ScriptFault) (number : ℕ) (forms : List Form) (rest text line : List ℕ) (left : List (List ℕ)) → lines_of rest ≡ line ∷ left → IsRead number forms rest text → MayStand fault number (fields_of line) forms → IsRefusal fault text
refused_at fault number forms rest text line left e r (inl m) = inl m
refused_at fault number forms rest text line left e r (inr s) =
    inr (record {
      accepted = r.lines;
      line = line;
      left = left;
      before = forms;
      parts = r.parts ∙ ap (λ (l : List (List ℕ)). r.lines ++ l) e;
      accepts = r.accepts;
      stands = subst (λ (n : ℕ). StandsIn fault n (fields_of line) forms) (sym r.counted) s;
    })

pub refused_line : (fault : ScriptFault) (number n : ℕ) (forms : List Form) (rest text : List ℕ) → HasNoFeed (take n rest) → rest ≡ take n rest ++ 10 ∷ drop (n + 1) rest → IsRead number forms rest text → MayStand fault number (fields_of (strip (take n rest))) forms → IsRefusal fault text
refused_line fault number n forms rest text h e r s =
    refused_at fault number forms rest text (strip (take n rest)) (lines_of (drop (n + 1) rest)) (ap lines_of e ∙ lines_of-more (take n rest) (drop (n + 1) rest) h) r s

pub refused_last : (fault : ScriptFault) (number : ℕ) (forms : List Form) (rest text : List ℕ) → HasNoFeed rest → IsRead number forms rest text → MayStand fault number (fields_of rest) forms → IsRefusal fault text
refused_last fault number forms rest text h r s = refused_at fault number forms rest text rest [] (lines_of-last rest h) r s

-- all lines are accepted
pub all_read : (number : ℕ) (forms after : List Form) (rest text : List ℕ) → HasNoFeed rest → IsRead number forms rest text → GoesOn (fields_of rest) forms after → Accepts [] (lines_of text) after
all_read number forms after rest text h r g =
    let parts : lines_of text ≡ r.lines ++ rest ∷ [] = r.parts ∙ ap (λ (l : List (List ℕ)). r.lines ++ l) (lines_of-last rest h) in
    subst (λ (l : List (List ℕ)). Accepts [] l after) (sym parts) (Accepts-more r.lines rest [] forms after r.accepts g)

pub text_read : (forms : List Form) (text : List ℕ) (script : ScriptState) (draft : DraftState) → Accepts [] (lines_of text) forms → draft ≡ draft_of forms → script ≡ script_in draft → IsText text script
text_read forms text script draft a d e = record { forms = forms; accepted = a; is = e ∙ ap script_in d }

-- One line

-- a field that is found is there
pub field_there : (found : Option (Bor (List ℕ) × Bor (List ℕ))) (line : List (List ℕ)) → is_some found ≡ true → MatchOption found (line ≡ []) (λ x. line ≡ x.0.now ∷ fields x.1.now) → line ≡ [] → ⊥
field_there None line e h n = absurd cc
field_there (Some x) line e h n =
    let both : x.0.now ∷ fields x.1.now ≡ [] = sym h ∙ n in
    absurd cc

pub line_added : (answer : Result (Unit {0}) ScriptFault) (line : List (List ℕ)) (form : Form) (forms : List Form) (old new : DraftState) → IsForm line form → old ≡ draft_of forms → OnOk answer (IsAllowed form old) → OnOk answer (new ≡ with_form old form)
    → OnOk answer ((after : List Form) × GoesOn line forms after × (new ≡ draft_of after))
line_added (Ok x) line form forms old new f d a w =
    let allowed : IsAllowed form (draft_of forms) = subst (λ (s : DraftState). IsAllowed form s) d a in
    (forms ++ form ∷ [], takes form f (allowed_is_good form forms allowed) refl, w ∙ (ap (λ (s : DraftState). with_form s form) d ∙ draft_more forms form allowed))
line_added (Err e) line form forms old new f d a w = tt

pub line_refused : (answer : Result (Unit {0}) ScriptFault) (number : ℕ) (line : List (List ℕ)) (form : Form) (forms : List Form) (old : DraftState) → IsForm line form → old ≡ draft_of forms → IfErr answer (λ fault. (fault ≡ Memory) ⊎ IsFaultOf fault number form old)
    → IfErr answer (λ fault. MayStand fault number line forms)
line_refused (Ok x) number line form forms old f d h = tt
line_refused (Err fault) number line form forms old f d h = go h
  where
    go : (fault ≡ Memory) ⊎ IsFaultOf fault number form old → MayStand fault number line forms
    go (inl m) = inl m
    go (inr k) = inr (fault_stands fault number form forms line f (subst (λ (s : DraftState). IsFaultOf fault number form s) d k))

pub accepted : (answer : Result ScriptState ScriptFault) (text : List ℕ) (script : ScriptState) → IfOk answer (λ s. IsText text s) → IfErr answer (λ f. IsRefusal f text) → IsText text script → MatchResult answer (λ s. s ≡ script) (λ f. f ≡ Memory)
accepted (Ok s) text script h g t = IsText-unique text s script h t
accepted (Err f) text script h g t = only g
  where
    only : IsRefusal f text → f ≡ Memory
    only (inl e) = e
    only (inr k) = absurd (IsText-no_fault text script f t k)

pub refused : (answer : Result ScriptState ScriptFault) (text : List ℕ) (fault : ScriptFault) → IfOk answer (λ s. IsText text s) → IfErr answer (λ f. IsRefusal f text) → HasFirstFault text fault → MatchResult answer (λ _. ⊥) (λ f. (f ≡ Memory) ⊎ (f ≡ fault))
refused (Ok s) text fault h g t = IsText-no_fault text s fault h t
refused (Err f) text fault h g t = only g
  where
    only : IsRefusal f text → (f ≡ Memory) ⊎ (f ≡ fault)
    only (inl e) = inl e
    only (inr k) = inr (HasFirstFault-unique text f fault k t)
