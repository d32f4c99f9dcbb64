-- A text has at most one script or one first fault, and not both, and what its forms say is a script.
use Rattle.std.specs.Prelude.{◌≡◌, ◌≢◌, ℕ, ◌+◌, List, [], ◌∷◌, ◌++◌, length}
use Rattle.std.proofs.Common.{sym, ◌∙◌, ap, subst, inl, inr, arith}
use Rattle.mc_script.specs.declared.fault.ScriptFault.{ScriptFault}
use Rattle.mc_script.specs.declared.fault.ScriptFault.TheVariants.{BadLine, OutOfRange, Twice, Backwards, Memory}
use Rattle.mc_script.specs.Script.{ScriptState}
use Rattle.mc_script.specs.Lines.{lines_of, fields_of}
use Rattle.mc_script.specs.Forms.{Form, IsForm, IsInRange, script_of, Repeats, GoesBack, IsGood}
use Rattle.mc_script.specs.Texts.{Accepts, IsText, StandsIn, HasFirstFault}
use Rattle.mc_script.specs.FormLaws.{IsForm-unique, IsForm-nothing}

-- a line without fields has no form
skipped_has_none : (line : List (List ℕ)) (form : Form) → line ≡ [] → IsForm line form → ⊥
skipped_has_none line form e h = IsForm-nothing form (subst (λ (l : List (List ℕ)). IsForm l form) e h)

-- Accepted lines have one list of forms.
pub Accepts-unique : (lines : List (List ℕ)) (before all other : List Form) → Accepts before lines all → Accepts before lines other → all ≡ other
Accepts-unique [] before all other h g = h ∙ sym g
Accepts-unique (line ∷ lines) before all other (inl h) (inl g) = Accepts-unique lines before all other h.1 g.1
Accepts-unique (line ∷ lines) before all other (inl h) (inr g) = absurd (skipped_has_none (fields_of line) g.0 h.0 g.1)
Accepts-unique (line ∷ lines) before all other (inr h) (inl g) = absurd (skipped_has_none (fields_of line) h.0 g.0 h.1)
Accepts-unique (line ∷ lines) before all other (inr h) (inr g) =
    let same : g.0 ≡ h.0 = IsForm-unique (fields_of line) g.0 h.0 g.1 h.1 in
    Accepts-unique lines (before ++ h.0 ∷ []) all other h.3 (subst (λ (f : Form). Accepts (before ++ f ∷ []) lines other) same g.3)

-- A line in which a fault stands is not accepted.
never_skipped : (fault : ScriptFault) (number : ℕ) (line : List (List ℕ)) (before : List Form) → StandsIn fault number line before → line ≢ []
never_skipped (BadLine n) number line before h = h.1
never_skipped (OutOfRange n) number line before h = λ e. skipped_has_none line h.1 e h.2
never_skipped (Twice n) number line before h = λ e. skipped_has_none line h.1 e h.2
never_skipped (Backwards n) number line before h = λ e. skipped_has_none line h.1 e h.2
never_skipped Memory number line before h = absurd h

never_good : (fault : ScriptFault) (number : ℕ) (line : List (List ℕ)) (before : List Form) (form : Form) → StandsIn fault number line before → IsForm line form → IsGood form before → ⊥
never_good (BadLine n) number line before form h f g = h.2 form f
never_good (OutOfRange n) number line before form h f g = h.3 (subst (λ (x : Form). IsInRange x) (IsForm-unique line form h.1 f h.2) g.in_range)
never_good (Twice n) number line before form h f g = g.once (subst (λ (x : Form). Repeats x before) (IsForm-unique line h.1 form h.2 f) h.4)
never_good (Backwards n) number line before form h f g = g.forward (subst (λ (x : Form). GoesBack x before) (IsForm-unique line h.1 form h.2 f) h.5)
never_good Memory number line before form h f g = h

refused_line : (fault : ScriptFault) (number : ℕ) (line : List ℕ) (lines : List (List ℕ)) (before all : List Form) → StandsIn fault number (fields_of line) before → Accepts before (line ∷ lines) all → ⊥
refused_line fault number line lines before all h (inl g) = never_skipped fault number (fields_of line) before h g.0
refused_line fault number line lines before all h (inr g) = never_good fault number (fields_of line) before g.0 h g.1 g.2

-- Lines with a fault among them are not accepted.
never_accepted : (done : List (List ℕ)) (line : List ℕ) (left : List (List ℕ)) (fault : ScriptFault) (number : ℕ) (before mid all : List Form) → Accepts before done mid → StandsIn fault number (fields_of line) mid → Accepts before (done ++ line ∷ left) all → ⊥
never_accepted [] line left fault number before mid all h s g =
    refused_line fault number line left before all (subst (λ (l : List Form). StandsIn fault number (fields_of line) l) h s) g
never_accepted (first ∷ done) line left fault number before mid all (inl h) s (inl g) = never_accepted done line left fault number before mid all h.1 s g.1
never_accepted (first ∷ done) line left fault number before mid all (inl h) s (inr g) = skipped_has_none (fields_of first) g.0 h.0 g.1
never_accepted (first ∷ done) line left fault number before mid all (inr h) s (inl g) = skipped_has_none (fields_of first) h.0 g.0 h.1
never_accepted (first ∷ done) line left fault number before mid all (inr h) s (inr g) =
    let same : g.0 ≡ h.0 = IsForm-unique (fields_of first) g.0 h.0 g.1 h.1 in
    never_accepted done line left fault number (before ++ h.0 ∷ []) mid all h.3 s (subst (λ (f : Form). Accepts (before ++ f ∷ []) (done ++ line ∷ left) all) same g.3)

-- one fault at most stands in a line
stands_unique : (fault other : ScriptFault) (number : ℕ) (line : List (List ℕ)) (before : List Form) → StandsIn fault number line before → StandsIn other number line before → fault ≡ other
stands_unique (BadLine n) (BadLine m) number line before h g = ap (λ (k : ℕ). BadLine k) (h.0 ∙ sym g.0)
stands_unique (BadLine n) (OutOfRange m) number line before h g = absurd (h.2 g.1 g.2)
stands_unique (BadLine n) (Twice m) number line before h g = absurd (h.2 g.1 g.2)
stands_unique (BadLine n) (Backwards m) number line before h g = absurd (h.2 g.1 g.2)
stands_unique (BadLine n) Memory number line before h g = absurd g
stands_unique (OutOfRange n) (BadLine m) number line before h g = absurd (g.2 h.1 h.2)
stands_unique (OutOfRange n) (OutOfRange m) number line before h g = ap (λ (k : ℕ). OutOfRange k) (h.0 ∙ sym g.0)
stands_unique (OutOfRange n) (Twice m) number line before h g = absurd (h.3 (subst (λ (f : Form). IsInRange f) (IsForm-unique line g.1 h.1 g.2 h.2) g.3))
stands_unique (OutOfRange n) (Backwards m) number line before h g = absurd (h.3 (subst (λ (f : Form). IsInRange f) (IsForm-unique line g.1 h.1 g.2 h.2) g.3))
stands_unique (OutOfRange n) Memory number line before h g = absurd g
stands_unique (Twice n) (BadLine m) number line before h g = absurd (g.2 h.1 h.2)
stands_unique (Twice n) (OutOfRange m) number line before h g = absurd (g.3 (subst (λ (f : Form). IsInRange f) (IsForm-unique line h.1 g.1 h.2 g.2) h.3))
stands_unique (Twice n) (Twice m) number line before h g = ap (λ (k : ℕ). Twice k) (h.0 ∙ sym g.0)
stands_unique (Twice n) (Backwards m) number line before h g = absurd (g.4 (subst (λ (f : Form). Repeats f before) (IsForm-unique line h.1 g.1 h.2 g.2) h.4))
stands_unique (Twice n) Memory number line before h g = absurd g
stands_unique (Backwards n) (BadLine m) number line before h g = absurd (g.2 h.1 h.2)
stands_unique (Backwards n) (OutOfRange m) number line before h g = absurd (g.3 (subst (λ (f : Form). IsInRange f) (IsForm-unique line h.1 g.1 h.2 g.2) h.3))
stands_unique (Backwards n) (Twice m) number line before h g = absurd (h.4 (subst (λ (f : Form). Repeats f before) (IsForm-unique line g.1 h.1 g.2 h.2) g.4))
stands_unique (Backwards n) (Backwards m) number line before h g = ap (λ (k : ℕ). Backwards k) (h.0 ∙ sym g.0)
stands_unique (Backwards n) Memory number line before h g = absurd g
stands_unique Memory other number line before h g = absurd h

-- the first faults of the same lines are one
same_fault : (done others : List (List ℕ)) (line another : List ℕ) (left after : List (List ℕ)) (fault other : ScriptFault) (count : ℕ) (before mid end : List Form)
    → done ++ line ∷ left ≡ others ++ another ∷ after → Accepts before done mid → StandsIn fault (count + length done) (fields_of line) mid → Accepts before others end → StandsIn other (count + length others) (fields_of another) end → fault ≡ other
same_fault [] [] line another left after fault other count before mid end e h s g t =
    let same : line ≡ another = cc in
    let forms : mid ≡ end = h ∙ sym g in
    let moved : StandsIn fault (count + 0) (fields_of another) end =
    subst (λ (l : List ℕ). StandsIn fault (count + 0) (fields_of l) end) same (subst (λ (f : List Form). StandsIn fault (count + 0) (fields_of line) f) forms s) in
    stands_unique fault other (count + 0) (fields_of another) end moved t
same_fault [] (second ∷ others) line another left after fault other count before mid end e h s g t =
    let same : second ≡ line = cc in
    absurd (refused_line fault (count + 0) line others before end (subst (λ (f : List Form). StandsIn fault (count + 0) (fields_of line) f) h s)
    (subst (λ (l : List ℕ). Accepts before (l ∷ others) end) same g))
same_fault (first ∷ done) [] line another left after fault other count before mid end e h s g t =
    let same : first ≡ another = cc in
    absurd (refused_line other (count + 0) another done before mid (subst (λ (f : List Form). StandsIn other (count + 0) (fields_of another) f) g t)
    (subst (λ (l : List ℕ). Accepts before (l ∷ done) mid) same h))
same_fault (first ∷ done) (second ∷ others) line another left after fault other count before mid end e h s g t =
    let same : second ≡ first = cc in
    let rest : done ++ line ∷ left ≡ others ++ another ∷ after = cc in
    let number : count + length (first ∷ done) ≡ count + 1 + length done = omega arith in
    let another_number : count + length (second ∷ others) ≡ count + 1 + length others = omega arith in
    let s_next : StandsIn fault (count + 1 + length done) (fields_of line) mid = subst (λ (n : ℕ). StandsIn fault n (fields_of line) mid) number s in
    let t_next : StandsIn other (count + 1 + length others) (fields_of another) end = subst (λ (n : ℕ). StandsIn other n (fields_of another) end) another_number t in
    let g_same : Accepts before (first ∷ others) end = subst (λ (l : List ℕ). Accepts before (l ∷ others) end) same g in
    both h g_same (λ x y. same_fault done others line another left after fault other (count + 1) before mid end rest x s_next y t_next)
    (λ f x y. same_fault done others line another left after fault other (count + 1) (before ++ f ∷ []) mid end rest x s_next y t_next)
  where
    both : Accepts before (first ∷ done) mid → Accepts before (first ∷ others) end → (Accepts before done mid → Accepts before others end → fault ≡ other)
        → ((f : Form) → Accepts (before ++ f ∷ []) done mid → Accepts (before ++ f ∷ []) others end → fault ≡ other) → fault ≡ other
    both (inl x) (inl y) skip take = skip x.1 y.1
    both (inl x) (inr y) skip take = absurd (skipped_has_none (fields_of first) y.0 x.0 y.1)
    both (inr x) (inl y) skip take = absurd (skipped_has_none (fields_of first) x.0 y.0 x.1)
    both (inr x) (inr y) skip take =
        let form : y.0 ≡ x.0 = IsForm-unique (fields_of first) y.0 x.0 y.1 x.1 in
        take x.0 x.3 (subst (λ (f : Form). Accepts (before ++ f ∷ []) others end) form y.3)

-- Laws

-- A text is at most one script.
pub IsText-unique : (text : List ℕ) (script other : ScriptState) → IsText text script → IsText text other → script ≡ other
IsText-unique text script other h g =
    h.is ∙ (ap (λ (l : List Form). script_of l) (Accepts-unique (lines_of text) [] h.forms g.forms h.accepted g.accepted) ∙ sym g.is)

-- A text has at most one first fault.
pub HasFirstFault-unique : (text : List ℕ) (fault other : ScriptFault) → HasFirstFault text fault → HasFirstFault text other → fault ≡ other
HasFirstFault-unique text fault other h g =
    let swap : length h.accepted + 1 ≡ 1 + length h.accepted = omega arith in
    let turn : length g.accepted + 1 ≡ 1 + length g.accepted = omega arith in
    same_fault h.accepted g.accepted h.line g.line h.left g.left fault other 1 [] h.before g.before (sym h.parts ∙ g.parts) h.accepts
    (subst (λ (n : ℕ). StandsIn fault n (fields_of h.line) h.before) swap h.stands) g.accepts (subst (λ (n : ℕ). StandsIn other n (fields_of g.line) g.before) turn g.stands)

-- A script's text has no fault.
pub IsText-no_fault : (text : List ℕ) (script : ScriptState) (fault : ScriptFault) → IsText text script → HasFirstFault text fault → ⊥
IsText-no_fault text script fault h g =
    never_accepted g.accepted g.line g.left fault (length g.accepted + 1) [] g.before h.forms g.accepts g.stands
    (subst (λ (l : List (List ℕ)). Accepts [] l h.forms) g.parts h.accepted)
