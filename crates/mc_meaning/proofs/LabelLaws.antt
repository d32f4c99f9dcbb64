-- The labels of a `case`.
use Rattle.std.specs.Prelude.{◌≡◌, ℕ, ◌+◌, List, ◌∷◌, Bool, Option, Some, None, drop, slice_get, if◌then◌else◌}
use Rattle.std.proofs.Common.{ap, ◌∙◌, refl, sym}
use Rattle.std.proofs.lemmas.Bool.{eq-eqb}
use Rattle.mc_prog.specs.Resolved.{Resolved}
use Rattle.mc_meaning.specs.declared.process.Item.{Item}
use Rattle.mc_meaning.specs.declared.process.Item.TheVariants.{Runs, Tries}
use Rattle.mc_meaning.specs.declared.store.Found.{Found}
use Rattle.mc_meaning.specs.declared.store.Found.TheVariants as found
use Rattle.mc_meaning.specs.Configuration.{Configuration, ProcessState}
use Rattle.mc_meaning.specs.Parts.{form_at, parts_at}
use Rattle.mc_meaning.specs.Steps.{goes_on, labels_of, try, try_label, word_in}

pub label-matches : (p : Resolved) (c new : Configuration) (n : ℕ) (q : ProcessState) (node k : ℕ) (rest more : List Item) (w label-word at body : ℕ) (label : Option (ℕ × ℕ))
    → label ≡ Some (at, body) → label-word ≡ word_in (form_at p at) → label-word ≡ w → more ≡ Runs body ∷ rest → new ≡ goes_on c n q q.found more
    → new ≡ try_label p c n q node k rest w q.found label
label-matches p c new n q node k rest more w label-word at body label some is same items step =
    step ∙ ap (λ (m : List Item). goes_on c n q q.found m) items
    ∙ sym (ap (λ (b : Bool). if b then goes_on c n q q.found (Runs body ∷ rest) else goes_on c n q (found.Value w ∷ q.found) (Tries node (k + 1) ∷ rest)) (eq-eqb (word_in (form_at p at)) w (sym is ∙ same)))
    ∙ sym (ap (λ (l : Option (ℕ × ℕ)). try_label p c n q node k rest w q.found l) some)

label-found : (p : Resolved) (c : Configuration) (n : ℕ) (r : ProcessState) (g f : List Found) (node k : ℕ) (rest : List Item) (w : ℕ) (label : Option (ℕ × ℕ))
    → try_label p c n (record r { found = g }) node k rest w f label ≡ try_label p c n r node k rest w f label
label-found p c n r g f node k rest w None = refl
label-found p c n r g f node k rest w (Some l) = refl

pub tried-next : (p : Resolved) (c new : Configuration) (n : ℕ) (q r : ProcessState) (node k : ℕ) (rest : List Item) (w : ℕ) (arms : List ℕ) (labels : List (ℕ × ℕ)) (label : Option (ℕ × ℕ))
    → q ≡ record r { found = found.Value w ∷ r.found } → arms ≡ drop 1 (parts_at p node) → labels ≡ labels_of p arms → label ≡ slice_get labels k
    → new ≡ try_label p c n r node k rest w r.found label → new ≡ try p c n q node k rest q.found
tried-next p c new n q r node k rest w arms labels label pop are all is step =
    step ∙ ap (λ (l : Option (ℕ × ℕ)). try_label p c n r node k rest w r.found l) (is ∙ ap (λ (ls : List (ℕ × ℕ)). slice_get ls k) (all ∙ ap (λ (them : List ℕ). labels_of p them) are))
    ∙ sym (label-found p c n r (found.Value w ∷ r.found) r.found node k rest w _)
    ∙ sym (ap (λ (s : ProcessState). try p c n s node k rest s.found) pop)
