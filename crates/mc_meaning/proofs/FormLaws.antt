-- What is done with a form that is no constant, and with one that names nothing by itself.
use Rattle.std.specs.Prelude.{◌≡◌, ℕ, List}
use Rattle.std.proofs.Common.{ap, ◌∙◌, refl}
use Rattle.mc_prog.specs.declared.program.Form.{Form}
use Rattle.mc_prog.specs.declared.program.Form.TheVariants as form
use Rattle.mc_prog.specs.Resolved.{Resolved}
use Rattle.mc_word.specs.declared.bytes.Text.{Text}
use Rattle.mc_meaning.specs.declared.process.Item.{Item}
use Rattle.mc_meaning.specs.Configuration.{Configuration, ProcessState}
use Rattle.mc_meaning.specs.Parts.{named_parts, value_parts}
use Rattle.mc_meaning.specs.Steps.{evaluate, name, replaced}

no-constant : (p : Resolved) (c : Configuration) (n : ℕ) (q : ProcessState) (node : ℕ) (rest : List Item) (f : Form) → ((w : ℕ) → f ≡ form.Constant w → ⊥)
    → replaced c n q (value_parts p node f) rest ≡ evaluate p c n q node rest f
no-constant p c n q node rest (form.Constant w) not = absurd (not w refl)
no-constant p c n q node rest other not = refl

pub evaluated-by-parts : (p : Resolved) (c new : Configuration) (n : ℕ) (q : ProcessState) (node : ℕ) (rest : List Item) (f g : Form) → f ≡ g → ((w : ℕ) → f ≡ form.Constant w → ⊥)
    → new ≡ replaced c n q (value_parts p node f) rest → new ≡ evaluate p c n q node rest g
evaluated-by-parts p c new n q node rest f g e not step = step ∙ no-constant p c n q node rest f not ∙ ap (λ (h : Form). evaluate p c n q node rest h) e

no-name : (p : Resolved) (c : Configuration) (n : ℕ) (q : ProcessState) (node : ℕ) (rest : List Item) (f : Form)
    → ((t : Text) → f ≡ form.Literal t → ⊥) → ((k : ℕ) → f ≡ form.Cell k → ⊥) → ((k : ℕ) → f ≡ form.Slot k → ⊥)
    → replaced c n q (named_parts p node f) rest ≡ name p c n q node rest f
no-name p c n q node rest (form.Literal t) not_text not_cell not_slot = absurd (not_text t refl)
no-name p c n q node rest (form.Cell k) not_text not_cell not_slot = absurd (not_cell k refl)
no-name p c n q node rest (form.Slot k) not_text not_cell not_slot = absurd (not_slot k refl)
no-name p c n q node rest other not_text not_cell not_slot = refl

pub named-by-parts : (p : Resolved) (c new : Configuration) (n : ℕ) (q : ProcessState) (node : ℕ) (rest : List Item) (f g : Form) → f ≡ g
    → ((t : Text) → f ≡ form.Literal t → ⊥) → ((k : ℕ) → f ≡ form.Cell k → ⊥) → ((k : ℕ) → f ≡ form.Slot k → ⊥)
    → new ≡ replaced c n q (named_parts p node f) rest → new ≡ name p c n q node rest g
named-by-parts p c new n q node rest f g e not_text not_cell not_slot step = step ∙ no-name p c n q node rest f not_text not_cell not_slot ∙ ap (λ (h : Form). name p c n q node rest h) e
