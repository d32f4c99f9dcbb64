use Rattle.std.proofs.Common.{◌≡◌, List, ℕ, inr, refl, sym, ◌∙◌, ap, subst, None}
use Rattle.mc_script.specs.Lines.{fields, fields_of}
use Rattle.mc_script.specs.Forms.{IsForm}
use Rattle.mc_script.specs.Reading.{form_in, form_of}
use Rattle.mc_script.specs.FormLaws.{form_back, IsForm-none}
use Rattle.mc_script.proofs.Answering.{field_there, line_added, line_refused}
use Rattle.mc_script.proofs.read.read_line.Goals as goal

pub returns-then-is_some-clause-refused : goal.returns-then-is_some-clause-refused
returns-then-is_some-clause-refused c = λ forms d.
    let same : fields c.before_comment-line.result.now ≡ fields_of c.args.line.now = ap fields c.before_comment-line.ensures in
    let none : form_of (fields_of c.args.line.now) ≡ None = ap form_of (sym same) ∙ c.in-None.ensures in
    inr (refl, (λ e. field_there c.next_field.result (fields c.before_comment-line.result.now) (sym c.if-is_some.ensures) c.next_field.ensures.cases (same ∙ e)), IsForm-none (fields_of c.args.line.now) none)

pub returns-in-Some-clause-ok : goal.returns-in-Some-clause-ok
returns-in-Some-clause-ok c = λ forms d.
    let same : fields c.before_comment-line.result.now ≡ fields_of c.args.line.now = ap fields c.before_comment-line.ensures in
    let is_form : IsForm (fields_of c.args.line.now) (form_in c.in-Some.said) =
    subst (λ (l : List (List ℕ)). IsForm l (form_in c.in-Some.said)) same (form_back (fields c.before_comment-line.result.now) (form_in c.in-Some.said) c.in-Some.ensures) in
    line_added c.add.result (fields_of c.args.line.now) (form_in c.in-Some.said) forms c.args.draft.now c.add.new.draft is_form d c.add.ensures.allowed c.add.ensures.added

pub returns-in-Some-clause-refused : goal.returns-in-Some-clause-refused
returns-in-Some-clause-refused c = λ forms d.
    let same : fields c.before_comment-line.result.now ≡ fields_of c.args.line.now = ap fields c.before_comment-line.ensures in
    let is_form : IsForm (fields_of c.args.line.now) (form_in c.in-Some.said) =
    subst (λ (l : List (List ℕ)). IsForm l (form_in c.in-Some.said)) same (form_back (fields c.before_comment-line.result.now) (form_in c.in-Some.said) c.in-Some.ensures) in
    line_refused c.add.result c.args.number (fields_of c.args.line.now) (form_in c.in-Some.said) forms c.args.draft.now is_form d c.add.ensures.refused
