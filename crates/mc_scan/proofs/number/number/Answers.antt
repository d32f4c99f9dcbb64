use Rattle.std.proofs.Common.{◌≡◌, ℕ, ◌<◌, ◌≤◌, take, min, refl, ◌∙◌, ap, arith}
use Rattle.mc_tree.specs.Spellings.{value_of, base_of, greatest_of}
use Rattle.mc_scan.specs.Numerals.{form_of}
use Rattle.mc_scan.proofs.Fronted.{number_taken, number_too_large, digits_of_front}
use Rattle.mc_scan.proofs.number.number.Goals as goal

pub value_of-value-requires-clause-digits : goal.value_of-value-requires-clause-digits
value_of-value-requires-clause-digits c = digits_of_front (form_of c.numeral-form.result.0) c.numeral-form.result.1 c.args.rest.now c.numeral-form.ensures

pub returns-then-value-greatest-clause-refused : goal.returns-then-value-greatest-clause-refused
returns-then-value-greatest-clause-refused c =
    let value : c.value_of-value.result ≡ min (value_of (base_of (form_of c.numeral-form.result.0)) (take c.numeral-form.result.1 c.args.rest.now)) 65536 =
    c.value_of-value.ensures ∙ ap (λ (b : ℕ). min (value_of b (take c.numeral-form.result.1 c.args.rest.now)) 65536) c.base.ensures in
    let past : greatest_of (form_of c.numeral-form.result.0) < c.value_of-value.result = omega (arith, c.greatest.ensures, c.if-value-greatest.true) in
    (refl, number_too_large (form_of c.numeral-form.result.0) c.numeral-form.result.1 c.args.rest.now c.value_of-value.result c.numeral-form.ensures value past)

pub returns-clause-ok : goal.returns-clause-ok
returns-clause-ok c =
    let value : c.value_of-value.result ≡ min (value_of (base_of (form_of c.numeral-form.result.0)) (take c.numeral-form.result.1 c.args.rest.now)) 65536 =
    c.value_of-value.ensures ∙ ap (λ (b : ℕ). min (value_of b (take c.numeral-form.result.1 c.args.rest.now)) 65536) c.base.ensures in
    let bounded : c.value_of-value.result ≤ greatest_of (form_of c.numeral-form.result.0) = omega (arith, c.greatest.ensures, c.if-value-greatest.false) in
    rw (c.kind_of.ensures, c.mark_length.ensures)
    (number_taken (form_of c.numeral-form.result.0) c.numeral-form.result.1 c.args.rest.now c.value_of-value.result c.numeral-form.ensures value bounded)
