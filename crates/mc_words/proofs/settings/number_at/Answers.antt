use Rattle.std.proofs.Common.{◌≡◌, true, false, not, Option, Some, None, Ok, Err, refl, ap, sym, ◌∙◌}
use Rattle.std.specs.Prelude.{ℤ, is_some}
use Rattle.std.proofs.lemmas.Bool.{false≢true}
use Rattle.toml.proofs.Views.{table_get}
use Rattle.mc_words.specs.declared.setting_fault.SettingFault.TheVariants.{BadKind}
use Rattle.mc_words.specs.Settings.{number_of, an_integer}
use Rattle.mc_words.proofs.settings.number_at.Goals as goal

an_integer-some : (o : Option ℤ) → is_some o ≡ true → an_integer o ≡ Ok o
an_integer-some None h = absurd (false≢true h)
an_integer-some (Some z) h = refl

an_integer-none : (o : Option ℤ) → is_some o ≡ false → an_integer o ≡ Err BadKind
an_integer-none None h = refl
an_integer-none (Some z) h = absurd (false≢true (sym h))

pub returns-in_default-clause-ok : goal.returns-in_default-clause-ok
unfolding number_of
returns-in_default-clause-ok c =
    let found = table_get c.get.result c.args.key.now c.args.table.now.entries c.get.ensures.value in
    rw (← rw c.in_default.is at found) refl

pub returns-then-is_none-clause-refused : goal.returns-then-is_none-clause-refused
unfolding number_of
returns-then-is_none-clause-refused c =
    let found = table_get c.get.result c.args.key.now c.args.table.now.entries c.get.ensures.value in
    let none = c.is_none.ensures ∙ ap not c.if-is_none.true in
    rw (← rw c.in-Some.is at found) (ap an_integer (sym c.as_integer-number.ensures) ∙ an_integer-none c.as_integer-number.result none)

pub returns-clause-ok : goal.returns-clause-ok
unfolding number_of
returns-clause-ok c =
    let found = table_get c.get.result c.args.key.now c.args.table.now.entries c.get.ensures.value in
    let some = c.is_none.ensures ∙ ap not c.if-is_none.false in
    rw (← rw c.in-Some.is at found) (ap an_integer (sym c.as_integer-number.ensures) ∙ an_integer-some c.as_integer-number.result some)
