use Rattle.std.proofs.Common.{ℕ, List, ◌∷◌, ◌∙◌, refl, sym, subst, arith}
use Rattle.std.specs.Prelude.{map}
use Rattle.mc_tree.specs.declared.tree.Var.{Var}
use Rattle.pdp_dev.specs.declared.entry.Port.{Port}
use Rattle.mc_straight.specs.declared.form.Put.{Put}
use Rattle.mc_straight.specs.Form.{name_of, statements_of, AreOwn, ArePaired, IsPut, IsVariable}
use Rattle.mc_straight.proofs.Forced.{not_unequal}
use Rattle.mc_straight.proofs.Paired.{puts_forced, paired_lengths}
use Rattle.mc_straight.proofs.read.device_line.Goals as goal

pub returns-in_default-declared : goal.returns-in_default-declared
returns-in_default-declared c = λ form h. c.in_default-declared.ensures h.first h.more h.declares

pub puts-requires : goal.puts-requires
puts-requires c =
    let v = rw c.in-Some-2.is at c.in_ok-variables.ensures in
    omega (arith, paired_lengths IsVariable (c.in-Some-declared.first.now ∷ c.in-Some-declared.more.now) c.in-Some-2.variables.items v, c.deref.ensures.len, c.in-Some-2.variables.ok)

pub returns-in_default-3 : goal.returns-in_default-3
returns-in_default-3 c = λ form h.
    let vars : List Var = c.in-Some-declared.first.now ∷ c.in-Some-declared.more.now in
    let v = rw c.in-Some-2.is at c.in_ok-variables.ensures in
    let passed = subst (λ (l : List Port). ArePaired IsVariable vars l) (sym c.deref.ensures.value) v in
    let none = rw c.in_default-3.is at c.in_ok-puts.ensures in
    none form.puts (puts_forced c.args.program.now c.in-Some-declared.first.now c.in-Some-declared.more.now c.in-Some-declared.ensures form h c.deref.result.now c.in-Some-body.begun passed c.in-Some-body.is)

pub returns : goal.returns
returns c =
    let vars : List Var = c.in-Some-declared.first.now ∷ c.in-Some-declared.more.now in
    let puts : List Put = c.in-Some-3.puts.items in
    let v = rw c.in-Some-2.is at c.in_ok-variables.ensures in
    let p = rw c.in-Some-3.is at c.in_ok-puts.ensures in
    record {
      first = c.in-Some-declared.first.now;
      more = c.in-Some-declared.more.now;
      begun = c.in-Some-body.begun;
      priority = c.in-Some.ensures;
      declares = c.in-Some-declared.ensures;
      has_body = c.in-Some-body.is;
      variables = v;
      puts = subst (λ (l : List Port). ArePaired (IsPut vars l) (statements_of c.in-Some-body.begun.body) puts) c.deref.ensures.value p;
      ends = sym c.as_slice.ensures ∙ not_unequal c.as_slice.result.now c.as_slice-name.result.now c.if-ne.ensures ∙ c.as_slice-name.ensures;
      own = subst (λ (n : List ℕ). AreOwn (n ∷ map name_of vars)) c.as_slice-name.ensures (c.if-not-are_own.ensures.0 refl);
    }
