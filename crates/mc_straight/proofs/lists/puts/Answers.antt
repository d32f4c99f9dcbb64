use Rattle.std.proofs.Common.{◌∷◌, ◌+◌, List, sym, subst, take}
use Rattle.std.specs.Prelude.{map}
use Rattle.mc_tree.specs.declared.statement.Statement.{Statement}
use Rattle.mc_tree.specs.declared.statement.Statement.TheViews.{out-Body}
use Rattle.mc_straight.specs.declared.form.Put.{Put}
use Rattle.mc_straight.specs.Form.{ArePaired, IsPut}
use Rattle.mc_straight.proofs.Paired.{none_first, no_puts, puts_next}
use Rattle.mc_straight.proofs.lists.puts.Goals as goal

pub returns-in-None : goal.returns-in-None
returns-in-None c =
    none_first (IsPut (c.args.first.now ∷ c.args.more.now) c.args.variables.now) (out-Body c.args.body.now).first (map (λ a. a.item) (out-Body c.args.body.now).more)
    (subst (λ (s : Statement). (p : Put) → IsPut (c.args.first.now ∷ c.args.more.now) c.args.variables.now s p → ⊥) c.get.ensures (λ p. c.in-None.ensures p))

pub returns-in-None-put : goal.returns-in-None-put
returns-in-None-put c =
    no_puts (c.args.first.now ∷ c.args.more.now) c.args.variables.now (out-Body c.args.body.now).first (out-Body c.args.body.now).more c.as_slice-statement-items.result.now c.loop-statement.statement-index c.statement-item.result
    c.as_slice-statement-items.ensures c.statement-item.is c.loop-statement-test.true (λ p. c.in-None-put.ensures p)

pub loop-statement-preserved : goal.loop-statement-preserved
loop-statement-preserved c =
    subst (λ (l : List Put). ArePaired (IsPut (c.args.first.now ∷ c.args.more.now) c.args.variables.now) ((out-Body c.args.body.now).first ∷ map (λ a. a.item) (take (c.loop-statement.statement-index + 1) (out-Body c.args.body.now).more)) l) (sym c.in_ok-push-in-Some-put.ensures.items)
    (puts_next (c.args.first.now ∷ c.args.more.now) c.args.variables.now (out-Body c.args.body.now).first (out-Body c.args.body.now).more c.as_slice-statement-items.result.now c.loop-statement.statement-index c.statement-item.result c.loop-statement.puts.items c.in-Some-put.put
    c.as_slice-statement-items.ensures c.statement-item.is c.loop-statement-test.true c.loop-statement.invariant (c.in-Some-put.ensures))
