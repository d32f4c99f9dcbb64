use Rattle.std.proofs.Common.{◌∷◌, ◌+◌, List, sym, subst, take, arith}
use Rattle.pdp_dev.specs.declared.entry.Port.{Port}
use Rattle.mc_straight.specs.Form.{ArePaired, IsVariable}
use Rattle.mc_straight.proofs.Paired.{none_first, none_behind, paired_next}
use Rattle.mc_straight.proofs.lists.variables.Goals as goal

pub returns-in-None : goal.returns-in-None
returns-in-None c = none_first IsVariable c.args.first.now c.args.more.now c.in-None.ensures

pub returns-in-None-port : goal.returns-in-None-port
returns-in-None-port c = none_behind IsVariable c.args.first.now c.args.more.now c.loop-var.var-index c.var-item.result c.var-item.result c.var-item.is (omega arith) c.in-None-port.ensures

pub loop-var-preserved : goal.loop-var-preserved
loop-var-preserved c =
    subst (λ (l : List Port). ArePaired IsVariable (c.args.first.now ∷ take (c.loop-var.var-index + 1) c.args.more.now) l) (sym c.in_ok-push-in-Some-port.ensures.items)
    (paired_next IsVariable c.args.first.now c.args.more.now c.loop-var.var-index c.var-item.result c.var-item.result c.loop-var.ports.items c.in-Some-port.port c.var-item.is (omega arith) c.loop-var.invariant c.in-Some-port.ensures)
