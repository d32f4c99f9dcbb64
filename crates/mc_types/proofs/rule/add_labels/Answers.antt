use Rattle.std.proofs.Common.{◌++◌, List, map, ap, sym, ◌∙◌, arith}
use Rattle.std.proofs.lemmas.List.{append-nil}
use Rattle.mc_prog.specs.Known.{typed_at}
use Rattle.mc_types.proofs.LabelLaws.{short}
use Rattle.mc_types.proofs.rule.add_labels.Goals as goal

-- src/rule.rt: no label is left
pub returns : goal.returns
returns c =
    sym (append-nil c.loop-left.labels.items)
    ∙ ap (λ (left : List _). c.loop-left.labels.items ++ map (typed_at c.args.typed.now) left) (sym (short c.loop-left.left.now (omega (arith, c.in_default.len_below))))
    ∙ c.loop-left.invariant
