use Rattle.std.proofs.Common.{◌∙◌, refl, sym, ap, arith}
use Rattle.mc_parse.specs.Steps.{past, stops, one_rule, handed_on, read_same}
use Rattle.mc_parse.specs.Only.{const_by}
use Rattle.mc_tree.specs.Grammar.{OneConst}
use Rattle.mc_tree.specs.declared.expression.Expr.{Expr}
use Rattle.mc_tree.specs.declared.tree.Const.{Const}
use Rattle.mc_parse.proofs.reader.Reader.constant.Goals as goal

pub returns-in_err-name-clause-refused : goal.returns-in_err-name-clause-refused
returns-in_err-name-clause-refused c = handed_on c.from_residual.result c.in_err-name.field-0.0 c.from_residual.ensures.1 (record {
  refuses = λ h stack. one_rule c.args.self.end OneConst c.args.depth stack c.args.rest.now const_by refl (omega arith) ∙ stops c.in_err-name.ensures.refused h _ _;
})

pub returns-in_err-equal-clause-refused : goal.returns-in_err-equal-clause-refused
returns-in_err-equal-clause-refused c = handed_on c.from_residual-in_err-equal.result c.in_err-equal.field-0.0 c.from_residual-in_err-equal.ensures.1 (record {
  refuses = λ h stack. one_rule c.args.self.end OneConst c.args.depth stack c.args.rest.now const_by refl (omega arith) ∙ past c.in_ok-name.ensures.ok _ _ ∙ stops c.in_err-equal.ensures.refused h _ _;
})

pub returns-in_err-value-clause-refused : goal.returns-in_err-value-clause-refused
returns-in_err-value-clause-refused c = handed_on c.from_residual-in_err-value.result c.in_err-value.field-0.0 c.from_residual-in_err-value.ensures.1 (record {
  refuses = λ h stack. one_rule c.args.self.end OneConst c.args.depth stack c.args.rest.now const_by refl (omega arith) ∙ past c.in_ok-name.ensures.ok _ _ ∙ past c.in_ok-equal.ensures.ok _ _ ∙ stops c.in_err-value.ensures.refused h _ _;
})

pub returns-in_err-semicolon-clause-refused : goal.returns-in_err-semicolon-clause-refused
returns-in_err-semicolon-clause-refused c = handed_on c.from_residual-in_err-semicolon.result c.in_err-semicolon.field-0.0 c.from_residual-in_err-semicolon.ensures.1 (record {
  refuses = λ h stack. one_rule c.args.self.end OneConst c.args.depth stack c.args.rest.now const_by refl (omega arith) ∙ past c.in_ok-name.ensures.ok _ _ ∙ past c.in_ok-equal.ensures.ok _ _ ∙ past c.in_ok-value.ensures.ok _ _ ∙ stops c.in_err-semicolon.ensures.refused h _ _;
})

pub returns-clause-shorter : goal.returns-clause-shorter
returns-clause-shorter c = omega (arith, c.in_ok-name.ensures.shorter, c.in_ok-equal.ensures.shorter, c.in_ok-value.ensures.shorter, c.in_ok-semicolon.ensures.shorter)

pub returns-clause-ok : goal.returns-clause-ok
returns-clause-ok c = read_same (ap (λ (z : Expr). let k : Const = record { name = c.in_ok-name.name.item; equal = c.in_ok-equal.equal.item; value = z; semicolon = c.in_ok-semicolon.semicolon.item } in k) (sym c.into_inner.ensures)) (record {
  reads = λ stack. one_rule c.args.self.end OneConst c.args.depth stack c.args.rest.now const_by refl (omega arith) ∙ past c.in_ok-name.ensures.ok _ _ ∙ past c.in_ok-equal.ensures.ok _ _ ∙ past c.in_ok-value.ensures.ok _ _ ∙ past c.in_ok-semicolon.ensures.ok _ _;
})
