use Rattle.std.proofs.Common.{◌∙◌, sym, ap, arith}
use Rattle.mc_parse.specs.Steps.{past, stops, rule_first, handed_on, read_same}
use Rattle.mc_tree.specs.Grammar.{ConstDecl}
use Rattle.mc_tree.specs.declared.tree.Const.{Const}
use Rattle.mc_tree.specs.declared.tree.Decl.TheVariants as decl
use Rattle.mc_parse.proofs.reader.Reader.constants.Goals as goal

pub returns-in_err-word-clause-refused : goal.returns-in_err-word-clause-refused
returns-in_err-word-clause-refused c = handed_on c.from_residual.result c.in_err-word.field-0.0 c.from_residual.ensures.1 (record {
  refuses = λ h stack. rule_first c.args.self.end ConstDecl c.args.depth stack c.args.rest.now c.requires.first (omega arith) ∙ stops c.in_err-word.ensures.refused h _ _;
})

pub returns-in_err-first-clause-refused : goal.returns-in_err-first-clause-refused
returns-in_err-first-clause-refused c = handed_on c.from_residual-in_err-first.result c.in_err-first.field-0.0 c.from_residual-in_err-first.ensures.1 (record {
  refuses = λ h stack. rule_first c.args.self.end ConstDecl c.args.depth stack c.args.rest.now c.requires.first (omega arith) ∙ past c.in_ok-word.ensures.ok _ _ ∙ stops c.in_err-first.ensures.refused h _ _;
})

pub returns-in_err-more-clause-refused : goal.returns-in_err-more-clause-refused
returns-in_err-more-clause-refused c = handed_on c.from_residual-in_err-more.result c.in_err-more.field-0.0 c.from_residual-in_err-more.ensures.1 (record {
  refuses = λ h stack. rule_first c.args.self.end ConstDecl c.args.depth stack c.args.rest.now c.requires.first (omega arith) ∙ past c.in_ok-word.ensures.ok _ _ ∙ past c.in_ok-first.ensures.ok _ _ ∙ stops c.in_err-more.ensures.refused h _ _;
})

pub returns-clause-shorter : goal.returns-clause-shorter
returns-clause-shorter c = omega (arith, c.in_ok-word.ensures.shorter, c.in_ok-first.ensures.shorter, c.in_ok-more.ensures.within)

pub returns-clause-ok : goal.returns-clause-ok
returns-clause-ok c = read_same (ap (λ (z : Const). decl.Const c.in_ok-word.word.item z c.in_ok-more.more.item) (sym c.into_inner.ensures)) (record {
  reads = λ stack. rule_first c.args.self.end ConstDecl c.args.depth stack c.args.rest.now c.requires.first (omega arith) ∙ past c.in_ok-word.ensures.ok _ _ ∙ past c.in_ok-first.ensures.ok _ _ ∙ past c.in_ok-more.ensures.ok _ _;
})
