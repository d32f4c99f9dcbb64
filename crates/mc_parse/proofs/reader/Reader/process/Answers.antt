use Rattle.std.proofs.Common.{Option, ◌∙◌, refl, sym, ap, arith}
use Rattle.mc_parse.specs.Steps.{past, stops, one_rule, handed_on, read_same}
use Rattle.mc_parse.specs.Only.{process_by}
use Rattle.mc_tree.specs.Grammar.{OneProcess}
use Rattle.mc_tree.specs.declared.statement.Statement.TheViews.{roll-out-Body}
use Rattle.mc_tree.specs.declared.statement.Body.{Body}
use Rattle.mc_tree.specs.declared.tree.Params.{Params}
use Rattle.mc_tree.specs.declared.tree.Process.{Process}
use Rattle.mc_parse.proofs.reader.Reader.process.Goals as goal

pub returns-in_err-process-clause-refused : goal.returns-in_err-process-clause-refused
returns-in_err-process-clause-refused c = handed_on c.from_residual.result c.in_err-process.field-0.0 c.from_residual.ensures.1 (record {
  refuses = λ h stack. one_rule c.args.self.end OneProcess c.args.depth stack c.args.rest.now process_by refl (omega arith) ∙ stops c.in_err-process.ensures.refused h _ _;
})

pub returns-in_err-name-clause-refused : goal.returns-in_err-name-clause-refused
returns-in_err-name-clause-refused c = handed_on c.from_residual-in_err-name.result c.in_err-name.field-0.0 c.from_residual-in_err-name.ensures.1 (record {
  refuses = λ h stack. one_rule c.args.self.end OneProcess c.args.depth stack c.args.rest.now process_by refl (omega arith) ∙ past c.in_ok-process.ensures.ok _ _ ∙ stops c.in_err-name.ensures.refused h _ _;
})

pub returns-in_err-params-clause-refused : goal.returns-in_err-params-clause-refused
returns-in_err-params-clause-refused c = handed_on c.from_residual-in_err-params.result c.in_err-params.field-0.0 c.from_residual-in_err-params.ensures.1 (record {
  refuses = λ h stack. one_rule c.args.self.end OneProcess c.args.depth stack c.args.rest.now process_by refl (omega arith) ∙ past c.in_ok-process.ensures.ok _ _ ∙ past c.in_ok-name.ensures.ok _ _ ∙ stops c.in_err-params.ensures.refused h _ _;
})

pub returns-in_err-semicolon-clause-refused : goal.returns-in_err-semicolon-clause-refused
returns-in_err-semicolon-clause-refused c = handed_on c.from_residual-in_err-semicolon.result c.in_err-semicolon.field-0.0 c.from_residual-in_err-semicolon.ensures.1 (record {
  refuses = λ h stack. one_rule c.args.self.end OneProcess c.args.depth stack c.args.rest.now process_by refl (omega arith) ∙ past c.in_ok-process.ensures.ok _ _ ∙ past c.in_ok-name.ensures.ok _ _ ∙ past c.in_ok-params.ensures.ok _ _ ∙ stops c.in_err-semicolon.ensures.refused h _ _;
})

pub returns-in_err-local-clause-refused : goal.returns-in_err-local-clause-refused
returns-in_err-local-clause-refused c = handed_on c.from_residual-in_err-local.result c.in_err-local.field-0.0 c.from_residual-in_err-local.ensures.1 (record {
  refuses = λ h stack. one_rule c.args.self.end OneProcess c.args.depth stack c.args.rest.now process_by refl (omega arith) ∙ past c.in_ok-process.ensures.ok _ _ ∙ past c.in_ok-name.ensures.ok _ _ ∙ past c.in_ok-params.ensures.ok _ _ ∙ past c.in_ok-semicolon.ensures.ok _ _ ∙ stops c.in_err-local.ensures.refused h _ _;
})

pub returns-in_err-ending-clause-refused : goal.returns-in_err-ending-clause-refused
returns-in_err-ending-clause-refused c = handed_on c.from_residual-in_err-ending.result c.in_err-ending.field-0.0 c.from_residual-in_err-ending.ensures.1 (record {
  refuses = λ h stack. one_rule c.args.self.end OneProcess c.args.depth stack c.args.rest.now process_by refl (omega arith) ∙ past c.in_ok-process.ensures.ok _ _ ∙ past c.in_ok-name.ensures.ok _ _ ∙ past c.in_ok-params.ensures.ok _ _ ∙ past c.in_ok-semicolon.ensures.ok _ _ ∙ past c.in_ok-local.ensures.ok _ _ ∙ stops c.in_err-ending.ensures.refused h _ _;
})

pub returns-clause-shorter : goal.returns-clause-shorter
returns-clause-shorter c = omega (arith, c.in_ok-process.ensures.shorter, c.in_ok-name.ensures.shorter, c.in_ok-params.ensures.within, c.in_ok-semicolon.ensures.shorter, c.in_ok-local.ensures.shorter, c.in_ok-ending.ensures.shorter)

pub returns-clause-ok : goal.returns-clause-ok
returns-clause-ok c = read_same (ap (λ (z : Body). let p : Process = record { process = c.in_ok-process.process.item; name = c.in_ok-name.name.item; params = c.in_ok-params.params.item; semicolon = c.in_ok-semicolon.semicolon.item; local = record { declarations = c.in_ok-local.local.item.declarations; begin = c.in_ok-local.local.item.begin; body = z }; end = c.in_ok-ending.ending.item.end; end_name = c.in_ok-ending.ending.item.name; end_semicolon = c.in_ok-ending.ending.item.mark } in p) (roll-out-Body c.in_ok-local.local.item.body) ∙ ap (λ (o : Option Params). let p : Process = record { process = c.in_ok-process.process.item; name = c.in_ok-name.name.item; params = o; semicolon = c.in_ok-semicolon.semicolon.item; local = c.in_ok-local.local.item; end = c.in_ok-ending.ending.item.end; end_name = c.in_ok-ending.ending.item.name; end_semicolon = c.in_ok-ending.ending.item.mark } in p) (sym c.into_inner.ensures)) (record {
  reads = λ stack. one_rule c.args.self.end OneProcess c.args.depth stack c.args.rest.now process_by refl (omega arith) ∙ past c.in_ok-process.ensures.ok _ _ ∙ past c.in_ok-name.ensures.ok _ _ ∙ past c.in_ok-params.ensures.ok _ _ ∙ past c.in_ok-semicolon.ensures.ok _ _ ∙ past c.in_ok-local.ensures.ok _ _ ∙ past c.in_ok-ending.ensures.ok _ _;
})
