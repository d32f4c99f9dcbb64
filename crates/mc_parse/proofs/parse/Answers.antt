use Rattle.mc_parse.specs.Parsed.{tree_answered, fault_answered}
use Rattle.mc_parse.proofs.parse.Goals as goal

pub returns-clause-accepts : goal.returns-clause-accepts
returns-clause-accepts c = λ tree h. tree_answered c.args.end c.args.tokens.now c.parse_program.result c.parse_program.ensures.ok c.parse_program.ensures.refused tree h

pub returns-clause-refuses : goal.returns-clause-refuses
returns-clause-refuses c = λ wrong h. fault_answered c.args.end c.args.tokens.now c.parse_program.result c.parse_program.ensures.ok c.parse_program.ensures.refused wrong h
