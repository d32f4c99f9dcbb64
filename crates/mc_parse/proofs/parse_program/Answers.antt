use Rattle.mc_parse.specs.Parsed.{parsed, trailing, refused_so}
use Rattle.mc_parse.proofs.parse_program.Goals as goal

pub returns-in_err-program-clause-refused : goal.returns-in_err-program-clause-refused
returns-in_err-program-clause-refused c = refused_so c.args.end c.args.tokens.now c.from_residual.result c.in_err-program.field-0.0 c.from_residual.ensures.1 c.in_err-program.ensures.refused

pub returns-in-Some-clause-refused : goal.returns-in-Some-clause-refused
returns-in-Some-clause-refused c = trailing c.args.end c.args.tokens.now c.in_ok-program.program.rest.now c.in_ok-program.program.item c.in-Some.token.now c.in-Some.field-0-1.now c.in_ok-program.ensures.ok c.in-Some.ensures.cases.0

pub returns-in-None-clause-ok : goal.returns-in-None-clause-ok
returns-in-None-clause-ok c = parsed c.args.end c.args.tokens.now c.in_ok-program.program.rest.now c.in_ok-program.program.item c.in_ok-program.ensures.ok c.in-None.ensures.cases
