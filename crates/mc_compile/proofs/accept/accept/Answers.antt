use Rattle.mc_compile.proofs.Stages.{accepted_answered, fault_answered, size_answered}
use Rattle.mc_compile.proofs.accept.accept.Goals as goal

pub returns-clause-accepts : goal.returns-clause-accepts
returns-clause-accepts c = accepted_answered c.args.source.now c.accept_source.result c.accept_source.ensures.ok c.accept_source.ensures.refused

pub returns-clause-refuses : goal.returns-clause-refuses
returns-clause-refuses c = fault_answered c.args.source.now c.accept_source.result c.accept_source.ensures.ok c.accept_source.ensures.refused

pub returns-clause-is_too_large : goal.returns-clause-is_too_large
returns-clause-is_too_large c = size_answered c.args.source.now c.accept_source.result c.accept_source.ensures.ok c.accept_source.ensures.refused
