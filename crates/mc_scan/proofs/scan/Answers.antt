use Rattle.mc_scan.proofs.Reading.{accepted, refused}
use Rattle.mc_scan.proofs.scan.Goals as goal

pub returns-clause-accepts : goal.returns-clause-accepts
returns-clause-accepts c = λ tokens end h. accepted c.scan_tokens.result tokens end c.args.source.now c.scan_tokens.ensures.ok c.scan_tokens.ensures.refused h

pub returns-clause-refuses : goal.returns-clause-refuses
returns-clause-refuses c = λ code place h. refused c.scan_tokens.result code place c.args.source.now c.scan_tokens.ensures.ok c.scan_tokens.ensures.refused h
