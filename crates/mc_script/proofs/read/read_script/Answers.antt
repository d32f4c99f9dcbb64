use Rattle.mc_script.proofs.Answering.{accepted, refused}
use Rattle.mc_script.proofs.read.read_script.Goals as goal

pub returns-clause-accepts : goal.returns-clause-accepts
returns-clause-accepts c = λ script h. accepted c.read_lines.result c.args.text.now script c.read_lines.ensures.ok c.read_lines.ensures.refused h

pub returns-clause-refuses : goal.returns-clause-refuses
returns-clause-refuses c = λ fault h. refused c.read_lines.result c.args.text.now fault c.read_lines.ensures.ok c.read_lines.ensures.refused h
