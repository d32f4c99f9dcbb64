use Rattle.mc_image.proofs.Reading.{accepted, refused}
use Rattle.mc_image.proofs.read.read_image.Goals as goal

pub returns-clause-accepts : goal.returns-clause-accepts
returns-clause-accepts c = λ image h. accepted c.read_blocks.result c.args.bytes.now image c.read_blocks.ensures.ok c.read_blocks.ensures.refused h

pub returns-clause-refuses : goal.returns-clause-refuses
returns-clause-refuses c = λ fault h. refused c.read_blocks.result c.args.bytes.now fault c.read_blocks.ensures.ok c.read_blocks.ensures.refused h
