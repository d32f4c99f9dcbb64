use Rattle.std.proofs.Common.{[], refl, arith}
use Rattle.mc_edge.proofs.command_line.program.Goals as goal

-- want of memory is a status of all words
pub returns-in_default : goal.returns-in_default
returns-in_default g c = ([], (1, omega arith, refl))
