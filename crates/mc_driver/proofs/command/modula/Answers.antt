use Rattle.std.proofs.Common.{map}
use Rattle.std.specs.Prelude.{string_bytes}
use Rattle.mc_words.specs.Commands.{command_of}
use Rattle.mc_driver.proofs.Statuses.{ends_status}
use Rattle.mc_driver.proofs.command.modula.Goals as goal

pub returns-clause-status : goal.returns-clause-status
returns-clause-status g c =
    ends_status (command_of (map string_bytes c.args.words.now)) _ _ _ c.answer.ensures
