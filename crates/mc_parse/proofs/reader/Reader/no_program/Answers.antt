use Rattle.std.proofs.Common.{refl, sym}
use Rattle.mc_parse.specs.Steps.{refused}
use Rattle.mc_parse.specs.Reads.{IsRefused}
use Rattle.mc_parse.specs.Begins.{no_program}
use Rattle.mc_tree.specs.Grammar.{ProgramPhrase}
use Rattle.std.proofs.Common.{subst}
use Rattle.mc_parse.specs.declared.fault.ParseFault.{ParseFault}
use Rattle.mc_parse.proofs.reader.Reader.no_program.Goals as goal

pub returns : goal.returns
returns c = subst (λ (fault : ParseFault). IsRefused c.args.self.end c.args._depth ProgramPhrase c.args.rest.now fault) (sym c.unexpected.ensures) (refused c.args.self.end ProgramPhrase c.args._depth c.args.rest.now (no_program c.args.rest.now c.requires.plain c.requires.device) refl)
