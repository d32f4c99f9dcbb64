use Rattle.std.proofs.Common.{refl, sym}
use Rattle.mc_parse.specs.Steps.{refused}
use Rattle.mc_parse.specs.Reads.{IsRefused}
use Rattle.mc_parse.specs.Begins.{no_decl}
use Rattle.mc_tree.specs.Grammar.{DeclPhrase}
use Rattle.std.proofs.Common.{subst}
use Rattle.mc_parse.specs.declared.fault.ParseFault.{ParseFault}
use Rattle.mc_parse.proofs.reader.Reader.no_declaration.Goals as goal

pub returns : goal.returns
returns c = subst (λ (fault : ParseFault). IsRefused c.args.self.end c.args._depth DeclPhrase c.args.rest.now fault) (sym c.unexpected.ensures) (refused c.args.self.end DeclPhrase c.args._depth c.args.rest.now (no_decl c.args.rest.now c.requires.constant c.requires.kind c.requires.variable) refl)
