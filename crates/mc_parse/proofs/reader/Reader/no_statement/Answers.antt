use Rattle.std.proofs.Common.{refl}
use Rattle.mc_parse.specs.Steps.{read_same, skips}
use Rattle.mc_parse.specs.Begins.{no_statement}
use Rattle.mc_tree.specs.Grammar.{StatementPhrase}
use Rattle.mc_tree.specs.declared.statement.Statement.TheViews.{roll-Statement, rolls-Empty}
use Rattle.mc_tree.specs.declared.statement.Statement.TheOpen.{Statement-F}
use Rattle.mc_parse.proofs.reader.Reader.no_statement.Goals as goal

pub returns-clause-ok : goal.returns-clause-ok
returns-clause-ok c = read_same rolls-Empty (skips c.args.self.end StatementPhrase (roll-Statement Statement-F.Empty) c.args._depth c.args.rest.now (no_statement c.args.rest.now c.requires.name c.requires.choice c.requires.while_loop c.requires.repeat c.requires.plain_loop c.requires.case) refl)
