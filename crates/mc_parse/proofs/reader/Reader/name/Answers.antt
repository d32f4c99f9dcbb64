use Rattle.std.proofs.Common.{subst, sym, ap, ◌∙◌}
use Rattle.mc_tree.specs.declared.token.Kind.TheVariants.{Name}
use Rattle.mc_tree.specs.Classes.{NameClass}
use Rattle.mc_parse.specs.declared.fault.ParseFault.{ParseFault}
use Rattle.mc_parse.specs.Heads.{nothing_there}
use Rattle.mc_parse.specs.Reads.{IsMissed}
use Rattle.mc_parse.specs.TokenLaws.{name_taken, no_name, missed, missed_first}
use Rattle.mc_parse.proofs.reader.Reader.name.Goals as goal

pub returns-in_default-clause-refused : goal.returns-in_default-clause-refused
returns-in_default-clause-refused c =
    subst (λ (fault : ParseFault). IsMissed c.args.self.end NameClass c.args.rest.now fault) (sym c.unexpected.ensures)
    (missed c.args.self.end NameClass c.args.rest.now (nothing_there NameClass c.args.rest.now c.in_default.ensures.cases))

pub returns-in_default-kind-clause-refused : goal.returns-in_default-kind-clause-refused
returns-in_default-kind-clause-refused c = missed_first c.args.self.end NameClass c.args.rest.now c.in-Some.token.now c.in-Some.others.now c.in-Some.ensures.cases.0 (no_name c.in-Some.token.now.kind c.in_default-kind.not-Name)

pub returns-clause-ok : goal.returns-clause-ok
returns-clause-ok c = name_taken c.args.self.end c.in_ok-from_slice.field-0 c.args.rest.now c.in-Some.token.now c.in-Some.others.now c.in-Some.ensures.cases.0 (c.in-Name.is ∙ ap Name (sym (c.in_ok-from_slice.ensures ∙ c.as_slice.ensures)))
