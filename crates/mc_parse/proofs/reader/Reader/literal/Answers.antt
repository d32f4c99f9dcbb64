use Rattle.std.proofs.Common.{◌∙◌, refl, sym, ap, arith}
use Rattle.mc_parse.specs.Steps.{past, rule_first, handed_on, read_same, refused_end, refused_there}
use Rattle.mc_parse.specs.TokenLaws.{taken_here, no_number, no_character, no_text, other_first, first_here, first_place}
use Rattle.mc_parse.specs.Begins.{no_factor}
use Rattle.mc_parse.specs.Deep.{too_deep_at}
use Rattle.mc_tree.specs.Grammar.{CharacterFactor, FactorPhrase, NumberFactor, TextFactor}
use Rattle.mc_tree.specs.declared.expression.Factor.TheViews.{rolls-Character, rolls-Number, rolls-Text}
use Rattle.mc_tree.specs.Classes.{class_of, NumberClass, CharacterClass, TextClass}
use Rattle.mc_tree.specs.declared.token.Kind.TheVariants.{Text}
use Rattle.mc_parse.proofs.reader.Reader.literal.Goals as goal

pub returns-in_default-clause-refused : goal.returns-in_default-clause-refused
returns-in_default-clause-refused c = refused_end c.args.self.end FactorPhrase c.args.depth c.args.rest.now c.in_default.ensures.cases refl

pub returns-in_err-deeper-in-Number-clause-refused : goal.returns-in_err-deeper-in-Number-clause-refused
returns-in_err-deeper-in-Number-clause-refused c = handed_on c.from_residual.result c.in_err-deeper-in-Number.field-0.0 c.from_residual.ensures.1 (too_deep_at NumberFactor _ (first_here NumberClass c.args.rest.now c.in-Some.token.now c.in-Some.others.now c.in-Some.ensures.cases.0 (ap class_of c.in-Number.is)) (omega (arith, c.in_err-deeper-in-Number.ensures.refused.1)) (first_place c.args.self.end c.args.rest.now c.in-Some.token.now c.in-Some.others.now c.in-Some.ensures.cases.0) c.in_err-deeper-in-Number.ensures.refused.0)

pub returns-in_err-deeper-in-Char-clause-refused : goal.returns-in_err-deeper-in-Char-clause-refused
returns-in_err-deeper-in-Char-clause-refused c = handed_on c.from_residual-in_err-deeper-in-Char.result c.in_err-deeper-in-Char.field-0.0 c.from_residual-in_err-deeper-in-Char.ensures.1 (too_deep_at CharacterFactor _ (first_here CharacterClass c.args.rest.now c.in-Some.token.now c.in-Some.others.now c.in-Some.ensures.cases.0 (ap class_of c.in-Char.is)) (omega (arith, c.in_err-deeper-in-Char.ensures.refused.1)) (first_place c.args.self.end c.args.rest.now c.in-Some.token.now c.in-Some.others.now c.in-Some.ensures.cases.0) c.in_err-deeper-in-Char.ensures.refused.0)

pub returns-in_err-deeper-in-Text-clause-refused : goal.returns-in_err-deeper-in-Text-clause-refused
returns-in_err-deeper-in-Text-clause-refused c = handed_on c.from_residual-in_err-deeper-in-Text.result c.in_err-deeper-in-Text.field-0.0 c.from_residual-in_err-deeper-in-Text.ensures.1 (too_deep_at TextFactor _ (first_here TextClass c.args.rest.now c.in-Some.token.now c.in-Some.others.now c.in-Some.ensures.cases.0 (ap class_of c.in-Text.is)) (omega (arith, c.in_err-deeper-in-Text.ensures.refused.1)) (first_place c.args.self.end c.args.rest.now c.in-Some.token.now c.in-Some.others.now c.in-Some.ensures.cases.0) c.in_err-deeper-in-Text.ensures.refused.0)

pub returns-in_ok-deeper-in-Number-clause-ok : goal.returns-in_ok-deeper-in-Number-clause-ok
returns-in_ok-deeper-in-Number-clause-ok c = read_same (rolls-Number c.in-Number.value c.in-Some.token.now.place) (record {
  reads = λ stack. rule_first c.args.self.end NumberFactor c.args.depth stack c.args.rest.now (first_here NumberClass c.args.rest.now c.in-Some.token.now c.in-Some.others.now c.in-Some.ensures.cases.0 (ap class_of c.in-Number.is)) (omega (arith, c.in_ok-deeper-in-Number.ensures.ok.0, c.in_ok-deeper-in-Number.ensures.ok.1)) ∙ past (taken_here c.args.self.end NumberClass c.in-Number.value c.args.rest.now c.in-Some.token.now c.in-Some.others.now c.in-Some.ensures.cases.0 c.in-Number.is) _ _;
})

pub returns-in_ok-deeper-in-Char-clause-ok : goal.returns-in_ok-deeper-in-Char-clause-ok
returns-in_ok-deeper-in-Char-clause-ok c = read_same (rolls-Character c.in-Char.value c.in-Some.token.now.place) (record {
  reads = λ stack. rule_first c.args.self.end CharacterFactor c.args.depth stack c.args.rest.now (first_here CharacterClass c.args.rest.now c.in-Some.token.now c.in-Some.others.now c.in-Some.ensures.cases.0 (ap class_of c.in-Char.is)) (omega (arith, c.in_ok-deeper-in-Char.ensures.ok.0, c.in_ok-deeper-in-Char.ensures.ok.1)) ∙ past (taken_here c.args.self.end CharacterClass c.in-Char.value c.args.rest.now c.in-Some.token.now c.in-Some.others.now c.in-Some.ensures.cases.0 c.in-Char.is) _ _;
})

pub returns-in_ok-text-in-Text-clause-ok : goal.returns-in_ok-text-in-Text-clause-ok
returns-in_ok-text-in-Text-clause-ok c = read_same (rolls-Text c.in_ok-text-in-Text.text c.in-Some.token.now.place) (record {
  reads = λ stack. rule_first c.args.self.end TextFactor c.args.depth stack c.args.rest.now (first_here TextClass c.args.rest.now c.in-Some.token.now c.in-Some.others.now c.in-Some.ensures.cases.0 (ap class_of c.in-Text.is)) (omega (arith, c.in_ok-deeper-in-Text.ensures.ok.0, c.in_ok-deeper-in-Text.ensures.ok.1)) ∙ past (taken_here c.args.self.end TextClass c.in_ok-text-in-Text.text c.args.rest.now c.in-Some.token.now c.in-Some.others.now c.in-Some.ensures.cases.0 (c.in-Text.is ∙ ap Text (sym (c.in_ok-text-in-Text.ensures ∙ c.as_slice.ensures)))) _ _;
})

pub returns-in_default-kind-clause-refused : goal.returns-in_default-kind-clause-refused
returns-in_default-kind-clause-refused c = refused_there c.args.self.end FactorPhrase c.args.depth c.args.rest.now c.in-Some.token.now c.in-Some.others.now c.in-Some.ensures.cases.0 (no_factor c.args.rest.now
    (other_first NumberClass c.args.rest.now c.in-Some.token.now c.in-Some.others.now c.in-Some.ensures.cases.0 (no_number c.in-Some.token.now.kind c.in_default-kind.not-Number)) (other_first CharacterClass c.args.rest.now c.in-Some.token.now c.in-Some.others.now c.in-Some.ensures.cases.0 (no_character c.in-Some.token.now.kind c.in_default-kind.not-Char))
    (other_first TextClass c.args.rest.now c.in-Some.token.now c.in-Some.others.now c.in-Some.ensures.cases.0 (no_text c.in-Some.token.now.kind c.in_default-kind.not-Text)) c.requires.name c.requires.paren c.requires.not c.requires.bracket) refl
