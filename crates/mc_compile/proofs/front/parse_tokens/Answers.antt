use Rattle.std.proofs.Common.{List, sym, ◌∙◌, ap, subst}
use Rattle.mc_tree.specs.declared.token.Token.{Token}
use Rattle.mc_parse.specs.Answers.{IsAnswered}
use Rattle.mc_compile.specs.declared.refusal.Refusal.{Refusal}
use Rattle.mc_compile.specs.Accepted.{IsRefusedText, refusal_of}
use Rattle.mc_compile.proofs.Stages.{grammar_refused}
use Rattle.mc_compile.proofs.front.parse_tokens.Goals as goal

pub returns-in-Err-clause-refused : goal.returns-in-Err-clause-refused
returns-in-Err-clause-refused c = λ source spelled.
    let answered = subst (λ (l : List Token). IsAnswered c.args.scanned.now.end l c.in-Err.fault) c.as_slice-read.ensures c.in-Err.ensures.refused in
    subst (λ (r : Refusal). IsRefusedText source r) (sym (c.refusal_of.ensures ∙ ap refusal_of c.fault.ensures))
    (grammar_refused source c.args.scanned.now.tokens c.args.scanned.now.end c.in-Err.fault spelled answered)
