use Rattle.std.proofs.Common.{ℕ, List}
use Rattle.mc_tree.specs.declared.tree.Tree.{Tree}
use Rattle.mc_compile.specs.Accepted.{IsAccepted, IsAcceptedTree, IsRefused, IsRefusedTree}
use Rattle.mc_compile.proofs.Stages.{if_ok, if_err, text_refused, source_accepted, source_refused}
use Rattle.mc_compile.proofs.accept.accept_source.Goals as goal

pub returns-in-Ok-clause-ok : goal.returns-in-Ok-clause-ok
returns-in-Ok-clause-ok c =
    let source : List ℕ = c.args.source.now in
    let tree : Tree = c.in-Ok.parsed.tree in
    let tokens : ℕ = c.in-Ok.parsed.tokens in
    if_ok (IsAcceptedTree tree tokens) (IsAccepted source) c.accept_tree.result (λ program a. source_accepted source tree tokens program c.in-Ok.ensures.ok a) c.accept_tree.ensures.ok

pub returns-in-Ok-clause-refused : goal.returns-in-Ok-clause-refused
returns-in-Ok-clause-refused c =
    let source : List ℕ = c.args.source.now in
    let tree : Tree = c.in-Ok.parsed.tree in
    let tokens : ℕ = c.in-Ok.parsed.tokens in
    if_err (IsRefusedTree tree tokens) (IsRefused source) c.accept_tree.result (λ refusal h. source_refused source tree tokens refusal c.in-Ok.ensures.ok h) c.accept_tree.ensures.refused

pub returns-in-Err-clause-refused : goal.returns-in-Err-clause-refused
returns-in-Err-clause-refused c = text_refused c.args.source.now ⊥ c.in-Err.refusal c.in-Err.ensures.refused
