use Rattle.std.proofs.Common.{ℕ, List, arith}
use Rattle.mc_tree.specs.declared.tree.Tree.{Tree}
use Rattle.mc_prog.specs.Resolved.{Resolved}
use Rattle.mc_image.specs.Image.{ImageState}
use Rattle.mc_compile.specs.Accepted.{IsAcceptedTree, IsNotBuilt, IsNotCompiled, IsNotCompiledTree}
use Rattle.mc_compile.specs.Code.{IsImageOf}
use Rattle.mc_compile.specs.Tracks.{CompiledFrom}
use Rattle.mc_compile.proofs.Stages.{if_both, if_err, text_refused, source_not_compiled}
use Rattle.mc_compile.proofs.Whole.{compiled_from}
use Rattle.mc_compile.proofs.compile.compile.Goals as goal

pub returns-in-Ok-clause-ok : goal.returns-in-Ok-clause-ok
returns-in-Ok-clause-ok c =
    let source : List ℕ = c.args.source.now in
    let workspace : ℕ = c.args.settings.workspace_words in
    let processes : ℕ = c.args.settings.processes in
    let tree : Tree = c.in-Ok.parsed.tree in
    let tokens : ℕ = c.in-Ok.parsed.tokens in
    if_both (IsImageOf tree) (λ (i : ImageState). (program : Resolved) × IsAcceptedTree tree tokens program) (CompiledFrom source workspace processes) c.compile_tree.result
    (λ i made accepted. compiled_from source tree tokens accepted.0 workspace processes i (omega (arith, c.args.settings.processes_least)) c.in-Ok.ensures.ok accepted.1 made)
    c.compile_tree.ensures.ok c.compile_tree.ensures.accepted

pub returns-in-Ok-clause-refused : goal.returns-in-Ok-clause-refused
returns-in-Ok-clause-refused c =
    let source : List ℕ = c.args.source.now in
    let tree : Tree = c.in-Ok.parsed.tree in
    let tokens : ℕ = c.in-Ok.parsed.tokens in
    if_err (IsNotCompiledTree tree tokens) (IsNotCompiled source) c.compile_tree.result (λ refusal h. source_not_compiled source tree tokens refusal c.in-Ok.ensures.ok h) c.compile_tree.ensures.refused

pub returns-in-Err-clause-refused : goal.returns-in-Err-clause-refused
returns-in-Err-clause-refused c = text_refused c.args.source.now (IsNotBuilt c.args.source.now) c.in-Err.refusal c.in-Err.ensures.refused
