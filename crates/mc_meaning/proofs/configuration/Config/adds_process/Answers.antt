use Rattle.std.proofs.Common.{ap, arith, ◌<◌, List, [], ◌∙◌, ◌∷◌, slice_set, length}
use Rattle.std.proofs.lemmas.List.{set-append_left}
use Rattle.mc_meaning.specs.Configuration.{ProcessState}
use Rattle.mc_meaning.specs.Kept.{configuration_of}
use Rattle.mc_meaning.proofs.configuration.Config.adds_process.Goals as goal

-- src/configuration.rt: the process is one of those that were there
pub returns-then-is_there-clause-ok : goal.returns-then-is_there-clause-ok
returns-then-is_there-clause-ok c =
    let less : c.args.n < length c.args.self.now.processes.items = omega arith in
    ap (λ (processes : List ProcessState). record (configuration_of c.args.self.now) { processes = processes })
    (ap (λ (x : ProcessState). slice_set c.push.new.self.items c.args.n x) c.swap.ensures.x_after
    ∙ ap (λ (processes : List ProcessState). slice_set processes c.args.n c.args.q.now) c.in_ok-push.ensures.items
    ∙ set-append_left c.args.self.now.processes.items (c.args.process ∷ []) c.args.n c.args.q.now less)
