use Rattle.std.specs.Prelude.{◌≡◌, ◌⊎◌, Some}
use Rattle.mc_tree.specs.declared.fault.Fault.{Fault}
use Rattle.mc_rules.specs.Rules.{outside_fault, doio_fault, start_fault}
use Rattle.mc_rules.proofs.AnyLaws.{first-either, own-is}
use Rattle.mc_rules.proofs.texts.call_fault.Goals as goal

pub returns : goal.returns
returns c =
    let p = c.args.program.now in
    let s = c.args.site in
    let call = c.args.call in
    let Outside : Fault → Type 0 = λ f. outside_fault p s call ≡ Some f in
    let Doio : Fault → Type 0 = λ f. doio_fault s call ≡ Some f in
    let Started : Fault → Type 0 = λ f. start_fault p s call ≡ Some f in
    first-either Outside (λ f. Doio f ⊎ Started f) c.outside_fault-outside.result c.earlier-started.result c.earlier.result
    (own-is (outside_fault p s call) c.outside_fault-outside.result c.outside_fault-outside.ensures)
    (first-either Doio Started c.doio_fault.result c.start_fault.result c.earlier-started.result
    (own-is (doio_fault s call) c.doio_fault.result c.doio_fault.ensures)
    (own-is (start_fault p s call) c.start_fault.result c.start_fault.ensures)
    c.earlier-started.ensures)
    c.earlier.ensures
