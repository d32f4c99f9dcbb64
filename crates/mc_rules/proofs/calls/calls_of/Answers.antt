use Rattle.mc_rules.specs.Calls.{HasCall}
use Rattle.mc_rules.proofs.AddLaws.{contains-added}
use Rattle.mc_rules.proofs.calls.calls_of.Goals as goal

-- src/calls.rt: the calls that have been gathered
pub returns : goal.returns
returns c = contains-added (HasCall c.args.nodes.now c.args.body) c.new-calls.result.items c.gather.new.calls.items c.new-calls.ensures.items (c.in_ok-gather.ensures {u = tt})
