use Rattle.mc_rules.proofs.DeviceLaws.{device-code}
use Rattle.mc_rules.proofs.device.device_calls.Goals as goal

-- src/device.rt: what is reached is device code
pub returns : goal.returns
returns c =
    device-code c.args.program.now c.nodes.result.now c.nodes-2.result.now c.procedures.result.now c.processes.result.now c.in_ok-calls.calls.items c.follow.new.found.items
    c.nodes.ensures c.nodes-2.ensures c.procedures.ensures c.processes.ensures (c.in_ok-calls.ensures {u = tt}) (c.in_ok-follow.ensures {u = tt})
