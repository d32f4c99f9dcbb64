use Rattle.mc_straight.proofs.Forced.{no_address, no_register}
use Rattle.mc_straight.proofs.parts.port.Goals as goal

pub returns-in_err-address_of : goal.returns-in_err-address_of
returns-in_err-address_of c = rw c.from_residual.ensures (no_address c.args.var.now c.in_err-address_of.ensures)

pub returns-in_err-port : goal.returns-in_err-port
returns-in_err-port c = rw c.from_residual-in_err-port.ensures (no_register c.args.var.now c.in_ok-address_of.field-0 c.in_ok-address_of.ensures c.in_err-port.ensures)
