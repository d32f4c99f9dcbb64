use Rattle.std.proofs.Common.{◌≡◌, ◌++◌, take}
use Rattle.mc_meaning.proofs.process.put_copies.Given as goal

-- the copies so far
abbrev pub invariant-loop-activation : goal.invariant-loop-activation
invariant-loop-activation l = l.copies.items ≡ l.initial.copies.items ++ take l.activation-index l.activations
