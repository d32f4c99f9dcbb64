use Rattle.std.proofs.Common.{sym, refl}
use Rattle.std.proofs.lemmas.List.{append-nil, append_assoc, replicate_more}
use Rattle.mc_kernel.proofs.memory.push_zeros.Goals as goal

pub loop-i-init : goal.loop-i-init
loop-i-init c = sym (append-nil _)

pub loop-i-preserved : goal.loop-i-preserved
loop-i-preserved c = rw (c.in_ok-push.ensures.items, c.loop-i.invariant, append_assoc, replicate_more) refl
