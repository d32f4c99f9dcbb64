use Rattle.std.proofs.Common.{◌≡◌, ◌+◌, suc, sym, arith, refl}
use Rattle.std.proofs.lemmas.List.{append-nil, append_assoc}
use Rattle.mc_kernel.specs.Laws.{descriptors-none, descriptors-more}
use Rattle.mc_kernel.proofs.memory.push_descriptors.Goals as goal

pub loop-i-init : goal.loop-i-init
loop-i-init c = rw descriptors-none (sym (append-nil _))

pub loop-i-preserved : goal.loop-i-preserved
loop-i-preserved c =
    let e : c.loop-i.i + 1 ≡ suc c.loop-i.i = omega arith in
    rw (e, descriptors-more, c.in_ok-push_descriptor.ensures, c.loop-i.invariant, append_assoc) refl
