use Rattle.std.proofs.Common.{refl}
use Rattle.mc_kernel.specs.Memory.{low_memory}
use Rattle.mc_kernel.specs.Laws.{length-low_of}
use Rattle.mc_kernel.proofs.memory.low_memory.Goals as goal

pub returns-clause-value : goal.returns-clause-value
unfolding low_memory
returns-clause-value c =
    rw (c.in_ok-push_zeros-4.ensures, c.in_ok-push_descriptors.ensures, c.in_ok-push_zeros-3.ensures, c.in_ok-push_variables.ensures, c.in_ok-push_zeros-2.ensures, c.in_ok-push_kernel.ensures, c.in_ok-push_zeros.ensures, c.in_ok-push_vectors.ensures, c.new-words.ensures.items, c.live_of-live.ensures) refl

pub returns-clause-length : goal.returns-clause-length
returns-clause-length c =
    rw (c.in_ok-push_zeros-4.ensures, c.in_ok-push_descriptors.ensures, c.in_ok-push_zeros-3.ensures, c.in_ok-push_variables.ensures, c.in_ok-push_zeros-2.ensures, c.in_ok-push_kernel.ensures, c.in_ok-push_zeros.ensures, c.in_ok-push_vectors.ensures, c.new-words.ensures.items) (length-low_of c.args.settings.now.workspace_words c.args.work_at c.live_of-live.result)
