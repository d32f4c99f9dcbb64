use Rattle.std.proofs.Common.{◌<◌, List, inr, refl, subst, arith}
use Rattle.mc_image.specs.declared.image.Block.{Block}
use Rattle.mc_image.specs.Blocks.{IsApartFrom, end_of}
use Rattle.mc_image.specs.Laws.{AreBlocks-more}
use Rattle.mc_image.proofs.Reading.{has_bytes}
use Rattle.mc_image.proofs.read.place_block.Goals as goal
use Rattle.mc_image.proofs.read.place_block.Goals.{then-from-ge-MEMORY-via-then-from-ge-MEMORY, then-from-ge-MEMORY-via-else-from-ge-MEMORY+then-bytes-from}

pub returns-then-from-ge-MEMORY-clause-refused : goal.returns-then-from-ge-MEMORY-clause-refused
returns-then-from-ge-MEMORY-clause-refused c = λ left.
    let b : Block = record { address = c.args.address; bytes = c.args.bytes.now } in
    let long = has_bytes c.args.bytes.now c.requires.some in
    let past : 57344 < end_of b =
    elim c.then-from-ge-MEMORY.branch [
      | then-from-ge-MEMORY-via-then-from-ge-MEMORY w ↦ omega arith
      | then-from-ge-MEMORY-via-else-from-ge-MEMORY+then-bytes-from w ↦ omega arith
    ] in
    inr (refl, (b, (left, refl, c.requires.some), past))

pub returns-then-not-is_apart-clause-refused : goal.returns-then-not-is_apart-clause-refused
returns-then-not-is_apart-clause-refused c = λ left.
    let b : Block = record { address = c.args.address; bytes = c.args.bytes.now } in
    let meets : ¬ IsApartFrom b c.args.blocks.now.items = subst (λ (l : List Block). ¬ IsApartFrom b l) c.deref.ensures.value c.if-not-is_apart.ensures in
    inr (refl, (b, (left, refl, c.requires.some), (c.requires.some, omega arith), meets))

pub returns-clause-placed : goal.returns-clause-placed
returns-clause-placed c =
    let b : Block = record { address = c.args.address; bytes = c.args.bytes.now } in
    let apart : IsApartFrom b c.args.blocks.now.items = subst (λ (l : List Block). IsApartFrom b l) c.deref.ensures.value c.if-not-is_apart.ensures in
    rw (c.in_ok-push.ensures.items, c.in_ok-from_slice.ensures) (AreBlocks-more c.args.blocks.now.items b c.requires.placed (c.requires.some, omega arith) apart)
