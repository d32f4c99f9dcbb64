use Rattle.std.proofs.Common.{◌≡◌, ◌+◌}
use Rattle.pdp_def.specs.Bytes.{IsPatched}
use Rattle.pdp_def.proofs.processor.put_bytes.Given as goal

abbrev pub invariant-loop-byte : goal.invariant-loop-byte
invariant-loop-byte l =
    record { next : l.a ≡ l.at + l.byte-index; patched : IsPatched l.byte-index l.bytes l.at l.fn.memory l.memory }
