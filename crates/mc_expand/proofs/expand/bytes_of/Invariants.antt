use Rattle.std.proofs.Common.{◌≡◌, take}
use Rattle.std.specs.List.{flat_map}
use Rattle.mc_image.specs.Format.{word_bytes}
use Rattle.mc_expand.proofs.expand.bytes_of.Given as goal

abbrev pub invariant-loop-word : goal.invariant-loop-word
invariant-loop-word l = l.bytes.items ≡ flat_map word_bytes (take l.word-index l.words)
