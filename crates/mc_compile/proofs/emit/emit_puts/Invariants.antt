use Rattle.std.proofs.Common.{◌≡◌, ◌++◌, take}
use Rattle.std.specs.List.{flat_map}
use Rattle.mc_compile.specs.Code.{put_code}
use Rattle.mc_compile.proofs.emit.emit_puts.Given as goal

abbrev pub invariant-loop-put : goal.invariant-loop-put
invariant-loop-put l = l.words.items ≡ l.initial.words.items ++ flat_map put_code (take l.put-index l.puts)
