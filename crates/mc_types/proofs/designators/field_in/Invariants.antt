use Rattle.std.proofs.Common.{◌≡◌, drop}
use Rattle.mc_prog.specs.Designators.{field_in}
use Rattle.mc_types.proofs.designators.field_in.Given as goal

abbrev pub invariant-loop-field : goal.invariant-loop-field
invariant-loop-field l = field_in (drop l.field-index l.fields) l.name ≡ field_in l.fields l.name
