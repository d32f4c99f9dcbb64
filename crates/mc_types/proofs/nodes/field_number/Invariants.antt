use Rattle.std.proofs.Common.{◌≡◌, drop}
use Rattle.mc_prog.specs.Nodes.{field_number}
use Rattle.mc_types.proofs.nodes.field_number.Given as goal

-- with the fields that are left it is the number in all
abbrev pub invariant-loop-field : goal.invariant-loop-field
invariant-loop-field l = field_number l.number (drop l.field-index l.fields) l.name ≡ field_number 0 l.fields l.name
