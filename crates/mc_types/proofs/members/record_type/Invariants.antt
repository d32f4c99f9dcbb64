use Rattle.std.proofs.Common.{◌≡◌, Some, [], drop}
use Rattle.mc_prog.specs.Declarations.{members_of}
use Rattle.mc_types.proofs.members.record_type.Given as goal

-- with the groups that are left they are the members of the whole record
abbrev pub invariant-loop-number : goal.invariant-loop-number
invariant-loop-number l =
    (members_of l.fn.types.items l.pieces l.typed l.members (drop l.number-index l.groups) ≡ members_of l.fn.types.items l.pieces l.typed (Some (record { fields = []; words = 0 })) l.groups)
    × (l.types.items ≡ l.fn.types.items)
