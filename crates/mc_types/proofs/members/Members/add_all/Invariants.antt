use Rattle.std.proofs.Common.{◌≡◌, drop}
use Rattle.mc_prog.specs.Declarations.{with_fields, with_more}
use Rattle.mc_types.proofs.members.Members.add_all.Given as goal

-- with those that are left it is the whole group
abbrev pub invariant-loop-more : goal.invariant-loop-more
invariant-loop-more l = with_more l.type_of l.words (drop l.more-index l.more-items) l.self ≡ with_fields l.type_of l.words l.names l.fn.self
