use Rattle.std.proofs.Common.{◌<◌, [], ℕ, List, ap, ◌∙◌, sym, subst, take, length, arith}
use Rattle.std.proofs.lemmas.List.{take_more, take_all}
use Rattle.mc_prog.specs.declared.scoped.Naming.{Naming}
use Rattle.mc_prog.specs.Resolved.{latest_first}
use Rattle.mc_types.specs.NameTables.{AreUses}
use Rattle.mc_types.proofs.NameTables.{latest-more}
use Rattle.mc_types.proofs.names.uses_of.Goals as goal

-- src/names.rt: one more use
pub loop-naming-preserved : goal.loop-naming-preserved
loop-naming-preserved c =
    let names : List Naming = c.args.names.now in
    let n : ℕ = c.loop-naming.naming-index in
    let inside : n < length names = omega (arith, c.loop-naming-test.true, c.loop-naming.auto.naming-index-end) in
    subst (λ (list : List Naming). AreUses list c.put.new.self.declarations)
    (sym (ap (latest_first []) (take_more names n _ inside) ∙ latest-more [] (take n names) _))
    (c.in_ok-put.ensures (latest_first [] (take n names)) c.loop-naming.invariant)

-- src/names.rt: all uses
pub returns : goal.returns
returns c = subst (λ (list : List Naming). AreUses (latest_first [] list) c.loop-naming.uses.declarations)
    (take_all c.loop-naming.naming-index c.args.names.now (omega (arith, c.loop-naming-test.false))) c.loop-naming.invariant
