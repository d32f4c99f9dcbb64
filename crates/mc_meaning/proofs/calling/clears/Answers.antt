use Rattle.std.proofs.Common.{ap, arith, ℕ, [], ◌∙◌, ◌∷◌, ◌++◌}
use Rattle.mc_meaning.specs.declared.process.Item.TheVariants.{Clears}
use Rattle.mc_meaning.specs.declared.store.Name.{Name}
use Rattle.mc_meaning.specs.Access.{moved_name}
use Rattle.mc_meaning.proofs.ItemLaws.{cleared-one}
use Rattle.mc_meaning.proofs.calling.clears.Goals as goal

-- src/calling.rt
pub loop-k-preserved : goal.loop-k-preserved
loop-k-preserved c = record {
  within = omega arith;
  so_far = cleared-one c.args.name c.loop-k.k c.args.words c.loop-k.items.items c.push.new.self.items _ c.loop-k-test.true
      (c.in_ok-push.ensures.items ∙ ap (λ (name : Name). c.loop-k.items.items ++ (Clears name ∷ [])) (c.in_ok-moved_name.ensures ∙ ap (λ (k : ℕ). moved_name c.args.name k) c.from.ensures)) c.loop-k.invariant.so_far;
}
