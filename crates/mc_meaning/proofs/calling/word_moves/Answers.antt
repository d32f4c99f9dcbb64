use Rattle.std.proofs.Common.{ap, arith, ℕ, [], ◌∙◌, ◌∷◌, ◌++◌}
use Rattle.mc_meaning.specs.declared.process.Item.TheVariants.{Moves}
use Rattle.mc_meaning.specs.declared.store.Name.{Name}
use Rattle.mc_meaning.specs.declared.store.Source.TheVariants as source
use Rattle.mc_meaning.specs.Access.{moved_name}
use Rattle.mc_meaning.proofs.ItemLaws.{moved-one}
use Rattle.mc_meaning.proofs.calling.word_moves.Goals as goal

-- src/calling.rt
pub loop-k-preserved : goal.loop-k-preserved
loop-k-preserved c = record {
  within = omega arith;
  so_far = moved-one c.args.to c.args.from c.loop-k.k c.args.words c.loop-k.items.items c.push.new.self.items _ c.loop-k-test.true
      (c.in_ok-push.ensures.items ∙ ap (λ (name : Name). c.loop-k.items.items ++ (Moves name (source.Stored c.in_ok-moved_name.field-0) ∷ [])) (c.in_ok-moved_name-2.ensures ∙ ap (λ (k : ℕ). moved_name c.args.to k) c.from-offset.ensures)
      ∙ ap (λ (name : Name). c.loop-k.items.items ++ (Moves (moved_name c.args.to c.loop-k.k) (source.Stored name) ∷ [])) (c.in_ok-moved_name.ensures ∙ ap (λ (k : ℕ). moved_name c.args.from k) c.from-offset.ensures)) c.loop-k.invariant.so_far;
}
