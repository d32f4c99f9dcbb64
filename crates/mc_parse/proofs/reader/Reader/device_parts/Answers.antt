use Rattle.std.proofs.Common.{◌∙◌, [], ◌∷◌, ◌++◌, ap, refl, arith}
use Rattle.mc_parse.specs.Steps.{whole_read, mapped-mapped, grown}
use Rattle.std.proofs.lemmas.List.{append-nil}
use Rattle.mc_parse.specs.Begins.{no_device_parts}
use Rattle.mc_parse.specs.Decode.{mapped}
use Rattle.mc_tree.specs.Grammar.{Sub, DevicePartsPhrase}
use Rattle.mc_tree.specs.Phrases.{Trees}
use Rattle.mc_parse.proofs.reader.Reader.device_parts.Goals as goal

pub returns-clause-ok : goal.returns-clause-ok
returns-clause-ok c =
    let n = rw c.in_default.is at c.in_ok-part.ensures.none in
    whole_read c.loop-items.invariant.read [] (no_device_parts c.loop-items.left.now n.0.0 n.0.1 n.0.2 n.1 n.2) refl _ (append-nil _)

pub loop-items-preserved : goal.loop-items-preserved
loop-items-preserved c = let part = rw c.in-Some.is at c.in_ok-part.ensures.ok in
    let shorter = rw c.in-Some.is at c.in_ok-part.ensures.shorter in
    record {
      read = record { reads = λ stack. c.loop-items.invariant.read.reads stack ∙ ap (λ r. mapped (λ (q : Trees (Sub c.args.depth DevicePartsPhrase ∷ stack)). (c.loop-items.items ++ q.0, q.1)) r) (part.reads stack) ∙ mapped-mapped _ _ _ ∙ grown _ c.loop-items.items _ _ c.in_ok-push.ensures.ok };
      within = omega (arith, shorter, c.loop-items.invariant.within);
    }
