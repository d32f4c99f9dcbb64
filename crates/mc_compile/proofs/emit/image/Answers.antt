use Rattle.std.proofs.Common.{◌≡◌, ℕ, List, [], ◌∷◌, subst, sym, rules, arith}
use Rattle.std.specs.List.{flat_map}
use Rattle.mc_image.specs.declared.image.Block.{Block}
use Rattle.mc_image.specs.Blocks.{AreBlocks}
use Rattle.mc_compile.specs.Code.{word_bytes}
use Rattle.mc_compile.proofs.Whole.{blocks_fit, length-bytes}
use Rattle.mc_compile.proofs.emit.image.Goals as goal

pub new-requires-clause-blocks : goal.new-requires-clause-blocks
new-requires-clause-blocks c =
    let bytes : List ℕ = flat_map word_bytes c.args.words.now in
    let len = length-bytes c.args.words.now in
    let both : List Block = record { address = 0o50; bytes = 1 ∷ 0 ∷ [] } ∷ record { address = 0o20000; bytes = bytes } ∷ [] in
    let same : c.push-2.new.self.items ≡ both = search rules in
    subst (λ (l : List Block). AreBlocks l) (sym same) (blocks_fit bytes (omega (arith, len, c.requires.some)) (omega (arith, len, c.requires.room)))
