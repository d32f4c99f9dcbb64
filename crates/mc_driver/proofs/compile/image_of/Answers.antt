use Rattle.std.proofs.Common.{List, ℕ, sym, subst}
use Rattle.mc_compile.specs.Tracks.{CompiledFrom}
use Rattle.mc_image.specs.Image.{ImageState}
use Rattle.mc_image.specs.Format.{IsImage}
use Rattle.mc_driver.proofs.compile.image_of.Goals as goal

pub returns-in-Ok-read_image-clause-ok : goal.returns-in-Ok-read_image-clause-ok
returns-in-Ok-read_image-clause-ok c =
    let made = c.in-Ok.ensures.ok in
    let is : IsImage c.as_slice.result.now made.0 = subst (λ (b : List ℕ). IsImage b made.0) (sym c.as_slice.ensures.value) made.3 in
    subst (λ (i : ImageState). CompiledFrom c.args.source.now c.args.settings.workspace_words c.args.settings.processes i) (sym (c.in-Ok-read_image.ensures.accepts made.0 is)) made.1

pub unreachable-requires : goal.unreachable-requires
unreachable-requires c =
    let made = c.in-Ok.ensures.ok in
    let is : IsImage c.as_slice.result.now made.0 = subst (λ (b : List ℕ). IsImage b made.0) (sym c.as_slice.ensures.value) made.3 in
    c.in_default.not-Memory (c.in-Err-read_image.ensures.accepts made.0 is)
