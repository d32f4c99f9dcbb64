use Rattle.std.proofs.Common.{◌∙◌, ℕ, List, subst}
use Rattle.mc_shelf.specs.Outside.{View}
use Rattle.mc_driver.specs.Outside.{Says}
use Rattle.mc_driver.proofs.Saving.{said_of, saved_ends, unsaved_ends, memory_saving}
use Rattle.mc_driver.proofs.compile.save.Goals as goal

pub returns-in-Ok : goal.returns-in-Ok
returns-in-Ok g c =
    let S = g.S.Shelf in
    let v : View = S.seen c.args.shelf.now in
    let u : View = S.seen c.save.new.self in
    let w : View = S.seen c.say.new.shelf in
    let bytes : List ℕ = c.args.bytes.now in
    let said : Says u (said_of bytes) 0 c.say.result w = subst (λ (l : List ℕ). Says u l 0 c.say.result w) (c.as_slice.ensures.value ∙ c.saved_line.ensures) c.say.ensures in
    saved_ends v u w c.args.name.now bytes c.say.result
    (record {
      files = c.in-Ok.ensures.ok;
      printed = c.in-Ok.ensures.printed;
      asked = c.in-Ok.ensures.asked (λ e. cc);
      room = c.in-Ok.ensures.spare;
      faults = c.in-Ok.ensures.faults_same (λ e. cc);
      longs = c.in-Ok.ensures.longs;
    })
    said

pub returns-in-Err-Failed : goal.returns-in-Err-Failed
returns-in-Err-Failed g c =
    let is = c.in-Err-Failed.field-0-is in
    let put = c.in-Err-Failed.ensures.unknown (cc (is)) in
    unsaved_ends _ _ c.args.name.now c.args.bytes.now put.0 put.1 c.in-Err-Failed.ensures.printed (c.in-Err-Failed.ensures.asked (λ e. cc (e, is))) (c.in-Err-Failed.ensures.failed (cc (is)))

pub returns-in-Err-Memory : goal.returns-in-Err-Memory
returns-in-Err-Memory g c =
    let is = c.in-Err-Memory.field-0-is in
    memory_saving _ _ _ _ _
    (record {
      files = (c.in-Err-Memory.ensures.memory (cc (is))).0;
      printed = c.in-Err-Memory.ensures.printed;
      asked = c.in-Err-Memory.ensures.unasked (cc (is));
      faults = c.in-Err-Memory.ensures.faults_same (λ e. cc (e, is));
    })
