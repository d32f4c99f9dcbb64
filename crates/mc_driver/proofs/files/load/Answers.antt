use Rattle.std.proofs.Common.{◌<◌, ℕ, List, length, subst}
use Rattle.mc_shelf.specs.Outside.{content, View}
use Rattle.mc_driver.specs.Outside.{Says, is_long}
use Rattle.mc_driver.proofs.files.load.Goals as goal

pub returns-in-Err-TooLong-clause-refused : goal.returns-in-Err-TooLong-clause-refused
returns-in-Err-TooLong-clause-refused g c =
    let S = g.S.Shelf in
    let name : List ℕ = c.args.name.now in
    let u : View = S.seen c.load.new.self in
    let w : View = S.seen c.say.new.shelf in
    let is = c.in-Err-TooLong.field-0-is in
    is_long u
    (record {
      exactly = λ calm files told. subst (λ (n : ℕ). n < length (content files name)) c.most.ensures ((c.in-Err-TooLong.ensures.exactly_long calm (λ e. cc (e, is)) files told).0 (cc (is)));
      rose = c.in-Err-TooLong.ensures.long (cc (is));
      files = c.in-Err-TooLong.ensures.files;
      printed = c.in-Err-TooLong.ensures.printed;
      asked = c.in-Err-TooLong.ensures.asked (λ e. cc (e, is));
      faults = c.in-Err-TooLong.ensures.faults_same (λ e. cc (e, is));
    })
    (subst (λ (l : List ℕ). Says u l 14 c.say.result w) c.too_long.ensures c.say.ensures)
