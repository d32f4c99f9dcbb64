use Rattle.std.proofs.Common.{◌≡◌, ◌+◌, drop, false, is_err, sym}
use Rattle.mc_meaning.specs.declared.store.Name.TheVariants.{Variable}
use Rattle.mc_meaning.specs.StoredWords.{words_in}
use Rattle.mc_meaning.proofs.StoreLaws.{is-written, noted-first, noted-kept, written-all, written-one}
use Rattle.mc_meaning.proofs.words.Words.put_all.Goals as goal

-- src/words.rt: one word more is written
pub loop-i-preserved : goal.loop-i-preserved
loop-i-preserved c =
    let well : is_err c.put.result ≡ false = sym c.if-is_err.ensures.value in
    record {
      so_far = written-one (words_in c.loop-i.self) (words_in c.put.new.self) _ c.args.words.now c.loop-i.i _ c.loop-i-test.true (is-written c.put.result _ well c.put.ensures.ok) c.loop-i.invariant.so_far;
      noted = noted-kept c.loop-i.self c.put.new.self (drop (c.loop-i.i + 1) c.args.words.now) c.put.ensures.kept
          (noted-first c.loop-i.self c.args.words.now c.loop-i.i (Variable 0 0, 0) c.loop-i-test.true c.loop-i.invariant.noted).1;
    }

-- src/words.rt: all are written
pub returns : goal.returns
returns c = written-all (words_in c.loop-i.self) _ c.loop-i.i c.args.words.now c.loop-i-test.false c.loop-i.invariant.so_far
