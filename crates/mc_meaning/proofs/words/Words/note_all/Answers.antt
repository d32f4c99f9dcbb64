use Rattle.std.proofs.Common.{◌∙◌, arith}
use Rattle.mc_meaning.proofs.StoreLaws.{noted-back}
use Rattle.mc_meaning.proofs.words.Words.note_all.Goals as goal

-- src/words.rt: one word more is noted
pub loop-i-preserved : goal.loop-i-preserved
loop-i-preserved c = record {
  within = omega arith;
  same = c.note.ensures.same ∙ c.loop-i.invariant.same;
  noted = noted-back c.loop-i.self c.note.new.self c.args.words.now c.loop-i.i _ c.loop-i-test.true c.loop-i.invariant.within c.note.ensures.kept c.loop-i.invariant.noted c.in_ok-note.ensures.noted;
}

-- src/words.rt: the words as they were
pub returns-in_err-note-clause-same : goal.returns-in_err-note-clause-same
returns-in_err-note-clause-same c = c.note.ensures.same ∙ c.loop-i.invariant.same
