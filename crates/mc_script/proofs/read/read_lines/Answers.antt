use Rattle.std.proofs.Common.{◌≡◌, ◌+◌, ◌-◌, ℕ, List, length, take, drop, sym, ◌∙◌, ap, subst, arith}
use Rattle.std.proofs.lemmas.List.{take_rest, length-drop}
use Rattle.std.proofs.lemmas.Result.{err_from_is_err_and}
use Rattle.mc_script.specs.Lines.{lines_of, fields_of}
use Rattle.mc_script.specs.Script.{IsScript}
use Rattle.mc_script.specs.Drafts.{DraftState, script_in, Accepts-script}
use Rattle.mc_script.specs.Steps.{strip, GoesOn, IsRead, MayStand}
use Rattle.mc_script.proofs.Answering.{refused_line, refused_last, line_read, all_read, text_read}
use Rattle.mc_script.proofs.read.read_lines.Goals as goal

pub returns-in_err-read_line-clause-refused : goal.returns-in_err-read_line-clause-refused
returns-in_err-read_line-clause-refused c =
    let r = c.loop-length.invariant.is_read in
    let p = err_from_is_err_and c.from_residual.result c.from_residual.ensures.1 in
    let n : ℕ = c.in-Some.length in
    let rest : List ℕ = c.loop-length.rest.now in
    let stands : MayStand c.in_err-read_line.field-0.0 c.loop-length.number (fields_of (strip (take n rest))) r.0 =
    subst (λ (l : List ℕ). MayStand c.in_err-read_line.field-0.0 c.loop-length.number (fields_of l) r.0) c.without_return.ensures (c.in_err-read_line.ensures.refused r.0 r.2) in
    rw (p.1, p.2) (refused_line c.in_err-read_line.field-0.0 c.loop-length.number n r.0 rest c.args.text.now c.in-Some.ensures.none c.in-Some.ensures.some r.1 stands)

pub loop-length-preserved : goal.loop-length-preserved
loop-length-preserved c =
    let r = c.loop-length.invariant.is_read in
    let n : ℕ = c.in-Some.length in
    let rest : List ℕ = c.loop-length.rest.now in
    let after = c.in_ok-read_line.ensures.ok r.0 r.2 in
    let goes_on : GoesOn (fields_of (strip (take n rest))) r.0 after.0 =
    subst (λ (l : List ℕ). GoesOn (fields_of l) r.0 after.0) c.without_return.ensures after.1 in
    let read : IsRead (c.loop-length.number + 1) after.0 (drop (n + 1) rest) c.args.text.now =
    line_read c.loop-length.number n r.0 after.0 rest c.args.text.now c.in-Some.ensures.none c.in-Some.ensures.some r.1 goes_on in
    let left : take (length rest - (n + 1)) (drop (n + 1) rest) ≡ drop (n + 1) rest = take_rest rest (n + 1) in
    let shorter : length (take (length rest - (n + 1)) (drop (n + 1) rest)) ≡ length rest - (n + 1) = ap length left ∙ length-drop (n + 1) rest in
    record {
      is_read = (after.0, subst (λ (l : List ℕ). IsRead (c.loop-length.number + 1) after.0 l c.args.text.now) (sym left) read, after.2);
      counted = omega (arith, shorter, c.in-Some.ensures.within, c.loop-length.invariant.counted);
    }

pub returns-in_err-read_line-2-clause-refused : goal.returns-in_err-read_line-2-clause-refused
returns-in_err-read_line-2-clause-refused c =
    let r = c.loop-length.invariant.is_read in
    let p = err_from_is_err_and c.from_residual-in_err-read_line-2.result c.from_residual-in_err-read_line-2.ensures.1 in
    rw (p.1, p.2) (refused_last c.in_err-read_line-2.field-0.0 c.loop-length.number r.0 c.loop-length.rest.now c.args.text.now c.in_default.ensures.none r.1 (c.in_err-read_line-2.ensures.refused r.0 r.2))

pub into_script-requires : goal.into_script-requires
into_script-requires c =
    let r = c.loop-length.invariant.is_read in
    let after = c.in_ok-read_line-2.ensures.ok r.0 r.2 in
    let accepted = all_read c.loop-length.number r.0 after.0 c.loop-length.rest.now c.args.text.now c.in_default.ensures.none r.1 after.1 in
    subst (λ (d : DraftState). IsScript (script_in d)) (sym after.2) (Accepts-script (lines_of c.args.text.now) after.0 accepted)

pub returns-clause-ok : goal.returns-clause-ok
returns-clause-ok c =
    let r = c.loop-length.invariant.is_read in
    let after = c.in_ok-read_line-2.ensures.ok r.0 r.2 in
    let accepted = all_read c.loop-length.number r.0 after.0 c.loop-length.rest.now c.args.text.now c.in_default.ensures.none r.1 after.1 in
    text_read after.0 c.args.text.now c.into_script.result c.read_line-2.new.draft accepted after.2 c.into_script.ensures
