use Rattle.std.proofs.Common.{◌≡◌, ℕ, length, take, sym, ap, arith, eq-eqb}
use Rattle.std.specs.List.{position_or_len}
use Rattle.std.proofs.lemmas.List.{take_all}
use Rattle.mc_script.specs.Lines.{is_semicolon}
use Rattle.mc_script.proofs.Splitting.{place_of}
use Rattle.mc_script.proofs.fields.before_comment.Goals as goal

pub returns-then-b-eq59 : goal.returns-then-b-eq59
returns-then-b-eq59 c =
    ap (λ (n : ℕ). take n c.args.line.now) (sym (place_of is_semicolon c.args.line.now c.loop-i.i (omega arith) c.loop-i.invariant (λ _. eq-eqb _ 59 c.if-b-eq59.true)))

pub returns : goal.returns
returns c =
    let place : position_or_len is_semicolon c.args.line.now ≡ length c.args.line.now =
    place_of is_semicolon c.args.line.now (length c.args.line.now) (omega arith) (λ k h. c.loop-i.invariant k (omega arith)) (λ h. absurd (omega arith)) in
    sym (take_all (position_or_len is_semicolon c.args.line.now) c.args.line.now (omega arith))
