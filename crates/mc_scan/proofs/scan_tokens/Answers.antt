use Rattle.std.proofs.Common.{◌≡◌, ◌-◌, length, take, drop, arith}
use Rattle.std.proofs.lemmas.List.{length-take-le, length-drop}
use Rattle.mc_scan.proofs.Reading.{reads_further, piece_within, line_after, column_after}
use Rattle.mc_scan.proofs.scan_tokens.Goals as goal

pub loop-rest-preserved : goal.loop-rest-preserved
loop-rest-preserved c =
    let within = piece_within c.loop-rest.tokens.items c.advance.new.tokens.items c.loop-rest.place c.in_ok-length.length c.loop-rest.rest.now c.in_ok-length.ensures.ok in
    let front : length (take c.in_ok-length.length c.loop-rest.rest.now) ≡ c.in_ok-length.length = length-take-le c.in_ok-length.length c.loop-rest.rest.now within.0 in
    let back : length (drop c.in_ok-length.length c.loop-rest.rest.now) ≡ length c.loop-rest.rest.now - c.in_ok-length.length = length-drop c.in_ok-length.length c.loop-rest.rest.now in
    rw (c.place_after-place.ensures, c.split_at.ensures.front, c.split_at.ensures.back)
    (record {
      reads = reads_further c.loop-rest.tokens.items c.advance.new.tokens.items c.args.source.now c.loop-rest.place c.in_ok-length.length c.loop-rest.rest.now c.loop-rest.invariant.reads c.in_ok-length.ensures.ok;
      line = omega (arith, line_after c.loop-rest.place (take c.in_ok-length.length c.loop-rest.rest.now), c.loop-rest.invariant.line, within.0);
      column = omega (arith, column_after c.loop-rest.place (take c.in_ok-length.length c.loop-rest.rest.now), c.loop-rest.invariant.column, within.0);
    })
