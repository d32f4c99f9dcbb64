use Rattle.std.proofs.Common.{◌-◌, length, take, drop}
use Rattle.std.proofs.lemmas.List.{take_rest}
use Rattle.mc_scan.proofs.Comments.{comment_front}
use Rattle.mc_scan.proofs.gap.gap_length.Goals as goal

pub returns-in-Some-clause-ok : goal.returns-in-Some-clause-ok
returns-in-Some-clause-ok c =
    comment_front c.args.rest.now (take (length c.args.rest.now - 2) (drop 2 c.args.rest.now)) c.in-Some.inside (take_rest c.args.rest.now 2)
    c.if-rest-lt2.false c.if-rest-ne40.false c.if-rest-ne42.false c.in-Some.ensures
