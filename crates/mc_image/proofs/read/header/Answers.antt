use Rattle.std.proofs.Common.{◌≡◌, ◌+◌, ◌*◌, ◌<◌, get_or, inr, refl, arith}
use Rattle.std.proofs.lemmas.Grind.{common_steps}
use Rattle.mc_image.proofs.Headers.{header_there, headed}
use Rattle.mc_image.proofs.read.header.Goals as goal

pub returns-then-count-lt-HEADER-clause-refused : goal.returns-then-count-lt-HEADER-clause-refused
returns-then-count-lt-HEADER-clause-refused c = λ blocks.
    let rest = c.args.rest.now in
    let fits : get_or rest 2 0 < 256 = omega (arith, c.type_inv.rest 2) in
    let count_is : c.from-count.result ≡ get_or rest 2 0 + 256 * get_or rest 3 0 = grind (arith, common_steps) in
    (refl, (c.from-count.result, header_there rest c.from-count.result (omega arith) c.if-rest-ne1.false c.if-rest-ne0.false fits count_is, omega arith))

pub returns-then-rest-count-clause-refused : goal.returns-then-rest-count-clause-refused
returns-then-rest-count-clause-refused c = λ blocks.
    let rest = c.args.rest.now in
    let fits : get_or rest 2 0 < 256 = omega (arith, c.type_inv.rest 2) in
    let count_is : c.from-count.result ≡ get_or rest 2 0 + 256 * get_or rest 3 0 = grind (arith, common_steps) in
    (refl, inr (c.from-count.result, header_there rest c.from-count.result (omega arith) c.if-rest-ne1.false c.if-rest-ne0.false fits count_is, omega arith, omega arith))

pub returns-clause-ok : goal.returns-clause-ok
returns-clause-ok c =
    let rest = c.args.rest.now in
    let fits : get_or rest 2 0 < 256 = omega (arith, c.type_inv.rest 2) in
    let fits_too : get_or rest 4 0 < 256 = omega (arith, c.type_inv.rest 4) in
    let count_is : c.from-count.result ≡ get_or rest 2 0 + 256 * get_or rest 3 0 = grind (arith, common_steps) in
    let address_is : c.word_at-2.result ≡ get_or rest 4 0 + 256 * get_or rest 5 0 = grind (arith, common_steps) in
    headed rest c.from-count.result c.word_at-2.result (omega arith) (omega arith) c.if-rest-ne1.false c.if-rest-ne0.false fits fits_too count_is address_is
