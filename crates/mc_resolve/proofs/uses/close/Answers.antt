use Rattle.std.proofs.Common.{◌≡◌, length, ◌<◌, subst, arith}
use Rattle.mc_prog.specs.Scopes.{outer}
use Rattle.mc_resolve.specs.Around.{around}
use Rattle.mc_resolve.proofs.Entering.{last-away, none-open}
use Rattle.mc_resolve.proofs.uses.close.Goals as goal

pub returns-then-is_empty : goal.returns-then-is_empty
returns-then-is_empty c =
    let none : length c.as_slice.result.now ≡ 0 = grind (arith, c.if-is_empty.ensures) in
    subst (λ ss. around ss ≡ outer (around ss)) c.as_slice.ensures.value (none-open c.as_slice.result.now none)

pub returns : goal.returns
returns c =
    let some : 0 < c.args.scopes.now.len = grind (arith, c.if-is_empty.ensures, c.as_slice.ensures.len) in
    last-away c.args.scopes.now.items c.pop.new.self.items c.pop.result c.pop.ensures.items (c.pop.ensures.variant.1 some)
