use Rattle.std.specs.Prelude.{Option}
use Rattle.std.proofs.Common.{ℕ, ◌≡◌, ◌<◌, ◌+◌, ◌-◌, ◌*◌, ◌^◌, length, get_or, refl, sym, ◌∙◌, subst, arith, List, Bool, false, replicate}
use Rattle.std.proofs.lemmas.List.{length-replicate}
use Rattle.mc_rules.specs.declared.call.Call.{Call}
use Rattle.mc_rules.specs.Following.{entered, HasCallOf}
use Rattle.mc_rules.specs.Gathering.{Adds}
use Rattle.mc_rules.proofs.FollowLaws.{Follows, follows-first, follows-more, all-reached, less-left}
use Rattle.mc_rules.proofs.Marks.{unmarked}
use Rattle.mc_rules.proofs.device.follow.Goals as goal

-- src/device.rt: no mark is set
pub loop-next-init : goal.loop-next-init
loop-next-init c =
    let n : ℕ = length c.args.procedures.now in
    let none : c.as_mut_slice-marks.result.now ≡ replicate n false = c.as_mut_slice-marks.ensures.value ∙ c.in_ok-cleared.ensures.items_if_clones_equal (λ y h. h) in
    subst (λ (marks : List Bool). Follows c.args.nodes.now c.args.procedures.now c.args.found.now.items marks 0 c.args.found.now.items) (sym none)
    (follows-first c.args.nodes.now c.args.procedures.now c.args.found.now.items n refl (length-replicate n false))

-- src/device.rt: less is left to do
pub loop-next-smaller : goal.loop-next-smaller
loop-next-smaller c =
    let call : Call = c.index.result.now in
    let v = c.gather_from.new.found in
    let within : c.loop-next.next < length c.loop-next.found.items = omega (arith, c.loop-next.found.ok.0, c.len.ensures, c.loop-next-test.true) in
    let fits : length c.gather_from.new.found.items < 2 ^ 64 = omega (arith, v.ok.0, v.ok.1, v.small) in
    subst (λ (marks : List Bool). unmarked marks * 2 ^ 64 + (length c.gather_from.new.found.items - (c.loop-next.next + 1)) < unmarked c.loop-next.marks * 2 ^ 64 + (length c.loop-next.found.items - c.loop-next.next))
    (sym c.enter-body.ensures.marked)
    (less-left c.args.nodes.now c.args.procedures.now c.loop-next.marks call.called c.loop-next.found.items c.gather_from.new.found.items c.loop-next.next c.enter-body.result
    (sym c.enter-body.ensures.body) within fits (c.in_ok-gather_from.ensures {u = tt}))

-- src/device.rt: one call more
pub loop-next-preserved : goal.loop-next-preserved
loop-next-preserved c =
    let call : Call = c.index.result.now in
    let within : c.loop-next.next < length c.loop-next.found.items = omega (arith, c.loop-next.found.ok.0, c.len.ensures, c.loop-next-test.true) in
    let at : get_or c.loop-next.found.items c.loop-next.next call ≡ call = sym c.index.ensures in
    let adds : Adds (HasCallOf c.args.nodes.now (entered c.args.procedures.now c.loop-next.marks call.called)) c.loop-next.found.items c.gather_from.new.found.items =
    subst (λ (o : Option ℕ). Adds (HasCallOf c.args.nodes.now o) c.loop-next.found.items c.gather_from.new.found.items) c.enter-body.ensures.body (c.in_ok-gather_from.ensures {u = tt}) in
    subst (λ (marks : List Bool). Follows c.args.nodes.now c.args.procedures.now c.args.found.now.items marks (c.loop-next.next + 1) c.gather_from.new.found.items) (sym c.enter-body.ensures.marked)
    (follows-more c.args.nodes.now c.args.procedures.now c.args.found.now.items c.loop-next.marks c.loop-next.next c.loop-next.found.items c.gather_from.new.found.items call
    c.loop-next.invariant within at adds)

-- src/device.rt: all calls
pub returns : goal.returns
returns c = λ call. (
  c.loop-next.invariant.sound call,
  all-reached c.args.nodes.now c.args.procedures.now c.args.found.now.items c.loop-next.marks c.loop-next.next c.loop-next.found.items c.loop-next.invariant
      (omega (arith, c.loop-next.found.ok.0, c.len.ensures, c.loop-next-test.false)) call,
)
