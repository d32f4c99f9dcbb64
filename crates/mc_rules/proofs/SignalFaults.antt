-- The faults of device code, by its calls.
use Rattle.std.specs.Prelude.{◌≡◌, ◌↔◌, ◌==◌, ℕ, Bool, true, false, List, Option, Some, None, MatchOption, ⊤, if◌then◌else◌}
use Rattle.std.specs.List.{Contains}
use Rattle.std.proofs.Common.{ap, sym, ◌∙◌, subst, refl, arith}
use Rattle.mc_tree.specs.declared.fault.Code.TheVariants as code
use Rattle.mc_tree.specs.declared.fault.Fault.{Fault}
use Rattle.mc_tree.specs.declared.place.Place.{Place}
use Rattle.mc_prog.specs.Resolved.{Resolved}
use Rattle.mc_rules.specs.declared.call.Call.{Call}
use Rattle.mc_rules.specs.declared.call.Signalling.{Signalling}
use Rattle.mc_rules.specs.declared.call.Way.{Way}
use Rattle.mc_rules.specs.declared.call.Way.TheVariants as ways
use Rattle.mc_rules.specs.AnyOf.{AnyOf, IsFirstOf}
use Rattle.mc_rules.specs.DeviceCode.{IsDeviceCall}
use Rattle.mc_rules.specs.Rules.{both_fault, fault, later}
use Rattle.mc_rules.specs.RuleFaults.{CallsWith, IsBothWaysFault, IsRankFault}
use Rattle.mc_rules.specs.Signals.{AreSignallings, HasBothFault, HasSignalling, IsBothFault, IsRankFaultOf}
use Rattle.mc_rules.proofs.AnyLaws.{any-contains, any-of, first-same}

abbrev pub AreDeviceCalls : Resolved → List Call → Type 0
AreDeviceCalls p calls = (call : Call) → Contains calls call ↔ IsDeviceCall p call

pub ranks-first : (p : Resolved) (calls : List Call) (found : Option Fault) → AreDeviceCalls p calls
    → IsFirstOf (AnyOf IsRankFaultOf calls) found → IsFirstOf (IsRankFault p) found
ranks-first p calls found are first = first-same (AnyOf IsRankFaultOf calls) (IsRankFault p) found first
    (λ f h. any-of IsRankFaultOf calls h.call f ((are h.call).1 h.device) h.breaks)
    (λ f k. let one = any-contains IsRankFaultOf calls f k in record { call = one.0; device = (are one.0).0 one.1.0; breaks = one.1.1 })

some-same : (f g : Fault) → ◌≡◌ {A = Option Fault} (Some f) (Some g) → f ≡ g
some-same f g e = subst (λ (o : Option Fault). MatchOption o ⊤ (λ x. f ≡ x)) e refl

none-some : (f : Fault) → ◌≡◌ {A = Option Fault} None (Some f) → ⊥
none-some f e = subst (λ (o : Option Fault). MatchOption o ⊤ (λ x. ⊥)) e tt

abbrev pub m7 : Place → Fault
m7 place = record { code = code.M7; place = place }

-- what a wait and a sending break, and where
pub both-is : (w s : Signalling) (b : Bool) (f : Fault) → (w.variable == s.variable) ≡ b → both_fault w s ≡ Some f → (w.variable ≡ s.variable) × (f ≡ m7 (later w.place s.place))
both-is w s true f e h = (grind (arith, e), sym (some-same (m7 (later w.place s.place)) f (sym (ap (λ (b : Bool). if b then fault code.M7 (later w.place s.place) else None) e) ∙ h)))
both-is w s false f e h = absurd (none-some f (sym (ap (λ (b : Bool). if b then fault code.M7 (later w.place s.place) else None) e) ∙ h))

pub both-of : (w s : Signalling) → w.variable ≡ s.variable → both_fault w s ≡ Some (m7 (later w.place s.place))
both-of w s e = ap (λ (b : Bool). if b then fault code.M7 (later w.place s.place) else None) same
  where
    same : (w.variable == s.variable) ≡ true
    same = grind (arith, e)

-- device code calls with a signal, as its signallings say
calls-with : (p : Resolved) (calls : List Call) (way : Way) (s : Signalling) → AreDeviceCalls p calls → HasSignalling p.nodes way calls s → (call : Call) × (CallsWith p way s.variable call × (s.place ≡ call.place))
calls-with p calls way s are h = (h.call, (record { device = (are h.call).0 h.one; signal = h.is.variable.node; is = h.is.variable.is; variable = h.is.variable.variable }, h.is.place))

signalling-of : (p : Resolved) (calls : List Call) (way : Way) (list : List Signalling) (cell : ℕ) (call : Call) → AreDeviceCalls p calls → AreSignallings p.nodes way calls list → CallsWith p way cell call
    → Contains list (record { variable = cell; place = call.place })
signalling-of p calls way list cell call are signals h = (signals (record { variable = cell; place = call.place })).1
    (record { call = call; one = (are call).1 h.device; is = record { variable = record { node = h.signal; is = h.is; variable = h.variable }; place = refl } })

pub both-first : (p : Resolved) (calls : List Call) (waits sends : List Signalling) (found : Option Fault) → AreDeviceCalls p calls
    → AreSignallings p.nodes ways.Wait calls waits → AreSignallings p.nodes ways.Send calls sends
    → IsFirstOf (AnyOf (HasBothFault sends) waits) found → IsFirstOf (IsBothWaysFault p) found
both-first p calls waits sends found are waited sent first = first-same (AnyOf (HasBothFault sends) waits) (IsBothWaysFault p) found first to from
  where
    to : (f : Fault) → IsBothWaysFault p f → AnyOf (HasBothFault sends) waits f
    to f h = let w : Signalling = record { variable = h.cell; place = h.wait.place } in
        let s : Signalling = record { variable = h.cell; place = h.send.place } in
        any-of (HasBothFault sends) waits w f (signalling-of p calls ways.Wait waits h.cell h.wait are waited h.waits)
        (any-of (IsBothFault w) sends s f (signalling-of p calls ways.Send sends h.cell h.send are sent h.sends)
        (both-of w s refl ∙ ap (λ (g : Fault). Some g) (sym h.fault_is)))

    from : (f : Fault) → AnyOf (HasBothFault sends) waits f → IsBothWaysFault p f
    from f k =
        let one = any-contains (HasBothFault sends) waits f k in
        let other = any-contains (IsBothFault one.0) sends f one.1.1 in
        let both = both-is one.0 other.0 (one.0.variable == other.0.variable) f refl other.1.1 in
        let wait = calls-with p calls ways.Wait one.0 are ((waited one.0).0 one.1.0) in
        let send = calls-with p calls ways.Send other.0 are ((sent other.0).0 other.1.0) in
        record {
          cell = one.0.variable;
          wait = wait.0;
          waits = wait.1.0;
          send = send.0;
          sends = subst (λ (n : ℕ). CallsWith p ways.Send n send.0) (sym both.0) send.1.0;
          fault_is = both.1 ∙ ap (λ (q : Place). m7 (later q other.0.place)) wait.1.1 ∙ ap (λ (q : Place). m7 (later wait.0.place q)) send.1.1;
        }
