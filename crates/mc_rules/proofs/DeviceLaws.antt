-- The calls that are reached from those of device processes are the calls in device code.
use Rattle.std.specs.Prelude.{◌≡◌, ◌↔◌, ℕ, List, [], ◌∷◌, ◌++◌, Some, slice_get}
use Rattle.std.specs.List.{Contains}
use Rattle.mc_prog.specs.declared.program.CodeInfo.{CodeInfo}
use Rattle.mc_prog.specs.declared.program.Node.{Node}
use Rattle.mc_prog.specs.declared.program.ProcessInfo.{ProcessInfo}
use Rattle.mc_prog.specs.Resolved.{Resolved}
use Rattle.std.proofs.Common.{sym, subst, refl}
use Rattle.mc_rules.specs.declared.call.Call.{Call}
use Rattle.mc_rules.specs.Calls.{HasCall}
use Rattle.mc_rules.specs.DeviceCode.{CallsProcedure, CallsThrough, IsDriverBody, IsDeviceProcedure, IsDeviceBody, IsDeviceCall, of_driver, of_procedure}
use Rattle.mc_rules.specs.Following.{IsDriverCall, IsReached, at_once, through}
use Rattle.mc_rules.proofs.FollowLaws.{calls_procedure}

-- one procedure more, behind those that are called one through the other
calls-further : (p : Resolved) (body : ℕ) (path : List ℕ) (m : ℕ) (code : CodeInfo) (k : ℕ) → CallsThrough p body path m → slice_get p.procedures m ≡ Some code
    → CallsProcedure p code.body k → CallsThrough p body (path ++ (m ∷ [])) k
calls-further p body [] m code k calls is further = (calls, (code, (is, further)))
calls-further p body (next ∷ path) m code k calls is further = (calls.0, (calls.1.0, (calls.1.1.0, calls-further p calls.1.0.body path m code k calls.1.1.1 is further)))

called-by : (p : Resolved) (body k : ℕ) → IsDeviceBody p body → CallsProcedure p body k → IsDeviceProcedure p k
called-by p body k (of_driver d) calls = record { driver = body; drives = d; path = []; calls = calls }
called-by p body k (of_procedure d) calls = record {
  driver = d.reached.driver;
  drives = d.reached.drives;
  path = d.reached.path ++ (d.number ∷ []);
  calls = calls-further p d.reached.driver d.reached.path d.number d.code k d.reached.calls d.is (subst (λ (b : ℕ). CallsProcedure p b k) d.body_is calls);
}

driver-device : (p : Resolved) (call : Call) → IsDriverCall p.nodes p.processes call → IsDeviceCall p call
driver-device p call h = record {
  body = h.process.code.body;
  device = of_driver (record { process = h.process; one = h.one; device = h.device; is = refl });
  has = h.has;
}

reached-device : (p : Resolved) (first : List Call) → ((call : Call) → Contains first call → IsDriverCall p.nodes p.processes call)
    → (call : Call) → IsReached p.nodes p.procedures first call → IsDeviceCall p call
reached-device p first drivers call (at_once one h) = driver-device p one (drivers one h)
reached-device p first drivers call (through place number code one reached is has) =
    let d : IsDeviceCall p (calls_procedure place number) = reached-device p first drivers (calls_procedure place number) reached in
    record {
      body = code.body;
      device = of_procedure (record { number = number; reached = called-by p d.body number d.device (place, d.has); code = code; is = is; body_is = refl });
      has = has;
    }

-- What is called through others is reached, where the calls of the text are.
along : (p : Resolved) (first : List Call) (body : ℕ) (path : List ℕ) (k : ℕ) (code : CodeInfo) (call : Call)
    → ((c : Call) → HasCall p.nodes body c → IsReached p.nodes p.procedures first c)
    → CallsThrough p body path k → slice_get p.procedures k ≡ Some code → HasCall p.nodes code.body call → IsReached p.nodes p.procedures first call
along p first body [] k code call all calls is has = through calls.0 k code call (all (calls_procedure calls.0 k) calls.1) is has
along p first body (next ∷ path) k code call all calls is has =
    along p first calls.1.0.body path k code call
    (λ c h. through calls.0.0 next calls.1.0 c (all (calls_procedure calls.0.0 next) calls.0.1) calls.1.1.0 h)
    calls.1.1.1 is has

driver-reached : (p : Resolved) (first : List Call) → ((call : Call) → IsDriverCall p.nodes p.processes call → Contains first call)
    → (body : ℕ) (call : Call) → IsDriverBody p body → HasCall p.nodes body call → IsReached p.nodes p.procedures first call
driver-reached p first drivers body call d has =
    at_once call (drivers call (record { process = d.process; one = d.one; device = d.device; has = subst (λ (b : ℕ). HasCall p.nodes b call) d.is has }))

device-by : (p : Resolved) (first : List Call) → ((call : Call) → IsDriverCall p.nodes p.processes call → Contains first call)
    → (body : ℕ) (call : Call) → IsDeviceBody p body → HasCall p.nodes body call → IsReached p.nodes p.procedures first call
device-by p first drivers body call (of_driver d) has = driver-reached p first drivers body call d has
device-by p first drivers body call (of_procedure d) has =
    along p first d.reached.driver d.reached.path d.number d.code call
    (λ c h. driver-reached p first drivers d.reached.driver c d.reached.drives h)
    d.reached.calls d.is (subst (λ (b : ℕ). HasCall p.nodes b call) d.body_is has)

device-reached : (p : Resolved) (first : List Call) → ((call : Call) → IsDriverCall p.nodes p.processes call → Contains first call)
    → (call : Call) → IsDeviceCall p call → IsReached p.nodes p.procedures first call
device-reached p first drivers call d = device-by p first drivers d.body call d.device d.has

-- all that is reached from the calls of device processes
pub device-code : (p : Resolved) (nodes other : List Node) (procedures : List CodeInfo) (processes : List ProcessInfo) (first after : List Call)
    → nodes ≡ p.nodes → other ≡ p.nodes → procedures ≡ p.procedures → processes ≡ p.processes
    → ((call : Call) → Contains first call ↔ IsDriverCall nodes processes call)
    → ((call : Call) → Contains after call ↔ IsReached other procedures first call)
    → (call : Call) → Contains after call ↔ IsDeviceCall p call
device-code p nodes other procedures processes first after nodes_are other_are procedures_are processes_are drivers reached call = (
  λ m. reached-device p first (λ c h. drives c ((drivers c).0 h)) call (to ((reached call).0 m)),
  λ d. (reached call).1 (from (device-reached p first (λ c h. (drivers c).1 (driven c h)) call d)),
)
  where
    drives : (c : Call) → IsDriverCall nodes processes c → IsDriverCall p.nodes p.processes c
    drives c h = subst (λ (l : List Node). IsDriverCall l p.processes c) nodes_are (subst (λ (l : List ProcessInfo). IsDriverCall nodes l c) processes_are h)

    driven : (c : Call) → IsDriverCall p.nodes p.processes c → IsDriverCall nodes processes c
    driven c h = subst (λ (l : List ProcessInfo). IsDriverCall nodes l c) (sym processes_are) (subst (λ (l : List Node). IsDriverCall l p.processes c) (sym nodes_are) h)

    to : IsReached other procedures first call → IsReached p.nodes p.procedures first call
    to h = subst (λ (l : List Node). IsReached l p.procedures first call) other_are (subst (λ (l : List CodeInfo). IsReached other l first call) procedures_are h)

    from : IsReached p.nodes p.procedures first call → IsReached other procedures first call
    from h = subst (λ (l : List CodeInfo). IsReached other l first call) (sym procedures_are) (subst (λ (l : List Node). IsReached l p.procedures first call) (sym other_are) h)
