-- The first place of each variable that is waited on or sent to, and the faults of one sending.
use Rattle.std.specs.Prelude.{◌≡◌, ◌<◌, ◌≤◌, ◌⊎◌, ℕ, List, Option, Some, None, if◌then◌else◌}
use Rattle.std.specs.List.{Contains}
use Rattle.std.specs.BTreeMap as tree
use Rattle.std.specs.BTreeMap.{BTreeMap}
use Rattle.std.specs.Ordering.{nat_cmp}
use Rattle.mc_tree.specs.declared.fault.Code.TheVariants as code
use Rattle.mc_tree.specs.declared.fault.Fault.{Fault}
use Rattle.mc_tree.specs.declared.place.Place.{Place}
use Rattle.mc_rules.specs.declared.call.Signalling.{Signalling}
use Rattle.mc_rules.specs.AnyOf.{AnyOf}
use Rattle.mc_rules.specs.Rules.{both_fault, fault, is_earlier, later}

-- one place comes no later than another
abbrev pub IsNotLater : Place → Place → Type 0
IsNotLater p q = (p.line < q.line) ⊎ ((p.line ≡ q.line) × (p.column ≤ q.column))

abbrev pub Stands : List Signalling → ℕ → Place → Type 0
Stands list cell place = Contains list (record { variable = cell; place = place })

-- the first place of this variable, where it has one
abbrev pub IsFirstPlace : List Signalling → ℕ → Option Place → Type 0
IsFirstPlace list cell None = (place : Place) → Stands list cell place → ⊥
IsFirstPlace list cell (Some first) = Stands list cell first × ((place : Place) → Stands list cell place → IsNotLater first place)

abbrev pub AreFirstPlaces : List Signalling → BTreeMap ℕ Place → Type 0
AreFirstPlaces list firsts = (cell : ℕ) → IsFirstPlace list cell (tree.get nat_cmp firsts cell)

-- the earlier of two places, or the one that is there
abbrev pub earliest : Option Place → Place → Place
earliest None place = place
earliest (Some first) place = if is_earlier place first then place else first

-- the fault of a sending there to a variable whose first wait stands here
abbrev pub sent_fault : Option Place → Place → Option Fault
sent_fault None place = None
sent_fault (Some first) place = fault code.M7 (later first place)

abbrev pub IsSentFault : Signalling → Signalling → Fault → Type 0
IsSentFault send wait f = both_fault wait send ≡ Some f

-- one sending has this fault with one of these waits
abbrev pub HasSentFault : List Signalling → Signalling → Fault → Type 0
HasSentFault waits send f = AnyOf (IsSentFault send) waits f
