-- The faults of a program against the rules of modules and devices.
use Rattle.std.specs.Prelude.{◌≡◌, ◌⊎◌, ℕ, List, [], Option, Some, None}
use Rattle.mc_tree.specs.declared.fault.Code.TheVariants as code
use Rattle.mc_tree.specs.declared.fault.Fault.{Fault}
use Rattle.mc_prog.specs.declared.program.CellInfo.{CellInfo}
use Rattle.mc_prog.specs.declared.program.CodeInfo.{CodeInfo}
use Rattle.mc_prog.specs.declared.program.ModuleInfo.{ModuleInfo}
use Rattle.mc_prog.specs.declared.program.ProcessInfo.{ProcessInfo}
use Rattle.mc_prog.specs.declared.program.Slot.{Slot}
use Rattle.mc_prog.specs.First.{IsFirst}
use Rattle.mc_prog.specs.Passes.{HasFaultOf}
use Rattle.mc_prog.specs.Resolved.{Resolved}
use Rattle.mc_rules.specs.declared.call.Call.{Call}
use Rattle.mc_rules.specs.declared.call.Way.{Way}
use Rattle.mc_rules.specs.declared.call.Way.TheVariants as ways
use Rattle.mc_rules.specs.declared.call.Site.{Site}
use Rattle.mc_rules.specs.declared.call.SiteKind.{SiteKind}
use Rattle.mc_rules.specs.declared.call.SiteKind.TheVariants as site
use Rattle.mc_rules.specs.declared.fault.RuleFault.{RuleFault}
use Rattle.mc_rules.specs.declared.fault.RuleFault.TheVariants.{Refused, Memory}
use Rattle.mc_rules.specs.AnyOf.{AnyOf}
use Rattle.mc_rules.specs.Calls.{HasCall, IsOfVariable}
use Rattle.mc_rules.specs.DeviceCode.{IsDeviceCall}
use Rattle.mc_rules.specs.Rules.{priority_fault, process_fault, vectors_behind, twice_fault, cell_fault, slot_fault, outside_fault, doio_fault, start_fault, rank_fault, later, signal_of}

-- Texts

-- a call in a text breaks a rule
abbrev pub IsCallFault : Resolved → Site → Call → Fault → Type 0
IsCallFault p s call f = (outside_fault p s call ≡ Some f) ⊎ ((doio_fault s call ≡ Some f) ⊎ (start_fault p s call ≡ Some f))

-- one of the calls of a text does
pub record HasCallFault (p : Resolved) (s : Site) (body : ℕ) (f : Fault) : Type 0 where
  pub call : Call
  pub stands : HasCall p.nodes body call
  pub breaks : IsCallFault p s call f

abbrev pub IsSlotFault : Slot → Fault → Type 0
IsSlotFault s f = slot_fault s ≡ Some f

-- where a text of this kind stands
abbrev pub site_of : CodeInfo → SiteKind → Site
site_of text kind = record { «module» = text.«module»; kind = kind }

abbrev pub IsTextFault : Resolved → CodeInfo → SiteKind → Fault → Type 0
IsTextFault p text kind f = AnyOf IsSlotFault text.slots f ⊎ HasCallFault p (site_of text kind) text.body f

abbrev pub process_kind : Option ℕ → SiteKind
process_kind None = site.Process
process_kind (Some vector) = site.Driver

-- Modules, procedures, processes and variables, each with its text

abbrev pub IsModuleFault : Resolved → ModuleInfo → Fault → Type 0
IsModuleFault p m f = (priority_fault m ≡ Some f) ⊎ IsTextFault p m.body site.Body f

abbrev pub IsProcedureFault : Resolved → CodeInfo → Fault → Type 0
IsProcedureFault p text f = IsTextFault p text site.Procedure f

abbrev pub IsProcessFault : Resolved → ProcessInfo → Fault → Type 0
IsProcessFault p q f = (process_fault p.modules q ≡ Some f) ⊎ IsTextFault p q.code (process_kind q.vector) f

abbrev pub IsCellFault : List ModuleInfo → CellInfo → Fault → Type 0
IsCellFault modules c f = cell_fault modules c ≡ Some f

-- a vector that stands twice
abbrev pub IsTwiceFault : List ProcessInfo → Fault → Type 0
IsTwiceFault processes f = HasFaultOf vectors_behind twice_fault [] processes f

-- Device code

-- a wait that has a rank
pub record IsRankFault (p : Resolved) (f : Fault) : Type 0 where
  pub call : Call
  pub device : IsDeviceCall p call
  pub breaks : rank_fault call ≡ Some f

-- device code calls this with a signal variable, or with an element of an array of signals
pub record CallsWith (p : Resolved) (way : Way) (cell : ℕ) (call : Call) : Type 0 where
  pub device : IsDeviceCall p call
  pub signal : ℕ
  pub is : signal_of way call.called ≡ Some signal
  pub variable : IsOfVariable p.nodes signal cell

-- Device code waits on a signal variable and sends to it: the later of the two calls is at fault.
pub record IsBothWaysFault (p : Resolved) (f : Fault) : Type 0 where
  pub cell : ℕ
  pub wait : Call
  pub waits : CallsWith p ways.Wait cell wait
  pub send : Call
  pub sends : CallsWith p ways.Send cell send
  pub fault_is : f ≡ record { code = code.M7; place = later wait.place send.place }

-- The rule faults of a program

abbrev pub IsTextsFault : Resolved → Fault → Type 0
IsTextsFault p f = AnyOf (IsModuleFault p) p.modules f ⊎ (AnyOf (IsProcedureFault p) p.procedures f ⊎ AnyOf (IsProcessFault p) p.processes f)

abbrev pub IsDeclaredFault : Resolved → Fault → Type 0
IsDeclaredFault p f = IsTwiceFault p.processes f ⊎ AnyOf (IsCellFault p.modules) p.cells f

abbrev pub IsDeviceFault : Resolved → Fault → Type 0
IsDeviceFault p f = IsRankFault p f ⊎ IsBothWaysFault p f

abbrev pub IsRuleFault : Resolved → Fault → Type 0
IsRuleFault p f = IsTextsFault p f ⊎ (IsDeclaredFault p f ⊎ IsDeviceFault p f)

-- the first of them, or none for want of memory
abbrev pub IsRefused : Resolved → RuleFault → Type 0
IsRefused p (Refused fault) = IsFirst (IsRuleFault p) fault
IsRefused p Memory = Unit {0}

abbrev pub HasNoRuleFault : Resolved → Type 0
HasNoRuleFault p = (f : Fault) → IsRuleFault p f → ⊥
