-- What is waited on and what is sent to in calls.
use Rattle.std.specs.Prelude.{◌≡◌, ◌↔◌, ℕ, List, [], ◌∷◌, ◌++◌, Option, Some, None}
use Rattle.std.specs.List.{Contains}
use Rattle.mc_tree.specs.declared.fault.Fault.{Fault}
use Rattle.mc_tree.specs.declared.place.Place.{Place}
use Rattle.mc_prog.specs.declared.program.Node.{Node}
use Rattle.mc_rules.specs.declared.call.Call.{Call}
use Rattle.mc_rules.specs.declared.call.Signalling.{Signalling}
use Rattle.mc_rules.specs.declared.call.Way.{Way}
use Rattle.mc_rules.specs.AnyOf.{AnyOf}
use Rattle.mc_rules.specs.Calls.{IsOfVariable}
use Rattle.mc_rules.specs.Rules.{both_fault, rank_fault, signal_of}

abbrev pub IsRankFaultOf : Call → Fault → Type 0
IsRankFaultOf call f = rank_fault call ≡ Some f

-- a signal is of this variable
pub record IsVariableOf (nodes : List Node) (signal : Option ℕ) (cell : ℕ) : Type 0 where
  pub node : ℕ
  pub is : signal ≡ Some node
  pub variable : IsOfVariable nodes node cell

-- a call waits on a variable, or sends to it, there
pub record IsSignallingOf (nodes : List Node) (way : Way) (call : Call) (s : Signalling) : Type 0 where
  pub variable : IsVariableOf nodes (signal_of way call.called) s.variable
  pub place : s.place ≡ call.place

abbrev pub signalling : Option ℕ → Place → Option Signalling
signalling None place = None
signalling (Some variable) place = Some (record { variable = variable; place = place })

-- one of these calls does
pub record HasSignalling (nodes : List Node) (way : Way) (calls : List Call) (s : Signalling) : Type 0 where
  pub call : Call
  pub one : Contains calls call
  pub is : IsSignallingOf nodes way call s

abbrev pub AreSignallings : List Node → Way → List Call → List Signalling → Type 0
AreSignallings nodes way calls list = (s : Signalling) → Contains list s ↔ HasSignalling nodes way calls s

abbrev pub with_signalling : List Signalling → Option Signalling → List Signalling
with_signalling list None = list
with_signalling list (Some s) = list ++ (s ∷ [])

abbrev pub IsBothFault : Signalling → Signalling → Fault → Type 0
IsBothFault wait send f = both_fault wait send ≡ Some f

abbrev pub HasBothFault : List Signalling → Signalling → Fault → Type 0
HasBothFault sends wait f = AnyOf (IsBothFault wait) sends f
