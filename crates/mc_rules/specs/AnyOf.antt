-- Faults of one of several things, and the first of them.
use Rattle.std.specs.Prelude.{◌⊎◌, List, [], ◌∷◌, Option, Some, None}
use Rattle.mc_tree.specs.declared.fault.Fault.{Fault}
use Rattle.mc_prog.specs.First.{IsFirst}

-- one of these has this fault
abbrev pub AnyOf : {A : Type 0} → (A → Fault → Type 0) → List A → Fault → Type 0
AnyOf IsFaultOf [] f = ⊥
AnyOf IsFaultOf (x ∷ list) f = IsFaultOf x f ⊎ AnyOf IsFaultOf list f

-- the first of these faults, where there is one
abbrev pub IsFirstOf : (Fault → Type 0) → Option Fault → Type 0
IsFirstOf IsFault None = (f : Fault) → IsFault f → ⊥
IsFirstOf IsFault (Some f) = IsFirst IsFault f
