-- Going through a list: what stands behind each of its items, and which faults they have.
use Rattle.std.specs.Prelude.{◌≡◌, ◌⊎◌, List, [], ◌∷◌, Option, Some}
use Rattle.mc_tree.specs.declared.fault.Fault.{Fault}

-- what stands behind these items
abbrev pub passed : {S P : Type 0} → (S → P → S) → S → List P → S
passed step s [] = s
passed step s (p ∷ left) = passed step (step s p) left

-- one of these items has this fault, where it stands
abbrev pub HasFaultOf : {S P : Type 0} → (S → P → S) → (S → P → Option Fault) → S → List P → Fault → Type 0
HasFaultOf step fault_of s [] f = ⊥
HasFaultOf step fault_of s (p ∷ left) f = (fault_of s p ≡ Some f) ⊎ HasFaultOf step fault_of (step s p) left f
