-- What a refusal of types says.
use Rattle.std.specs.Prelude.{List}
use Rattle.mc_tree.specs.declared.fault.Fault.{Fault}
use Rattle.mc_tree.specs.declared.tree.Tree.{Tree}
use Rattle.mc_prog.specs.declared.scoped.Naming.{Naming}
use Rattle.mc_prog.specs.First.{IsFirst}
use Rattle.mc_prog.specs.Resolved.{IsTypeFault}
use Rattle.mc_types.specs.declared.fault.TypeFault.{TypeFault}
use Rattle.mc_types.specs.declared.fault.TypeFault.TheVariants.{Refused, Memory}

-- the tree's first type fault; want of memory says nothing of it
abbrev pub IsRefused : Tree → List Naming → TypeFault → Type 0
IsRefused tree names (Refused fault) = IsFirst (IsTypeFault tree names) fault
IsRefused tree names Memory = Unit {0}

abbrev pub HasNoTypeFault : Tree → List Naming → Type 0
HasNoTypeFault tree names = (f : Fault) → IsTypeFault tree names f → ⊥
