-- What a refusal of names says.
use Rattle.std.specs.Prelude.{◌≡◌, Option, Some}
use Rattle.mc_tree.specs.declared.fault.Fault.{Fault}
use Rattle.mc_tree.specs.declared.tree.Tree.{Tree}
use Rattle.mc_prog.specs.First.{IsFirst}
use Rattle.mc_prog.specs.Scopes.{IsScopeFault}
use Rattle.mc_resolve.specs.declared.fault.ResolveFault.{ResolveFault}
use Rattle.mc_resolve.specs.declared.fault.ResolveFault.TheVariants.{Refused, Memory}

-- the tree's first scope fault; want of memory says nothing of it
abbrev pub IsRefused : Tree → ResolveFault → Type 0
IsRefused tree (Refused fault) = IsFirst (IsScopeFault tree) fault
IsRefused tree Memory = Unit {0}

abbrev pub HasNoScopeFault : Tree → Type 0
HasNoScopeFault tree = (f : Fault) → IsScopeFault tree f → ⊥

-- the refusal is this fault
abbrev pub IsItsFault : Option Fault → ResolveFault → Type 0
IsItsFault found (Refused fault) = found ≡ Some fault
IsItsFault found Memory = ⊥
