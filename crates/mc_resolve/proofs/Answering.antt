-- The first fault that the resolver keeps behind all items is that of the tree.
use Rattle.std.specs.Prelude.{[], Result, Ok, Err, IfErr, Option}
use Rattle.std.proofs.Common.{subst}
use Rattle.mc_tree.specs.declared.fault.Fault.{Fault}
use Rattle.mc_tree.specs.declared.tree.Tree.{Tree}
use Rattle.mc_prog.specs.Names.{names_of}
use Rattle.mc_prog.specs.Scopes.{placed, HasFault}
use Rattle.mc_resolve.specs.declared.fault.ResolveFault.{ResolveFault}
use Rattle.mc_resolve.specs.declared.fault.ResolveFault.TheVariants.{Refused, Memory}
use Rattle.mc_resolve.specs.declared.resolver.Resolver.{Resolver}
use Rattle.mc_resolve.specs.Refusals.{IsRefused, IsItsFault}
use Rattle.mc_resolve.specs.Stands.{Stands, IsLeastOf}

pub its-fault : (tree : Tree) (r : Resolver) → Stands (placed [] (names_of tree)) r → (refusal : ResolveFault) → IsItsFault r.fault refusal → IsRefused tree refusal
its-fault tree r st (Refused fault) e = subst (λ (o : Option Fault). IsLeastOf (HasFault (placed [] (names_of tree))) o) e st.fault
its-fault tree r st Memory e = tt

pub if-err : {A : Type 0} (P Q : ResolveFault → Type 0) (result : Result A ResolveFault) → IfErr result P → ((e : ResolveFault) → P e → Q e) → IfErr result Q
if-err P Q (Ok a) h f = tt
if-err P Q (Err e) h f = f e h
