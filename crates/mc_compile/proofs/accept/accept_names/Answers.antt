use Rattle.std.proofs.Common.{ℕ, List, sym, subst}
use Rattle.mc_tree.specs.declared.fault.Fault.{Fault}
use Rattle.mc_tree.specs.declared.tree.Tree.{Tree}
use Rattle.mc_prog.specs.declared.scoped.Naming.{Naming}
use Rattle.mc_prog.specs.First.{IsFirst}
use Rattle.mc_prog.specs.Resolved.{IsTypeFault}
use Rattle.mc_types.specs.declared.fault.TypeFault.{TypeFault}
use Rattle.mc_types.specs.TypeRefusals.{IsRefused}
use Rattle.mc_compile.specs.Accepted.{IsTyped, type, IsRefusedProgram, IsRefusedTree}
use Rattle.mc_compile.proofs.Stages.{if_err, program_refused}
use Rattle.mc_compile.proofs.accept.accept_names.Goals as goal

pub returns-in-Ok-clause-refused : goal.returns-in-Ok-clause-refused
returns-in-Ok-clause-refused c =
    let tree : Tree = c.args.tree.now in
    let tokens : ℕ = c.args.tokens in
    let typed : IsTyped tree tokens c.in-Ok.program = record {
      names = c.args.scoped.now;
      no_scope_fault = c.requires.no_scope_fault;
      names_are = c.requires.names;
      no_type_fault = c.in-Ok.ensures.without_fault;
      program_is = c.in-Ok.ensures.ok;
    } in
    if_err (IsRefusedProgram c.in-Ok.program) (IsRefusedTree tree tokens) c.accept_program.result (λ refusal h. program_refused tree tokens c.in-Ok.program refusal typed h) c.accept_program.ensures.refused

pub returns-in-Err-Refused-clause-refused : goal.returns-in-Err-Refused-clause-refused
returns-in-Err-Refused-clause-refused c =
    let names : List Naming = c.args.scoped.now in
    let first = subst (λ (f : TypeFault). IsRefused c.args.tree.now names f) c.in-Err-Refused.field-0-is c.in-Err-Refused.ensures.refused in
    type names c.requires.no_scope_fault c.requires.names (subst (λ (f : Fault). IsFirst (IsTypeFault c.args.tree.now names) f) (sym c.in-Err-Refused.fault-is) first)
