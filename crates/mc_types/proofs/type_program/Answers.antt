use Rattle.std.proofs.Common.{List, Option, ap, ◌∙◌, subst}
use Rattle.mc_tree.specs.declared.fault.Fault.{Fault}
use Rattle.mc_prog.specs.Pieces.{Piece}
use Rattle.mc_prog.specs.Resolved.{HasRuleFault}
use Rattle.mc_types.specs.Assembled.{assembled_of}
use Rattle.mc_types.specs.Ranks.{IsLeastOf}
use Rattle.mc_types.proofs.TypeFaults.{first-type-fault, no-type-fault}
use Rattle.mc_types.proofs.WholeLaws.{IsWhole, first-rule-fault, whole-of, whole-program}
use Rattle.mc_types.proofs.type_program.Goals as goal

-- src/lib.rt: the first fault of all rules
pub returns-in-Some-clause-refused : goal.returns-in-Some-clause-refused
returns-in-Some-clause-refused c =
    let a = c.args in
    let scope = c.in_ok-scope.scope in
    let run = c.in_ok-running.running in
    let whole : IsWhole a.tree.now a.scoped.now c.in_ok-uses.uses scope.entities scope.declared scope.typed.items run.texts scope.fault run.fault =
    whole-of a.tree.now a.scoped.now c.in_ok-uses.uses scope.entities scope.declared scope.typed.items run.texts scope.fault run.fault
    c.as_slice.result.now c.as_slice.ensures c.in_ok-uses.ensures
    c.as_slice-2.result.now (c.as_slice-2.ensures.value ∙ c.in_ok-declared_pieces.ensures) c.in_ok-scope.ensures
    c.known.result c.known.ensures c.procedures.result.now c.procedures.ensures
    c.as_slice-3.result.now (c.as_slice-3.ensures.value ∙ c.in_ok-text_pieces.ensures) c.in_ok-running.ensures in
    let first : IsLeastOf (HasRuleFault a.tree.now a.scoped.now) c.first_of.result =
    first-rule-fault a.tree.now a.scoped.now c.in_ok-uses.uses scope.entities scope.declared scope.typed.items run.texts scope.fault run.fault c.first_of.result whole c.first_of.ensures in
    first-type-fault a.tree.now a.scoped.now c.in-Some.fault (subst (λ (o : Option Fault). IsLeastOf (HasRuleFault a.tree.now a.scoped.now) o) c.in-Some.is first)

-- src/lib.rt: the program of what was found
pub returns-clause-ok : goal.returns-clause-ok
returns-clause-ok c =
    let a = c.args in
    let scope = c.in_ok-scope.scope in
    let run = c.in_ok-running.running in
    let whole : IsWhole a.tree.now a.scoped.now c.in_ok-uses.uses scope.entities scope.declared scope.typed.items run.texts scope.fault run.fault =
    whole-of a.tree.now a.scoped.now c.in_ok-uses.uses scope.entities scope.declared scope.typed.items run.texts scope.fault run.fault
    c.as_slice.result.now c.as_slice.ensures c.in_ok-uses.ensures
    c.as_slice-2.result.now (c.as_slice-2.ensures.value ∙ c.in_ok-declared_pieces.ensures) c.in_ok-scope.ensures
    c.known.result c.known.ensures c.procedures.result.now c.procedures.ensures
    c.as_slice-3.result.now (c.as_slice-3.ensures.value ∙ c.in_ok-text_pieces.ensures) c.in_ok-running.ensures in
    let first : IsLeastOf (HasRuleFault a.tree.now a.scoped.now) c.first_of.result =
    first-rule-fault a.tree.now a.scoped.now c.in_ok-uses.uses scope.entities scope.declared scope.typed.items run.texts scope.fault run.fault c.first_of.result whole c.first_of.ensures in
    c.in_ok-assembled-in-None.ensures
    ∙ ap (λ (ps : List Piece). assembled_of scope.declared run.texts a.tokens ps) (c.as_slice-in-None.ensures.value ∙ c.in_ok-text_pieces.ensures)
    ∙ whole-program a.tree.now a.scoped.now c.in_ok-uses.uses scope.entities scope.declared scope.typed.items run.texts scope.fault run.fault a.tokens whole

-- src/lib.rt: no rule found a fault
pub returns-clause-without_fault : goal.returns-clause-without_fault
returns-clause-without_fault c =
    let a = c.args in
    let scope = c.in_ok-scope.scope in
    let run = c.in_ok-running.running in
    let whole : IsWhole a.tree.now a.scoped.now c.in_ok-uses.uses scope.entities scope.declared scope.typed.items run.texts scope.fault run.fault =
    whole-of a.tree.now a.scoped.now c.in_ok-uses.uses scope.entities scope.declared scope.typed.items run.texts scope.fault run.fault
    c.as_slice.result.now c.as_slice.ensures c.in_ok-uses.ensures
    c.as_slice-2.result.now (c.as_slice-2.ensures.value ∙ c.in_ok-declared_pieces.ensures) c.in_ok-scope.ensures
    c.known.result c.known.ensures c.procedures.result.now c.procedures.ensures
    c.as_slice-3.result.now (c.as_slice-3.ensures.value ∙ c.in_ok-text_pieces.ensures) c.in_ok-running.ensures in
    let first : IsLeastOf (HasRuleFault a.tree.now a.scoped.now) c.first_of.result =
    first-rule-fault a.tree.now a.scoped.now c.in_ok-uses.uses scope.entities scope.declared scope.typed.items run.texts scope.fault run.fault c.first_of.result whole c.first_of.ensures in
    no-type-fault a.tree.now a.scoped.now (subst (λ (o : Option Fault). IsLeastOf (HasRuleFault a.tree.now a.scoped.now) o) c.in-None.is first)
