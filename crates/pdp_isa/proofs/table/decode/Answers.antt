use Rattle.std.proofs.Common.{◌≡◌, Option, sym, subst, ◌∙◌}
use Rattle.pdp_isa.specs.declared.instr.Instr.{Instr}
use Rattle.pdp_isa.specs.Table.{instruction_of, IsAnswer}
use Rattle.pdp_isa.specs.Laws.{is_answer, is_found, is_instruction_of}
use Rattle.pdp_isa.proofs.table.decode.Goals as goal

pub returns-clause-table : goal.returns-clause-table
returns-clause-table c = is_instruction_of c.args.w c.row_of.result c.row_of.ensures.some c.row_of.ensures.none

pub returns-clause-rows : goal.returns-clause-rows
returns-clause-rows c =
    let e : instruction_of c.args.w ≡ c.row_of.result = sym (is_instruction_of c.args.w c.row_of.result c.row_of.ensures.some c.row_of.ensures.none) in
    subst (λ (o : Option Instr). IsAnswer c.args.w o) e (is_answer c.args.w)

pub returns-clause-again : goal.returns-clause-again
returns-clause-again c = λ i e.
    is_instruction_of c.args.w c.row_of.result c.row_of.ensures.some c.row_of.ensures.none ∙ is_found i c.args.w e
