-- A program of process code, as contracts see it.
use Rattle.std.specs.Prelude.{ℕ, List}
use Rattle.mc_pcode.specs.declared.instruction.PInstr.{PInstr}
use Rattle.mc_pcode.specs.declared.program.PEntry.{PEntry}
use Rattle.mc_pcode.specs.declared.program.PProcess.{PProcess}

pub record ProcessCode : Type 0 where
  pub code : List PInstr
  pub entries : List PEntry
  pub processes : List PProcess
  pub priorities : List ℕ
  pub texts : List ℕ
  pub data_words : ℕ
