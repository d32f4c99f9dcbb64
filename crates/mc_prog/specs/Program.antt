-- The resolved program: what a source stands for once its names are found. Modules, variables, procedures and
-- processes are numbered from 0 in the order of the text. It has the parts that the sources accepted today use.
use Rattle.std.specs.Prelude.{ℕ, List, Option}

-- what can be named
pub data Designator : Type 0 where
  -- a module's variable, by its number
  Cell : ℕ → Designator

pub data Expression : Type 0 where
  -- a number, a character or another constant, as a word
  Constant : ℕ → Expression

pub data Statement : Type 0 where
  Assign : Designator → Expression → Statement

pub data ModuleKind : Type 0 where
  Plain : ModuleKind
  Interface : ModuleKind
  Device : ModuleKind

pub record Module : Type 0 where
  pub kind : ModuleKind
  -- 0 where it has none
  pub priority : ℕ
  -- what stands between its begin and its end
  pub body : List Statement
  -- how many words of a workspace a call of the body is counted for
  pub frame : ℕ

-- a module's variable, with its address where it is a device register
pub record CellInfo : Type 0 where
  pub module_of : ℕ
  pub register : Option ℕ

pub record Program : Type 0 where
  pub modules : List Module
  pub cells : List CellInfo
  -- the bodies that the main process runs, by their modules, in their order
  pub main : List ℕ
  -- how many words the text of the main process is counted for
  pub main_frame : ℕ
