-- What the code keeps behind some of the texts.
use Rattle.std.specs.Prelude.{◌≡◌, List, Option}
use Rattle.mc_tree.specs.declared.fault.Fault.{Fault}
use Rattle.mc_prog.specs.declared.program.CodeInfo.{CodeInfo}
use Rattle.mc_prog.specs.Known.{Known}
use Rattle.mc_prog.specs.Passes.{passed, HasFaultOf}
use Rattle.mc_prog.specs.Pieces.{Piece}
use Rattle.mc_prog.specs.Resolved.{Texts, no_texts, text_fault, texts_behind}
use Rattle.mc_types.specs.Ranks.{IsLeastOf}

-- what is kept behind some of all pieces, and their first fault so far
pub record AreTextsOf (k : Known) (procedures : List CodeInfo) (pieces some : List Piece) (texts_ : Texts) (fault_ : Option Fault) : Type 0 where
  pub texts : texts_ ≡ passed (texts_behind k procedures pieces) no_texts some
  pub fault : IsLeastOf (HasFaultOf (texts_behind k procedures pieces) (text_fault k pieces) no_texts some) fault_
