-- Every reserved word stands in the list of them.
use Rattle.std.proofs.Common.{◌≡◌, ◌<◌, ℕ, get_or, refl, arith}
use Rattle.mc_tree.specs.declared.token.Reserved.{Reserved}
use Rattle.mc_tree.specs.declared.token.Reserved.TheVariants.{AndWord, ArrayWord, BeginWord, CaseWord, ConstWord, DefineWord, DeviceWord, DivWord, DoWord, ElseWord, ElsifWord, EndWord, ExitWord, IfWord, InterfaceWord, LoopWord, ModWord, ModuleWord, NotWord, OfWord, OrWord, ProcedureWord, ProcessWord, RecordWord, RepeatWord, ThenWord, TypeWord, UntilWord, UseWord, VarWord, WhenWord, WhileWord, XorWord}
use Rattle.mc_tree.specs.KindLaws.{all_words}

pub record IsListed (word : Reserved) : Type 0 where
  pub index : ℕ
  pub within : index < 33
  pub stands : get_or all_words index word ≡ word

pub listed : (word : Reserved) → IsListed word
listed AndWord = record { index = 0; within = omega arith; stands = refl }
listed ArrayWord = record { index = 1; within = omega arith; stands = refl }
listed BeginWord = record { index = 2; within = omega arith; stands = refl }
listed CaseWord = record { index = 3; within = omega arith; stands = refl }
listed ConstWord = record { index = 4; within = omega arith; stands = refl }
listed DefineWord = record { index = 5; within = omega arith; stands = refl }
listed DeviceWord = record { index = 6; within = omega arith; stands = refl }
listed DivWord = record { index = 7; within = omega arith; stands = refl }
listed DoWord = record { index = 8; within = omega arith; stands = refl }
listed ElseWord = record { index = 9; within = omega arith; stands = refl }
listed ElsifWord = record { index = 10; within = omega arith; stands = refl }
listed EndWord = record { index = 11; within = omega arith; stands = refl }
listed ExitWord = record { index = 12; within = omega arith; stands = refl }
listed IfWord = record { index = 13; within = omega arith; stands = refl }
listed InterfaceWord = record { index = 14; within = omega arith; stands = refl }
listed LoopWord = record { index = 15; within = omega arith; stands = refl }
listed ModWord = record { index = 16; within = omega arith; stands = refl }
listed ModuleWord = record { index = 17; within = omega arith; stands = refl }
listed NotWord = record { index = 18; within = omega arith; stands = refl }
listed OfWord = record { index = 19; within = omega arith; stands = refl }
listed OrWord = record { index = 20; within = omega arith; stands = refl }
listed ProcedureWord = record { index = 21; within = omega arith; stands = refl }
listed ProcessWord = record { index = 22; within = omega arith; stands = refl }
listed RecordWord = record { index = 23; within = omega arith; stands = refl }
listed RepeatWord = record { index = 24; within = omega arith; stands = refl }
listed ThenWord = record { index = 25; within = omega arith; stands = refl }
listed TypeWord = record { index = 26; within = omega arith; stands = refl }
listed UntilWord = record { index = 27; within = omega arith; stands = refl }
listed UseWord = record { index = 28; within = omega arith; stands = refl }
listed VarWord = record { index = 29; within = omega arith; stands = refl }
listed WhenWord = record { index = 30; within = omega arith; stands = refl }
listed WhileWord = record { index = 31; within = omega arith; stands = refl }
listed XorWord = record { index = 32; within = omega arith; stands = refl }
