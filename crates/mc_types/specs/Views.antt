-- What the code keeps of what the definitions say.
use Rattle.std.specs.Prelude.{List}
use Rattle.std.specs.Borrow.{Bor}
use Rattle.mc_tree.specs.declared.tree.Ids.{Ids}
use Rattle.mc_prog.specs.declared.program.TypeInfo.{TypeInfo}
use Rattle.mc_prog.specs.declared.typing.Said.{Said}
use Rattle.mc_prog.specs.Declarations.{Built}

-- what is said of a written type, and the types with those that it adds
abbrev pub built_of : Said → List TypeInfo → Built
built_of said types_ = record { meaning = said.meaning; fault = said.fault; types = types_ }

-- the names that are referred to
abbrev pub ids_of : Bor Ids → Ids
ids_of names = names.now
