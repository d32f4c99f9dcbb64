-- What the names of a list say.
use Rattle.mc_prog.specs.Pieces.{Construct, EnumerationValue, Parameter}
use Rattle.mc_tree.specs.declared.tree.Id.{Id}
use Rattle.mc_pieces.specs.Constructs.{passing_of}
use Rattle.mc_pieces.specs.declared.named.Naming.{Naming}
use Rattle.mc_pieces.specs.declared.named.Naming.TheVariants as naming

abbrev pub naming_of : Naming → Id → Construct
naming_of naming.EnumerationValue = EnumerationValue
naming_of (naming.Parameter passing) = Parameter (passing_of passing)
