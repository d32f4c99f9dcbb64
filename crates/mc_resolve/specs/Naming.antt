-- What each name of a list does.
use Rattle.mc_prog.specs.Notes.{Item, Declares, Field, Knows, Lists, Defines}
use Rattle.mc_tree.specs.declared.tree.Id.{Id}
use Rattle.mc_resolve.specs.declared.put.Naming.{Naming}
use Rattle.mc_resolve.specs.declared.put.Naming.TheVariants as naming

abbrev pub naming_of : Naming → Id → Item
naming_of naming.Declares = Declares
naming_of naming.Field = Field
naming_of naming.Knows = Knows
naming_of naming.Lists = Lists
naming_of naming.Defines = Defines
