-- What a note of the code says of names.
use Rattle.mc_prog.specs.Notes.{Item, ScopeKind, Block, Code, Record, Opens, Closes, Declares, Field, Knows, Lists, Defines, Uses, Ends}
use Rattle.mc_resolve.specs.declared.item.ScopeKind.{ScopeKind as Kind}
use Rattle.mc_resolve.specs.declared.item.ScopeKind.TheVariants as kind
use Rattle.mc_resolve.specs.declared.item.Note.{Note}
use Rattle.mc_resolve.specs.declared.item.Note.TheVariants as note

abbrev pub kind_of : Kind → ScopeKind
kind_of kind.Block = Block
kind_of kind.Code = Code
kind_of kind.Record = Record

abbrev pub item_of : Note → Item
item_of (note.Opens k) = Opens (kind_of k)
item_of note.Closes = Closes
item_of (note.Declares id) = Declares id.now
item_of (note.Field id) = Field id.now
item_of (note.Knows id) = Knows id.now
item_of (note.Lists id) = Lists id.now
item_of (note.Defines id) = Defines id.now
item_of (note.Uses id) = Uses id.now
item_of (note.Ends id last) = Ends id.now last.now
