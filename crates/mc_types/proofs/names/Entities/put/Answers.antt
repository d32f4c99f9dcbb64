use Rattle.mc_prog.specs.declared.typing.Entity.TheVariants as entity
use Rattle.mc_prog.specs.Known.{entity_in}
use Rattle.mc_types.specs.NameTables.{found}
use Rattle.mc_types.proofs.NameTables.{put-found}
use Rattle.mc_types.proofs.names.Entities.put.Goals as goal

-- src/names.rt: the table behind one more declaration
pub returns : goal.returns
returns c = λ list h place.
    put-found c.args.place place c.args.entity entity.Ahead (entity_in list place) (found c.args.self.now.entities place) (found c.insert.new.self place)
    (c.in_ok-insert.ensures.updates.0 (place.line, place.column)) (h place)
