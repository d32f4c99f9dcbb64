use Rattle.mc_prog.specs.Known.{declaration_in}
use Rattle.mc_prog.specs.Declarations.{nowhere}
use Rattle.mc_types.specs.NameTables.{found}
use Rattle.mc_types.proofs.NameTables.{put-found}
use Rattle.mc_types.proofs.names.Uses.put.Goals as goal

-- src/names.rt: the table behind one more use
pub returns : goal.returns
returns c = λ namings h place.
    put-found c.args.naming.at place c.args.naming.declared nowhere (declaration_in namings place) (found c.args.self.now.declarations place) (found c.insert.new.self place)
    (c.in_ok-insert.ensures.updates.0 (place.line, place.column)) (h place)
