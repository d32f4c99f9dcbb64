use Rattle.std.proofs.Common.{◌∙◌, ap, Some, if◌then◌else◌}
use Rattle.mc_tree.specs.declared.place.Place.{Place}
use Rattle.mc_prog.specs.Known.{same_place}
use Rattle.mc_prog.specs.Resolved.{Text, text_of}
use Rattle.mc_types.specs.NameTables.{found}
use Rattle.mc_types.proofs.NameTables.{put-first}
use Rattle.mc_types.proofs.placed.Placed.put.Goals as goal

-- src/placed.rt: the table behind one more text
pub returns : goal.returns
returns c = λ texts h place.
    put-first c.text.inside.at place c.args.text (text_of texts place) (found c.args.self.now.texts place) (found c.insert.new.self place)
    (c.in_ok-insert.ensures.updates.0 (place.line, place.column)) (h place)
    ∙ ap (λ (x : Place). if same_place x place then Some c.args.text else text_of texts place) (ap (λ (t : Text). t.at) c.text.view_is)
