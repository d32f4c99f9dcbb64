-- What the words behind a command say, as the code keeps it.
use Rattle.std.specs.Prelude.{List, map, length, codes}
use Rattle.clap.specs.Walk.{Row}
use Rattle.mc_words.specs.declared.options.Said.{Said}
use Rattle.mc_words.specs.Options.{Parts}
use Rattle.mc_words.specs.Rows.{values_in}

abbrev pub said_by : Said → Parts
said_by s =
    record { journals = s.journals; settings = map (λ v. v.now) s.settings.items; positionals = map (λ w. w.now) s.positionals.items }

-- what a parse has found
abbrev pub found_in : List Row → Parts
found_in rows =
    record {
      journals = length (values_in (codes "journal") rows);
      settings = values_in (codes "settings") rows;
      positionals = values_in (codes "word") rows;
    }
