-- The configuration that is kept, and what an operation gives.
use Rattle.std.specs.Prelude.{ℕ, Result, Ok, Err}
use Rattle.mc_prog.specs.declared.values.Trap.{Trap}
use Rattle.mc_prog.specs.Traps.{number_of}
use Rattle.mc_prog.specs.Values.{Outcome, Gives, Traps}
use Rattle.mc_meaning.specs.declared.configuration.Config.{Config}
use Rattle.mc_meaning.specs.Configuration.{Configuration}
use Rattle.mc_meaning.specs.StoredWords.{words_in}

abbrev pub configuration_of : Config → Configuration
configuration_of c = record {
  store = words_in c.store;
  devices = c.devices;
  processes = c.processes.items;
  foot = c.foot;
  nest = c.nest.items;
  waiters = c.waiters.items;
  trap = c.trap;
  journal = c.journal.items;
}

abbrev pub outcome_of : Result ℕ Trap → Outcome
outcome_of (Ok w) = Gives w
outcome_of (Err trap) = Traps (number_of trap)
