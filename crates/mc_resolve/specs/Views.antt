-- What the code's names in scopes stand for.
use Rattle.mc_prog.specs.Scopes.{Named}
use Rattle.mc_resolve.specs.declared.named.Named.{Named as NamedThere}

abbrev pub named_of : NamedThere → Named
named_of n = record { scope = n.scope; name = n.name.now }
