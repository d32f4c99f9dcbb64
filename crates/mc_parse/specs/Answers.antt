-- What a refusal of tokens says.
use Rattle.std.specs.Prelude.{List}
use Rattle.mc_tree.specs.declared.place.Place.{Place}
use Rattle.mc_tree.specs.declared.token.Token.{Token}
use Rattle.mc_tree.specs.Programs.{IsWrongAt, IsTooDeepAt}
use Rattle.mc_parse.specs.declared.fault.ParseFault.{ParseFault}
use Rattle.mc_parse.specs.declared.fault.ParseFault.TheVariants.{Unexpected, TooDeep, Memory}

-- the tokens have this fault; want of memory says nothing of them
abbrev pub IsAnswered : Place → List Token → ParseFault → Type 0
IsAnswered end tokens (Unexpected place) = IsWrongAt end place tokens
IsAnswered end tokens (TooDeep place) = IsTooDeepAt place tokens
IsAnswered end tokens Memory = Unit {0}
