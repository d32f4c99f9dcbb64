-- The fault of a list of tokens that a refusal names.
use Rattle.std.specs.Prelude.{Option, Some, None}
use Rattle.mc_tree.specs.declared.fault.Fault.{Fault}
use Rattle.mc_tree.specs.declared.fault.Code.TheVariants.{Unexpected, TooDeep}
use Rattle.mc_parse.specs.declared.fault.ParseFault.{ParseFault}
use Rattle.mc_parse.specs.declared.fault.ParseFault.TheVariants.{Unexpected as UnexpectedAt, TooDeep as TooDeepAt, Memory}

-- want of memory names no fault
abbrev pub fault_of : ParseFault → Option Fault
fault_of (UnexpectedAt place) = Some (record { code = Unexpected; place = place })
fault_of (TooDeepAt place) = Some (record { code = TooDeep; place = place })
fault_of Memory = None
