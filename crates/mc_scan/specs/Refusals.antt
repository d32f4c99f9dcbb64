-- The fault of a source that a refusal names.
use Rattle.std.specs.Prelude.{Option, Some, None}
use Rattle.mc_tree.specs.declared.fault.Fault.{Fault}
use Rattle.mc_tree.specs.declared.fault.Code.TheVariants.{BadByte, NumberTooLarge, OpenComment, OpenText}
use Rattle.mc_scan.specs.declared.fault.ScanFault.{ScanFault}
use Rattle.mc_scan.specs.declared.fault.ScanFault.TheVariants.{BadByte as BadByteAt, NumberTooLarge as NumberTooLargeAt, OpenComment as OpenCommentAt, OpenText as OpenTextAt, Memory}

-- want of memory names no fault
abbrev pub fault_of : ScanFault → Option Fault
fault_of (BadByteAt place) = Some (record { code = BadByte; place = place })
fault_of (NumberTooLargeAt place) = Some (record { code = NumberTooLarge; place = place })
fault_of (OpenCommentAt place) = Some (record { code = OpenComment; place = place })
fault_of (OpenTextAt place) = Some (record { code = OpenText; place = place })
fault_of Memory = None
