-- The refusal of a file that isn't read.
use Rattle.std.specs.Prelude.{Option, None, Some, Result, Ok, Err}
use Rattle.sccs_sid.specs.declared.refusals.Refusal.{Refusal}
use Rattle.sccs_sid.specs.declared.refusals.Refusal.TheVariants as refusals
use Rattle.sccs_sid.specs.declared.refusals.StepFault.{StepFault}
use Rattle.sccs_sid.specs.declared.refusals.StepFault.TheVariants.{Refused, Memory, DiskFault}
use Rattle.sccs_grammar.specs.declared.faults.FileFault.{FileFault}
use Rattle.sccs_grammar.specs.declared.faults.FileFault.TheVariants as faults
use Rattle.sccs_grammar.specs.declared.header_parsers.FrontFault.{FrontFault}
use Rattle.sccs_grammar.specs.declared.header_parsers.FrontFault.TheVariants as fronts

-- the fault of a file whose header isn't read on
abbrev pub unread_front : FrontFault → FileFault
unread_front (fronts.Format line) = faults.BadFormat line
unread_front fronts.Memory = faults.Memory

-- the refusal for a file that isn't read; a disk that failed and want of memory are none
abbrev pub refusal_of : FileFault → Option Refusal
refusal_of faults.Missing = Some refusals.Missing
refusal_of faults.TooLong = Some refusals.TooLong
refusal_of faults.NotSccs = Some refusals.NotSccs
refusal_of (faults.BadSum stored sum) = Some (refusals.BadSum stored sum)
refusal_of (faults.BadFormat line) = Some (refusals.BadFormat line)
refusal_of faults.Encoded = Some refusals.Encoded
refusal_of (faults.Changed size sum size_now sum_now) = Some (refusals.Changed size sum size_now sum_now)
refusal_of faults.Failed = None
refusal_of faults.Memory = None

-- how a step ends where a file isn't read
abbrev pub file_fault : FileFault → StepFault
file_fault faults.Missing = Refused refusals.Missing
file_fault faults.TooLong = Refused refusals.TooLong
file_fault faults.NotSccs = Refused refusals.NotSccs
file_fault (faults.BadSum stored sum) = Refused (refusals.BadSum stored sum)
file_fault (faults.BadFormat line) = Refused (refusals.BadFormat line)
file_fault faults.Encoded = Refused refusals.Encoded
file_fault (faults.Changed size sum size_now sum_now) = Refused (refusals.Changed size sum size_now sum_now)
file_fault faults.Failed = DiskFault
file_fault faults.Memory = Memory

-- The same of what the bytes of a file give. They alone give neither of the last two faults, so that the default is
-- never taken:
-- each fault of theirs is a refusal.
abbrev pub or_none : Option Refusal → Refusal
or_none None = refusals.Missing
or_none (Some refusal) = refusal

abbrev pub or_refusal : {A : Type 0} → Result A FileFault → Result A Refusal
or_refusal (Ok x) = Ok x
or_refusal (Err fault) = Err (or_none (refusal_of fault))
