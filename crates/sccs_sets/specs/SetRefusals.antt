-- The refusal of a list of SIDs that names no deltas.
use Rattle.std.specs.Prelude.{Result, Ok, Err}
use Rattle.sccs_sid.specs.declared.sids.Sid.{Sid}
use Rattle.sccs_sid.specs.declared.refusals.Refusal.{Refusal}
use Rattle.sccs_sid.specs.declared.refusals.Refusal.TheVariants.{BadList}
use Rattle.sccs_sid.specs.declared.refusals.StepFault.{StepFault}
use Rattle.sccs_sid.specs.declared.refusals.StepFault.TheVariants.{Refused, Memory}
use Rattle.sccs_sets.specs.declared.faults.SetFault.{SetFault}
use Rattle.sccs_sets.specs.declared.faults.SetFault.TheVariants as sets

-- how a step ends where a set can't be made
abbrev pub set_fault : SetFault → StepFault
set_fault (sets.BadList sid) = Refused (BadList sid)
set_fault sets.Memory = Memory

abbrev pub or_bad_list : {A : Type 0} → Result A Sid → Result A Refusal
or_bad_list (Ok x) = Ok x
or_bad_list (Err sid) = Err (BadList sid)
