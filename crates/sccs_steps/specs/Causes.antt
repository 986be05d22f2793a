-- The counts of faults of the objects that a call is handed, and why a call answers a fault.
use Rattle.std.specs.Prelude.{◌≡◌, ◌≢◌, ℕ, ◌≤◌, ◌⊎◌, List, Option, Result, Err}
use Rattle.sccs_base.specs.Stream.{Rose}
use Rattle.sccs_sid.specs.declared.refusals.StepFault.{StepFault}
use Rattle.sccs_sid.specs.declared.refusals.StepFault.TheVariants as step
use Rattle.sccs_steps.specs.declared.faults.Fault.{Fault}
use Rattle.sccs_steps.specs.declared.faults.Fault.TheVariants as end

pub record Counts : Type 0 where
  pub input : ℕ
  pub out : ℕ
  pub err : ℕ
  pub disk : ℕ

abbrev pub counts : ℕ → ℕ → ℕ → ℕ → Counts
counts i o e d = record { input = i; out = o; err = e; disk = d }

-- No count falls, and a fault raised its own.
pub record Rises (reads writes breaks : Type 0) (c c2 : Counts) : Type 0 where
  pub input_later : c.input ≤ c2.input
  pub out_later : c.out ≤ c2.out
  pub err_later : c.err ≤ c2.err
  pub disk_later : c.disk ≤ c2.disk
  pub read : reads → Rose c.input c2.input
  pub write : writes → Rose c.out c2.out ⊎ Rose c.err c2.err
  pub broke : breaks → Rose c.disk c2.disk

abbrev pub StepCauses : {X : Type 0} → Result X StepFault → Counts → Counts → Type 0
StepCauses r c c2 = Rises (r ≡ Err step.ReadFault) (r ≡ Err step.WriteFault) (r ≡ Err step.DiskFault) c c2

abbrev pub RunCauses : Result ℕ Fault → Counts → Counts → Type 0
RunCauses r c c2 = Rises (r ≡ Err end.ReadFault) (r ≡ Err end.WriteFault) (r ≡ Err end.DiskFault) c c2

-- The input is as it was, and none of its calls failed.
pub record Ignores {T E : Type 0} (fault : E) (before after : Option (List ℕ)) (count count2 : ℕ)
    (result : Result T E) : Type 0 where
  pub same : after ≡ before
  pub quiet : count2 ≡ count
  pub cause : result ≢ Err fault

-- The same of what only writes on out, in a step: the count never falls, and no fault but a write fault comes.
pub record WriteCauses {X : Type 0} (r : Result X StepFault) (out out2 : ℕ) : Type 0 where
  pub later : out ≤ out2
  pub write : r ≡ Err step.WriteFault → Rose out out2
  pub read : r ≢ Err step.ReadFault
  pub broke : r ≢ Err step.DiskFault

-- The same of what reads a disk and writes on out.
pub record PrintCauses {X : Type 0} (r : Result X StepFault) (out out2 disk disk2 : ℕ) : Type 0 where
  pub out_later : out ≤ out2
  pub disk_later : disk ≤ disk2
  pub write : r ≡ Err step.WriteFault → Rose out out2
  pub read : r ≢ Err step.ReadFault
  pub broke : r ≡ Err step.DiskFault → Rose disk disk2
