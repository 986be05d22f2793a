-- How a change ends that has prepared its files, or that gave up.
use Rattle.std.specs.Prelude.{◌≡◌, ◌⊎◌, ℕ, List, Result, Ok, Err}
use Rattle.sccs_base.specs.Stream.{GivesOk, GivesSome}
use Rattle.sccs_sid.specs.declared.refusals.StepFault.{StepFault}
use Rattle.sccs_sid.specs.declared.refusals.StepFault.TheVariants.{WriteFault, DiskFault}
use Rattle.sccs_name_files.specs.StepFiles.{Moves, is_left}
use Rattle.sccs_steps.specs.Calls.{World}
use Rattle.sccs_store.specs.Commits.{Becomes, IsPart, abandoned, committed}
use Rattle.sccs_changes.specs.Changes.{plan_of}
use Rattle.sccs_changes.specs.declared.prepared.Prepared.{Prepared}

-- report and message are given
pub record IsReported (p : Prepared) (w w2 : World) : Type 0 where
  pub out : GivesOk w.out w2.out p.report
  pub err : GivesOk w.err w2.err p.message

-- prefixes of them are
pub record IsReportCut (p : Prepared) (w w2 : World) : Type 0 where
  pub out : GivesSome w.out w2.out p.report
  pub err : GivesSome w.err w2.err p.message

abbrev pub Reports : Result (Unit {0}) StepFault → Prepared → World → World → Type 0
Reports (Ok done) p w w2 = IsReported p w w2
Reports (Err WriteFault) p w w2 = IsReportCut p w w2
Reports (Err fault) p w w2 = ⊥

-- the commit is made and reported; or its report is cut; or it failed after some of its changes
abbrev pub FinishesCommit : Result (Unit {0}) StepFault → List ℕ → Prepared → World → World → Type 0
FinishesCommit (Ok done) n p w w2 = Becomes (committed n (plan_of p)) w.view w2.view × IsReported p w w2
FinishesCommit (Err WriteFault) n p w w2 = Becomes (committed n (plan_of p)) w.view w2.view × IsReportCut p w w2
FinishesCommit (Err DiskFault) n p w w2 = IsPart n (plan_of p) w.view w2.view × (w2.out ≡ w.out) × (w2.err ≡ w.err)
FinishesCommit (Err fault) n p w w2 = ⊥

-- the working files and the z-file are gone, and the answer is the fault; or the disk failed
abbrev pub GivesUp : Result (Unit {0}) StepFault → StepFault → List ℕ → World → World → Type 0
GivesUp r fault n w w2 =
    ((r ≡ Err fault) × Becomes (abandoned n) w.view w2.view) ⊎ ((r ≡ Err DiskFault) × Moves (is_left n)
    (λ v. v) w.view w2.view)
