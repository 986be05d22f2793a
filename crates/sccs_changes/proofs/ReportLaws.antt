-- A commit, and then its report.
use Rattle.std.proofs.Common.{ℕ, List, Option, Result, Ok, Err}
use Rattle.sccs_sid.specs.declared.refusals.StepFault.{StepFault}
use Rattle.sccs_sid.specs.declared.refusals.StepFault.TheVariants.{Refused, Memory, ReadFault, WriteFault, DiskFault}
use Rattle.sccs_disk.specs.Files.{View}
use Rattle.sccs_steps.specs.Calls.{world}
use Rattle.sccs_store.specs.Commits.{Becomes, committed}
use Rattle.sccs_changes.specs.Changes.{plan_of}
use Rattle.sccs_changes.specs.Ends.{FinishesCommit, Reports}
use Rattle.sccs_changes.specs.declared.prepared.Prepared.{Prepared}

pub reported : (r : Result (Unit {0}) StepFault) (n : List ℕ) (p : Prepared) (a b : Option View)
    (out out2 err err2 : Option (List ℕ)) → Becomes (committed n (plan_of p)) a b → Reports r p (world b out err)
    (world b out2 err2)
    → FinishesCommit r n p (world a out err) (world b out2 err2)
reported (Ok done) n p a b out out2 err err2 done_so reports =
    (done_so, record { out = reports.out; err = reports.err })
reported (Err WriteFault) n p a b out out2 err err2 done_so reports =
    (done_so, record { out = reports.out; err = reports.err })
reported (Err (Refused refusal)) n p a b out out2 err err2 done_so reports = absurd reports
reported (Err Memory) n p a b out out2 err err2 done_so reports = absurd reports
reported (Err ReadFault) n p a b out out2 err err2 done_so reports = absurd reports
reported (Err DiskFault) n p a b out out2 err err2 done_so reports = absurd reports
