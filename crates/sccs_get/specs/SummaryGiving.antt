-- What giving the summary of a get answers and leaves.
use Rattle.std.specs.Prelude.{◌≡◌, ℕ, Bool, true, false, List, Option, Result, Ok, Err, if◌then◌else◌}
use Rattle.sccs_base.specs.Stream.{GivesOk, GivesSome}
use Rattle.sccs_disk.specs.Files.{View}
use Rattle.sccs_sid.specs.declared.refusals.StepFault.{StepFault}
use Rattle.sccs_steps.specs.Calls.{World}
use Rattle.sccs_store.specs.Commits.{Becomes}
use Rattle.sccs_words.specs.declared.commands.GetWords.{GetWords}
use Rattle.sccs_summary.specs.SummaryFiles.{MakesPartly, l_made}
use Rattle.sccs_get.specs.Giving.{IsLate}
use Rattle.sccs_get.specs.SummaryStep.{printed_summary, writes_l}

-- the view with the new l-file, where there is one
abbrev pub summed_view : GetWords → List ℕ → List ℕ → View → View
summed_view words n summary v = if writes_l words then l_made n summary v else v

-- the old l-file or the new one, whole; at most the y-file is another besides
abbrev pub MakesSome : Bool → List ℕ → List ℕ → Option View → Option View → Type 0
MakesSome true n summary old new = MakesPartly n summary old new
MakesSome false n summary old new = new ≡ old

-- it was given; or a prefix of what goes to out, and the l-file is the old one or the new one
abbrev pub GivesSummary : GetWords → List ℕ → List ℕ → Result (Unit {0}) StepFault → World → World → Type 0
GivesSummary words n summary (Ok done) w w2 = GivesOk w.out w2.out (printed_summary words summary)
    × Becomes (summed_view words n summary) w.view w2.view
GivesSummary words n summary (Err fault) w w2 = IsLate fault × GivesSome w.out w2.out (printed_summary words summary)
    × MakesSome (writes_l words) n summary w.view w2.view
