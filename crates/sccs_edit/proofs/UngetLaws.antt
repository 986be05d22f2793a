-- What unget decides.
use Rattle.std.proofs.Common.{◌≡◌, ℕ, ◌≤◌, ◌<◌, ◌-◌, Bool, List, [], ◌∷◌, length, remove, Result, Ok, Err, ap, ◌∙◌}
use Rattle.std.proofs.Common.{arith}
use Rattle.sccs_sid.specs.Reading.{◌>>=◌}
use Rattle.sccs_sid.specs.declared.moments.Stamp.{Stamp}
use Rattle.sccs_sid.specs.declared.refusals.Refusal.{Refusal}
use Rattle.sccs_sid.specs.declared.refusals.StepFault.{StepFault}
use Rattle.sccs_sid.specs.declared.refusals.StepFault.TheVariants.{Refused, Memory, ReadFault, WriteFault, DiskFault}
use Rattle.sccs_pfile.specs.declared.entries.Edit.{Edit}
use Rattle.sccs_words.specs.declared.commands.UngetWords.{UngetWords}
use Rattle.sccs_changes.specs.NewEntries.{Decided}
use Rattle.sccs_changes.specs.PFiles.{Answers}
use Rattle.sccs_changes.specs.Pending.{Found}
use Rattle.sccs_changes.specs.declared.pending.Pending.{Pending}
use Rattle.sccs_changes.proofs.EntryChanges.{ShowsFound}
use Rattle.sccs_edit.specs.UngetStep.{login_entry, unget_decides, without_entry}

decides_as : (words : UngetWords) (stamp : Stamp) (heading : Bool) (n : List ℕ) (x : Pending) (found : Found)
    (r : Result ℕ Refusal) → ShowsFound x found → login_entry words stamp x.edits ≡ r
    → unget_decides words stamp heading n found ≡ (r >>= λ number. Ok (without_entry words heading n x.edits number))
unfolding unget_decides
decides_as words stamp heading n x found r shows is =
    ap (λ (edits : List Edit). login_entry words stamp edits >>= λ number.
    Ok (without_entry words heading n edits number)) shows.1 ∙ ap (λ (s : Result ℕ Refusal). s >>= λ number.
    Ok (without_entry words heading n x.edits number)) is

pub none_meant : (words : UngetWords) (stamp : Stamp) (heading : Bool) (n : List ℕ) (x : Pending) (fault : StepFault)
    → Answers {A = ℕ} (login_entry words stamp x.edits) (Err fault) → (found : Found) → ShowsFound x found
    → Answers {A = Decided} (unget_decides words stamp heading n found) (Err fault)
none_meant words stamp heading n x (Refused refusal) answers found shows = decides_as words stamp heading n x found
    (Err refusal) shows answers
none_meant words stamp heading n x Memory answers found shows = tt
none_meant words stamp heading n x DiskFault answers found shows = tt
none_meant words stamp heading n x ReadFault answers found shows = answers
none_meant words stamp heading n x WriteFault answers found shows = answers

pub one_meant : (words : UngetWords) (stamp : Stamp) (heading : Bool) (n : List ℕ) (x : Pending) (number : ℕ)
    → login_entry words stamp x.edits ≡ Ok number → (found : Found) → ShowsFound x found
    → unget_decides words stamp heading n found ≡ Ok (without_entry words heading n x.edits number)
one_meant words stamp heading n x number is found shows = decides_as words stamp heading n x found (Ok number) shows is

pub some_edits : (edits : List Edit) (number : ℕ) → 0 < number → number ≤ length edits → remove edits (number - 1) ≡ []
    → edits ≡ [] → ⊥
some_edits [] number some there left none = omega (arith, some, there)
some_edits (e ∷ edits) number some there left none = cc
