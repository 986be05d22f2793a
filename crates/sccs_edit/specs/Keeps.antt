-- tell and check change no file.
use Rattle.std.proofs.Common.{◌≡◌, ℕ, Bool, List, None, Result, Ok, Err, refl, sym, ap, ◌∙◌}
use Rattle.sccs_sid.specs.Reading.{◌>>=◌}
use Rattle.sccs_sid.specs.declared.refusals.Refusal.{Refusal}
use Rattle.sccs_name_files.specs.StepFiles.{Files}
use Rattle.sccs_pfile.specs.declared.entries.Edit.{Edit}
use Rattle.sccs_steps.specs.StepEffects.{StepEffect}
use Rattle.sccs_steps.specs.Actions.{KeepsFiles}
use Rattle.sccs_edit.specs.SactStep.{found_edits}
use Rattle.sccs_edit.specs.PendingStep.{pending_action, pending_step, shows_pending}

kept_by : (whole : Bool) (n : List ℕ) (r : Result (List Edit) Refusal) (d : StepEffect)
    → (r >>= λ edits. Ok (shows_pending whole n edits)) ≡ Ok d → d.new ≡ None
kept_by whole n (Ok edits) d is = ap (λ (e : StepEffect). e.new) (let same : shows_pending whole n edits ≡ d = cc in
    sym same)
kept_by whole n (Err refusal) d is = absurd cc

pub step_is : (whole : Bool) (n : List ℕ) (f : Files) → pending_step whole n f ≡ (found_edits f >>= λ edits.
    Ok (shows_pending whole n edits))
unfolding pending_step
step_is whole n f = refl

pub pending_keeps : (whole : Bool) → KeepsFiles (pending_action whole)
pending_keeps whole = record {
  quiet = λ reads n i named f d is. kept_by whole n (found_edits f) d
      (sym (step_is whole n f) ∙ is);
  names = λ changes n fits. absurd cc;
  locked =
      λ changes locks n i named f d is there g new. absurd cc;
  pending = λ changes never n i v f d there is. absurd cc;
}
