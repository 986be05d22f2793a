-- sact changes no file, and a locked name is one of unget's refusals.
use Rattle.std.proofs.Common.{◌≡◌, ℕ, Bool, true, List, None, Result, Ok, Err, refl, sym, ap, ◌∙◌}
use Rattle.sccs_sid.specs.Reading.{◌>>=◌}
use Rattle.sccs_sid.specs.declared.moments.Stamp.{Stamp}
use Rattle.sccs_sid.specs.declared.refusals.Refusal.{Refusal}
use Rattle.sccs_sid.specs.declared.refusals.Refusal.TheVariants.{Locked}
use Rattle.sccs_name_files.specs.StepFiles.{Files}
use Rattle.sccs_pfile.specs.declared.entries.Edit.{Edit}
use Rattle.sccs_steps.specs.StepEffects.{StepEffect}
use Rattle.sccs_steps.specs.Actions.{KeepsFiles}
use Rattle.sccs_words.specs.declared.commands.UngetWords.{UngetWords}
use Rattle.sccs_edit.specs.SactStep.{found_edits, sact_action, sact_step, shows_entries}
use Rattle.sccs_edit.specs.UngetStep.{unget_change}

kept_by : (heading : Bool) (n : List ℕ) (r : Result (List Edit) Refusal) (d : StepEffect)
    → (r >>= λ edits. Ok (shows_entries heading n edits)) ≡ Ok d → d.new ≡ None
kept_by heading n (Ok edits) d is = ap (λ (e : StepEffect). e.new) (let same : shows_entries heading n edits ≡ d = cc in
    sym same)
kept_by heading n (Err refusal) d is = absurd cc

pub step_is : (heading : Bool) (n : List ℕ) (f : Files) → sact_step heading n f ≡ (found_edits f >>= λ edits.
    Ok (shows_entries heading n edits))
unfolding sact_step
step_is heading n f = refl

pub sact_keeps : (heading : Bool) → KeepsFiles (sact_action heading)
sact_keeps heading = record {
  quiet = λ reads n i named f d is. kept_by heading n (found_edits f) d
      (sym (step_is heading n f) ∙ is);
  names = λ changes n fits. absurd cc;
  locked =
      λ changes locks n i named f d is there g new. absurd cc;
  pending = λ changes never n i v f d there is. absurd cc;
}

pub unget_locked : (words : UngetWords) (stamp : Stamp) (heading : Bool) → (unget_change words stamp heading).could
    (Err Locked) ≡ true
unget_locked words stamp heading = refl
