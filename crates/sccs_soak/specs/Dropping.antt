-- A utility whose output is dropped (own): only its refusals are said.
use Rattle.std.specs.Prelude.{◌≡◌, Bool, true, [], map, None, Some, Ok, Err}
use Rattle.std.proofs.Common.{refl, ap, subst, ◌∙◌}
use Rattle.sccs_sid.specs.Reading.{is_empty}
use Rattle.sccs_name_files.specs.StepFiles.{Files}
use Rattle.sccs_steps.specs.Actions.{Action, KeepsFiles, LeavesLocked}
use Rattle.sccs_steps.specs.StepEffects.{Outcome, StepEffect}

-- an accepted step that writes nothing
abbrev pub dropped_effect : StepEffect → StepEffect
dropped_effect d = record { new = d.new; text = []; out = []; err = []; status = d.status }

abbrev pub dropped : Outcome → Outcome
dropped (Ok d) = Ok (dropped_effect d)
dropped (Err refusal) = Err refusal

-- over any disk: what is accepted writes nothing on err, and what is refused is refused as without dropping
abbrev pub could_drop : (Outcome → Bool) → Outcome → Bool
could_drop could (Ok d) = is_empty d.err
could_drop could (Err refusal) = could (Err refusal)

abbrev pub dropping : Action → Action
dropping x = record {
  fits = x.fits;
  step = λ n input named files. dropped (x.step n input named files);
  named = x.named;
  takes = x.takes;
  reads = x.reads;
  locks = x.locks;
  silent = true;
  rule = x.rule;
  could = could_drop x.could;
}

-- it keeps what it keeps without dropping
abbrev accepted : StepEffect → Outcome
accepted d = Ok d

ok_same : (d e : StepEffect) → accepted d ≡ accepted e → d ≡ e
ok_same d e is = cc

dropped_new : (o : Outcome) (d : StepEffect) → ((e : StepEffect) → o ≡ Ok e → e.new ≡ None) → dropped o ≡ Ok d
    → d.new ≡ None
dropped_new (Ok e) d none is = subst (λ (f : StepEffect). f.new ≡ None) (ok_same (dropped_effect e) d is) (none e refl)
dropped_new (Err refusal) d none is = absurd cc

dropped_locked : (o : Outcome) (d : StepEffect) (f g : Files) → ((e : StepEffect) → o ≡ Ok e → e.new ≡ Some g
    → LeavesLocked f g) → dropped o ≡ Ok d → d.new ≡ Some g → LeavesLocked f g
dropped_locked (Ok e) d f g leaves is new =
    leaves e refl (ap (λ (x : StepEffect). x.new) (ok_same (dropped_effect e) d is) ∙ new)
dropped_locked (Err refusal) d f g leaves is new = absurd cc

pub dropping_keeps : (x : Action) → KeepsFiles x → KeepsFiles (dropping x)
dropping_keeps x keeps = record {
  quiet = λ reads n i named f d is. dropped_new (x.step n i named f) d (λ e made. keeps.quiet reads n i named f e made)
      is;
  names = keeps.names;
  locked = λ changes locks n i named f d is there g new. dropped_locked (x.step n i named f) d f g
      (λ e made brings. keeps.locked changes locks n i named f e made there g brings) is new;
  pending = λ changes never n i v f d there is. dropped_new (x.step n i (map v (x.named n)) f) d
      (λ e made. keeps.pending changes never n i v f e there made) is;
}
