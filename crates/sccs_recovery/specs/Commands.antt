-- What the command recover says.
use Rattle.std.specs.Prelude.{◌≡◌, ℕ, Bool, true, false, List, [], ◌∷◌, Option, None, Some, IsSome, Result, Ok, Err}
use Rattle.sccs_base.specs.Name.{sfile_name_decides}
use Rattle.sccs_base.specs.Stream.{GivesOk, GivesSome}
use Rattle.sccs_sid.specs.declared.refusals.StepFault.{StepFault}
use Rattle.sccs_sid.specs.declared.refusals.StepFault.TheVariants.{WriteFault}
use Rattle.sccs_disk.specs.Files.{Content}
use Rattle.sccs_name_files.specs.StepFiles.{Files}
use Rattle.sccs_intents.specs.Intents.{intent_file}
use Rattle.sccs_steps.specs.Actions.{KeepsFiles}
use Rattle.sccs_steps.specs.StepEffects.{StepEffect}
use Rattle.sccs_recovery.specs.RecoverStep.{recover_action, recover_outcome}
use Rattle.sccs_recovery.specs.declared.recoveries.Recovered.{Recovered}
use Rattle.sccs_recovery.specs.declared.recoveries.Recovered.TheVariants as found

-- whether the z-file was there
abbrev pub is_locked : Recovered → Bool
is_locked found.Clean = false
is_locked found.Recovered = true

-- the text is said, or a prefix of it
abbrev pub Says : Result (Unit {0}) StepFault → List ℕ → Option (List ℕ) → Option (List ℕ) → Type 0
Says (Ok done) text out out2 = GivesOk out out2 text
Says (Err WriteFault) text out out2 = GivesSome out out2 text
Says (Err fault) text out out2 = ⊥

-- an intent that is there refuses the step
pub refused_step : (freed : List ℕ → Bool) (n : List ℕ) (intent : Option Content) (f : Files) (d : StepEffect)
    → IsSome intent → recover_outcome freed n (intent ∷ []) f ≡ Ok d → d.new ≡ None
unfolding recover_outcome
refused_step freed n None f d there is = absurd cc
refused_step freed n (Some c) f d there is = absurd cc

-- it doesn't only read
pub recover_keeps : (freed : List ℕ → Bool) → KeepsFiles (recover_action freed)
recover_keeps freed = record {
  quiet = λ reads n i named f d is. absurd cc;
  names = λ changes n fits. ((sfile_name_decides n).0 fits).1;
  locked = λ changes locks n i named f d is there g new. absurd cc;
  pending = λ changes never n i v f d there is. refused_step freed n (v intent_file) f d there is;
}
