-- A change as a utility.
use Rattle.std.proofs.Common.{◌≡◌, ℕ, true, false, List, Option, None, Some, Err, refl}
use Rattle.std.specs.Prelude.{IsSome, is_none}
use Rattle.sccs_base.specs.Name.{IsSFileName, is_sfile_name, sfile_name_decides}
use Rattle.sccs_steps.specs.Actions.{KeepsFiles}
use Rattle.sccs_disk.specs.Files.{Content}
use Rattle.sccs_name_files.specs.StepFiles.{Files}
use Rattle.sccs_sid.specs.declared.refusals.Refusal.TheVariants.{Locked}
use Rattle.sccs_changes.specs.Changes.{Changing, locking, locking_step}

pub is_sfile : (n : List ℕ) → is_sfile_name n ≡ true → IsSFileName n
is_sfile n fits = ((sfile_name_decides n).0 fits).1

taken : (o : Option Content) → IsSome o → is_none o ≡ false
taken None there = absurd (cc)
taken (Some c) there = refl

-- a locked name is refused
pub taken_step : (x : Changing) (n i : List ℕ) (named : List (Option Content)) (f : Files) → IsSome f.z
    → locking_step x.outcome n i named f ≡ Err (Locked)
unfolding locking_step
taken_step x n i named f there = rw (taken f.z there) refl

-- it doesn't only read
pub locking_keeps : (x : Changing) → KeepsFiles (locking x)
locking_keeps x = record {
  quiet = λ reads n i named f d is. absurd cc;
  names = λ changes n fits. is_sfile n fits;
  locked = λ changes locks n i named f d is there g new. absurd (let refused = taken_step x n i named f there in cc);
  pending = λ changes never n i v f d there is. absurd cc;
}
