-- What a step does with the files that it sees.
use Rattle.std.specs.Prelude.{◌≡◌, ℕ, Bool, true, false, List, [], Option, None, Some, Result, Ok, Err}
use Rattle.sccs_sid.specs.Refusal.{refusal_line}
use Rattle.sccs_sid.specs.declared.refusals.Refusal.{Refusal}
use Rattle.sccs_name_files.specs.StepFiles.{Files}

-- What a step that is accepted does.
pub record StepEffect : Type 0 where
  -- the files of its name, where they change
  pub new : Option Files
  -- what it prints on out before its commit
  pub text : List ℕ
  -- its report, on out and on err
  pub out : List ℕ
  pub err : List ℕ
  pub status : ℕ

-- what it does, or why it is refused
abbrev pub Outcome : Type 0
Outcome = Result StepEffect Refusal

-- the check of a refusal
abbrev pub check : Bool → Refusal → Result Bool Refusal
check true refusal = Ok true
check false refusal = Err refusal

-- what is there, else a refusal
abbrev pub there : {A : Type 0} → Option A → Refusal → Result A Refusal
there None refusal = Err refusal
there (Some x) refusal = Ok x

-- what a step does, a refused one too
abbrev pub effect_of : List ℕ → Outcome → StepEffect
effect_of name (Ok effect) = effect
effect_of name (Err refusal) = record { new = None; text = []; out = []; err = refusal_line name refusal; status = 1 }
