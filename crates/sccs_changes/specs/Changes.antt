-- A change of the files of a name: what it prepares between its lock and its commit, and the action that it is.
use Rattle.std.specs.Prelude.{◌≡◌, ◌⊎◌, ◌||◌, ℕ, Bool, true, false, List, [], map, drop, Option, None, Some, Result, Ok}
use Rattle.std.specs.Prelude.{Err, IfSome, is_none}
use Rattle.std.specs.Result.{IfOk}
use Rattle.std.specs.Str.{bytes_eq}
use Rattle.sccs_base.specs.Name.{is_sfile_name, p_file, q_file, x_file, y_file, z_file}
use Rattle.sccs_base.specs.Stream.{GivesOk, GivesSome}
use Rattle.sccs_sid.specs.Reading.{◌>>=◌}
use Rattle.sccs_sid.specs.declared.refusals.Refusal.TheVariants.{Locked}
use Rattle.sccs_sid.specs.declared.refusals.StepFault.{StepFault}
use Rattle.sccs_sid.specs.declared.refusals.StepFault.TheVariants.{Refused}
use Rattle.sccs_disk.specs.Files.{Content, View}
use Rattle.sccs_disk.specs.Told.{Told}
use Rattle.sccs_name_files.specs.StepFiles.{Files, Moves, early_moved, is_working, l_file, look}
use Rattle.sccs_steps.specs.StepEffects.{Outcome, StepEffect, check, effect_of}
use Rattle.sccs_steps.specs.Calls.{World}
use Rattle.sccs_steps.specs.Actions.{Action, IsHeard, Step}
use Rattle.sccs_steps.specs.declared.statuses.StatusRule.TheVariants.{Greatest}
use Rattle.sccs_disk.specs.Calls.{IsThere}
use Rattle.sccs_store.specs.Commits.{Needs, Plan, files_after, plan}
use Rattle.sccs_store.specs.declared.new_files.NewFile.{NewFile}
use Rattle.sccs_store.specs.declared.new_files.NewFile.TheVariants.{Keep, Replace, Remove}
use Rattle.sccs_name_files.specs.Touches.{TouchesOnly}
use Rattle.sccs_crash_points.specs.Recovery.{without_name}
use Rattle.sccs_crash_points.specs.Unlocked.{KeepsOthers}
use Rattle.sccs_changes.specs.declared.prepared.Prepared.{Prepared}

-- What a utility makes of the files of a name that no other program has locked.
pub record Changing : Type 0 where
  -- what it makes, or why it is refused
  pub outcome : Step
  -- the files that its words name, for an operand
  pub named : List ℕ → List (List ℕ)
  -- whether it takes the input
  pub takes : Bool
  -- whether it writes nothing on out
  pub silent : Bool
  -- whether the l-file may be new before its commit
  pub early : Bool
  -- the outcomes that may come, over any disk
  pub could : Outcome → Bool

-- a locked name is refused
unfoldable pub locking_step : Step → Step
locking_step outcome n i named f = do
  free ← check (is_none f.z) Locked
  outcome n i named f

-- the change as an action
abbrev pub locking : Changing → Action
locking x = record {
  fits = is_sfile_name;
  step = locking_step x.outcome;
  named = x.named;
  takes = x.takes;
  reads =
      false;
  locks = true;
  silent = x.silent;
  rule = Greatest;
  could = x.could;
}

-- the view as it was before the name was locked
abbrev pub unlocked : List ℕ → View → View
unlocked n v = without_name (z_file n) v

abbrev pub plan_of : Prepared → Plan
plan_of p = plan p.new_s p.new_p p.new_g

-- a working file that a commit takes, or that is gone, or as it was
abbrev pub IsTakenOrGone : NewFile → Option Content → Option Content → Type 0
IsTakenOrGone Keep old new = (new ≡ None) ⊎ (new ≡ old)
IsTakenOrGone Replace old new = Unit {0}
IsTakenOrGone Remove old new = (new ≡ None) ⊎ (new ≡ old)

-- Each working file is taken by the commit, or gone, or as it was.
pub record AreTakenOrGone (n : List ℕ) (c : Plan) (u v : View) : Type 0 where
  pub x : IsTakenOrGone c.s (u (x_file n)) (v (x_file n))
  pub q : IsTakenOrGone c.p (u (q_file n)) (v (q_file n))
  pub y : IsTakenOrGone c.g (u (y_file n)) (v (y_file n))

-- The new files are prepared, the text before the commit is written, at most working files have changed, and the
-- l-file where it is new before the commit; working files that the commit doesn't take are gone, or as they were.
pub record IsPreparedBy (first : Bool) (n : List ℕ) (p : Prepared) (o : Outcome) (w w2 : World) : Type 0 where
  pub effect : StepEffect
  pub is : o ≡ Ok effect
  pub status : effect.status ≡ 0
  pub report : effect.out ≡ p.report
  pub message : effect.err ≡ p.message
  pub view : Moves (is_working n) (λ v. early_moved first v n effect.new) w.view w2.view
  pub working : IfSome w.view (λ u. IfSome w2.view (λ v. AreTakenOrGone n (plan_of p) u v))
  pub files : IfSome w2.view (λ v. effect.new ≡ Some (files_after n (plan_of p) v))
  pub out : GivesOk w.out w2.out effect.text

abbrev pub IsPrepared : List ℕ → Prepared → Outcome → World → World → Type 0
IsPrepared n p o w w2 = IsPreparedBy false n p o w w2

-- At most working files have changed, and the l-file where it is new already, and a prefix of the text is written.
pub record IsUnmadeBy (first : Bool) (n : List ℕ) (new : Option Files) (text : List ℕ) (w w2 : World) : Type 0 where
  pub view : Moves (is_working n) (λ v. early_moved first v n new) w.view w2.view
  pub out : GivesSome w.out w2.out text

abbrev pub IsUnmade : List ℕ → List ℕ → World → World → Type 0
IsUnmade n text w w2 = IsUnmadeBy false n None text w w2

-- what preparing answers and leaves
abbrev pub Prepares : Result Prepared StepFault → List ℕ → Outcome → World → World → Type 0
Prepares (Ok p) n o w w2 = IsPrepared n p o w w2
Prepares (Err (Refused refusal)) n o w w2 = (o ≡ Err refusal) × IsUnmade n [] w w2
Prepares (Err fault) n o w w2 = IsUnmade n (effect_of n o).text w w2

-- the same of a change by which the l-file may be new before the commit
abbrev pub PreparesEarly : Result Prepared StepFault → List ℕ → Outcome → World → World → Type 0
PreparesEarly (Ok p) n o w w2 = (first : Bool) × IsPreparedBy first n p o w w2
PreparesEarly (Err (Refused refusal)) n o w w2 = (o ≡ Err refusal) × IsUnmade n [] w w2
PreparesEarly (Err fault) n o w w2 = (first : Bool) × IsUnmadeBy first n (effect_of n o).new (effect_of n o).text w w2

abbrev pub PreparesBy : Bool → Result Prepared StepFault → List ℕ → Outcome → World → World → Type 0
PreparesBy false r n o w w2 = Prepares r n o w w2
PreparesBy true r n o w w2 = PreparesEarly r n o w w2

-- what it changes: working files, and where it is new early the l-file
abbrev pub Drafts : Bool → List ℕ → Told → Told → Type 0
Drafts false n old new = TouchesOnly (is_working n) old new
Drafts true n old new = KeepsOthers (λ k. bytes_eq (l_file n) k || is_working n k) old new

-- the same of a change, on a disk that tells its files, the name being locked
abbrev pub PreparesChange : Changing → Result Prepared StepFault → List ℕ → Option (List ℕ) → World → World → Type 0
PreparesChange x r n left w w2 =
    IfSome w.view (λ v. (i : List ℕ) → IsHeard x.takes left i
    → PreparesBy x.early r n (x.outcome n i (map (unlocked n v) (x.named n)) (look (unlocked n v) n)) w w2)

-- what a commit needs is there, where a view is told
pub record IsReady (n : List ℕ) (p : Prepared) (told : Told) : Type 0 where
  pub z : IsThere (z_file n) told
  pub s : Needs (plan_of p).s (x_file n) n told
  pub p_state : Needs (plan_of p).p (q_file n) (p_file n) told
  pub g : Needs (plan_of p).g (y_file n) (drop 2 n) told

-- over any disk: an outcome that may come explains what is prepared, or why it is refused
abbrev pub CouldPrepare : (Outcome → Bool) → Result Prepared StepFault → Type 0
CouldPrepare could (Ok p) = (d : StepEffect) × (could (Ok d) ≡ true) × (d.status ≡ 0) × (d.err ≡ p.message)
CouldPrepare could (Err (Refused refusal)) = could (Err refusal) ≡ true
CouldPrepare could (Err fault) = Unit {0}

-- a silent change has no report
abbrev pub IsQuiet : Result Prepared StepFault → Type 0
IsQuiet r = IfOk r (λ p. p.report ≡ [])
