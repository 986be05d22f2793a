-- Lists of steps: the steps of several actions, one after another, and the status that a call answers that makes them
-- all.
use Rattle.std.specs.Prelude.{◌≡◌, ℕ, zero, suc, Bool, true, false, List, [], ◌∷◌, ◌++◌, None, Err}
use Rattle.std.specs.List.{AllByRecursion}
use Rattle.sccs_base.specs.Name.{IsSFileName}
use Rattle.sccs_disk.specs.Files.{Folder, View}
use Rattle.sccs_intents.specs.Intents.{plan_file}
use Rattle.sccs_sid.specs.declared.refusals.Refusal.TheVariants.{BadName}
use Rattle.sccs_steps.specs.Actions.{Action, AreClear, steps_at}
use Rattle.sccs_steps.specs.ListStops.{AreSafe}
use Rattle.sccs_steps.specs.Running.{Steps}
use Rattle.sccs_steps.specs.StepLists.{NamedStep, folder_after, status_of}
use Rattle.sccs_steps.specs.Unlocked.{AreExempt, ArePlain}
use Rattle.sccs_steps.specs.declared.statuses.StatusRule.TheVariants.{Greatest}

-- The steps of one action. What is asked of names is asked of those of its parts: the steps themselves, but for a
-- step of several names, whose parts are those of each name. It may finish what another call began, and take working
-- files of the parts' names.
pub record Portion : Type 0 where
  pub by : Action
  pub steps : List NamedStep
  pub parts : List NamedStep
  pub finishes : Bool
  -- whether the plan of a group is one of its working files
  pub plans : Bool

abbrev pub portion : Action → List NamedStep → Portion
portion x ts = record { by = x; steps = ts; parts = ts; finishes = false; plans = false }

-- The steps of several actions, each in the folder that those before left, and the status that a call answers that
-- makes them all.
pub record StepList : Type 0 where
  pub portions : List Portion
  pub status : ℕ

abbrev pub step_list_of : List Portion → ℕ → StepList
step_list_of ps status = record { portions = ps; status = status }

-- those of one action are its own
abbrev pub steps_in : List Portion → List NamedStep
steps_in [] = []
steps_in (p ∷ []) = p.steps
steps_in (p ∷ q ∷ ps) = p.steps ++ steps_in (q ∷ ps)

-- what is done in a folder, with an input
abbrev pub StepLists : Type 0
StepLists = Folder → List ℕ → StepList

abbrev pub portions_of : StepLists → Folder → List ℕ → List Portion
portions_of step_list folder i = (step_list folder i).portions

-- the steps of a list of steps in a folder
abbrev pub steps_along : StepLists → Folder → List ℕ → List NamedStep
steps_along step_list folder i = steps_in (step_list folder i).portions

-- ---- lists of steps

-- in a folder a list of steps is followed by one that its status decides, which goes on in the folder that it left
abbrev pub and_then : StepList → (ℕ → StepLists) → Folder → List ℕ → StepList
and_then c rest folder i =
    let d = rest c.status (folder_after folder (steps_in c.portions)) i in
    step_list_of (c.portions ++ d.portions) d.status

abbrev pub follow : StepLists → (ℕ → StepLists) → StepLists
follow first rest = λ folder i. and_then (first folder i) rest folder i

-- the steps of one action, with the status that its rule gives
abbrev pub portion_of : Action → Steps → StepLists
portion_of x made = λ folder i. step_list_of (portion x (made folder i) ∷ []) (status_of x.rule (made folder i))

-- the operands of one action
abbrev pub command_of : Action → List (List ℕ) → StepLists
command_of x operands = portion_of x (λ folder i. steps_at x folder i operands)

-- a text on out and one on err, as a step that does nothing else
abbrev pub said : List ℕ → List ℕ → NamedStep
said out err = record {
  name = [];
  effect = record { new = None; text = []; out = out; err = err; status = 0 };
  more =
      [];
}

-- no operand is taken
abbrev pub no_action : Action
no_action = record {
  fits = λ n. false;
  step = λ n i named files. Err BadName;
  named = λ n. [];
  takes = false;
  reads = true;
  locks = true;
  silent = false;
  rule = Greatest;
  could = λ o. false;
}

-- nothing, with this status
abbrev pub nothing : ℕ → StepLists
nothing status = λ folder i. step_list_of (portion no_action [] ∷ []) status

-- a text is written
abbrev pub saying : List ℕ → List ℕ → ℕ → StepLists
saying out err status = λ folder i. step_list_of (portion no_action (said out err ∷ []) ∷ []) status

-- each of several things, whatever the statuses, and then the last list of steps
abbrev pub one_by_one : {X : Type 0} → (X → StepLists) → StepLists → List X → StepLists
one_by_one each last [] = last
one_by_one each last (x ∷ xs) = follow (each x) (λ code. one_by_one each last xs)

-- a list of steps that is followed only where the status was 0; another status stands
abbrev pub if_fine : StepLists → ℕ → StepLists
if_fine rest zero = rest
if_fine rest (suc code) = nothing (suc code)

-- each of several things as long as the status is 0, and then the last list of steps
abbrev pub while_fine : {X : Type 0} → (X → StepLists) → StepLists → List X → StepLists
while_fine each last [] = last
while_fine each last (x ∷ xs) = follow (each x) (if_fine (while_fine each last xs))

-- ---- premises, of each portion by its own action

-- The names of its parts are apart from working files, and the plan is a working file where it is one of its own.
pub record IsClearFor (w : List ℕ → Bool) (p : Portion) : Type 0 where
  pub names : AreClear p.by w p.parts
  pub plan : p.plans ≡ true → w plan_file ≡ true

abbrev pub AllClear : (List ℕ → Bool) → List Portion → Type 0
AllClear w ps = AllByRecursion (IsClearFor w) ps

-- none takes working files
abbrev pub NoneFinishes : List Portion → Type 0
NoneFinishes ps = AllByRecursion (λ (p : Portion). p.finishes ≡ false) ps

abbrev pub AllSafe : View → List Portion → Type 0
AllSafe v ps = AllByRecursion (λ (p : Portion). AreSafe p.by p.parts v) ps

abbrev pub AllPlain : List Portion → Type 0
AllPlain ps = AllByRecursion (λ (p : Portion). ArePlain p.by p.parts) ps

-- what changes files takes the names of s-files alone
abbrev pub TakesSfiles : Action → Type 0
TakesSfiles x = x.reads ≡ false → (n : List ℕ) → x.fits n ≡ true → IsSFileName n

abbrev pub AllTake : List Portion → Type 0
AllTake ps = AllByRecursion (λ (p : Portion). TakesSfiles p.by) ps

-- the names of steps that don't lock them are exempt
abbrev pub AllExempt : (List ℕ → Bool) → List Portion → Type 0
AllExempt exempt ps = AllByRecursion (λ (p : Portion). AreExempt p.by exempt p.parts) ps
