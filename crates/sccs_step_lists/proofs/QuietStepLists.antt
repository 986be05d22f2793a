-- Lists of steps of calls that have an input of their own.
use Rattle.std.proofs.Common.{◌≡◌, ◌≢◌, ℕ, List, [], Option, Result, Ok, Err, arith, sym, subst}
use Rattle.sccs_base.specs.Stream.{Rose}
use Rattle.sccs_disk.specs.Files.{Folder, view_in}
use Rattle.sccs_steps.specs.Calls.{shown}
use Rattle.sccs_steps.specs.Settings.{Setting}
use Rattle.sccs_steps.specs.StepLists.{NamedStep}
use Rattle.sccs_steps.specs.declared.faults.Fault.{Fault}
use Rattle.sccs_step_lists.specs.StepLists.{AllClear, AllExempt, AllPlain, AllSafe, AllTake, StepLists, portions_of}
use Rattle.sccs_step_lists.specs.StepLists.{steps_along}
use Rattle.sccs_step_lists.specs.Following.{AreKnown, StepListCrashPoints, RunsStepList, RunsTo, SpeaksTo}
use Rattle.sccs_step_lists.specs.QuietSettings.{with_input}
use Rattle.sccs_base.proofs.Rises.{never_rose}

-- no call of an input failed: so none of one that wasn't called
pub step_list_heard : (step_list : StepLists) (given : List ℕ → Type 0) (whole : ℕ → List NamedStep → Type 0)
    (begun : List NamedStep → Type 0) (r : Result ℕ Fault) (s t : Setting) (left left2 : Option (List ℕ)) (count : ℕ)
    → s.faults.input ≡ 0 → t.faults.input ≡ 0
    → RunsStepList step_list given whole begun r s t → RunsStepList step_list given whole begun r
    (with_input left count s) (with_input left2 count t)
step_list_heard step_list given whole begun r s t left left2 count none none2 runs = record {
  some = runs.some;
  takes = runs.takes;
  steps = runs.steps;
  stops = runs.stops;
  unlocked = runs.unlocked;
  speaks = runs.speaks;
  causes = record {
    input_later = omega arith;
    out_later = runs.causes.out_later;
    err_later = runs.causes.err_later;
    disk_later = runs.causes.disk_later;
    read = λ is. absurd (never_rose (subst (λ k. Rose 0 k) none2 (subst (λ k. Rose k t.faults.input) none
        (runs.causes.read is))));
    write = runs.causes.write;
    broke = runs.causes.broke;
  };
}

-- a list of steps that the input chooses
pub step_list_chosen : (choose : List ℕ → StepLists) (step_list : StepLists) (given given1 : List ℕ → Type 0) (whole : ℕ
    → List NamedStep → Type 0) (begun : List NamedStep → Type 0) (r : Result ℕ Fault) (s t : Setting)
    → ((folder : Folder) (i : List ℕ) → AllTake (portions_of (choose i) folder i)) → ((i : List ℕ) → given i
    → choose i ≡ step_list) → ((i : List ℕ) → given i → given1 i)
    → RunsStepList step_list given1 whole begun r s t → RunsStepList (λ folder i. choose i folder i) given whole begun r
    s t
step_list_chosen choose step_list given given1 whole begun r s t takes is to runs = record {
  some = λ folder i heard. subst (λ (c : StepLists). portions_of c folder i ≢ []) (sym (is i heard))
      (runs.some folder i (to i heard));
  takes = takes;
  steps = λ w folder i spares clear shows known heard.
      subst (λ (c : StepLists). RunsTo (c folder i).status w r folder (steps_along c folder i) (shown s.stage)
      (shown t.stage)) (sym (is i heard))
      (runs.steps w folder i spares (subst (λ (c : StepLists). AllClear w (portions_of c folder i)) (is i heard) clear)
      shows (subst (λ (c : StepLists). AreKnown s.stage.told folder (portions_of c folder i)) (is i heard) known)
      (to i heard));
  stops = λ w folder i m past spares clear shows heard told may safe.
      subst (λ (c : StepLists). StepListCrashPoints w r folder (steps_along c folder i) s.stage t.stage m past)
      (sym (is i heard))
      (runs.stops w folder i m past spares (subst (λ (c : StepLists). AllClear w (portions_of c folder i))
      (is i heard) clear) shows (to i heard) told may
      (subst (λ (c : StepLists). AllSafe (view_in folder) (portions_of c folder i)) (is i heard) safe));
  unlocked = λ w folder i spares clear shows known heard exempt plain freed.
      runs.unlocked w folder i spares (subst (λ (c : StepLists). AllClear w (portions_of c folder i))
      (is i heard) clear) shows
      (subst (λ (c : StepLists). AreKnown s.stage.told folder (portions_of c folder i)) (is i heard) known)
      (to i heard) exempt
      (subst (λ (c : StepLists). AllPlain (portions_of c folder i)) (is i heard) plain)
      (subst (λ (c : StepLists). AllExempt exempt (portions_of c folder i)) (is i heard) freed);
  speaks = runs.speaks;
  causes = runs.causes;
}

-- ---- over any disk other words explain it too

speaks_as : (whole whole2 : ℕ → List NamedStep → Type 0) (begun begun2 : List NamedStep → Type 0) (r : Result ℕ Fault)
    (a b : Option (List ℕ)) → ((status : ℕ) (ts : List NamedStep) → whole status ts → whole2 status ts)
    → ((ts : List NamedStep) → begun ts → begun2 ts)
    → SpeaksTo whole begun r a b → SpeaksTo whole2 begun2 r a b
speaks_as whole whole2 begun begun2 (Ok status) a b done cut says = (says.0, done status says.0 says.1, says.2)
speaks_as whole whole2 begun begun2 (Err fault) a b done cut says = (says.0, cut says.0 says.1, says.2)

pub step_list_as : (step_list : StepLists) (given : List ℕ → Type 0) (whole whole2 : ℕ → List NamedStep → Type 0)
    (begun begun2 : List NamedStep → Type 0) (r : Result ℕ Fault) (s t : Setting)
    → ((status : ℕ) (ts : List NamedStep) → whole status ts → whole2 status ts) → ((ts : List NamedStep) → begun ts
    → begun2 ts) → RunsStepList step_list given whole begun r s t → RunsStepList step_list given whole2 begun2 r s t
step_list_as step_list given whole whole2 begun begun2 r s t done cut runs = record {
  some = runs.some;
  takes = runs.takes;
  steps = runs.steps;
  stops = runs.stops;
  unlocked = runs.unlocked;
  speaks = speaks_as whole whole2 begun begun2 r s.stage.err t.stage.err done cut runs.speaks;
  causes = runs.causes;
}

-- ---- an input of its own

-- a list of steps with an input that is known
pub step_list_with : (step_list : StepLists) (input : List ℕ) (given : List ℕ → Type 0) (whole : ℕ → List NamedStep
    → Type 0) (begun : List NamedStep → Type 0) (r : Result ℕ Fault) (s t : Setting)
    → RunsStepList step_list given whole begun r s t → RunsStepList (λ folder i. step_list folder input)
    (λ i. given input) whole begun r s t
step_list_with step_list input given whole begun r s t runs = record {
  some = λ folder i heard. runs.some folder input heard;
  takes = λ folder i. runs.takes folder input;
  steps = λ w folder i spares clear shows known heard. runs.steps w folder input spares clear shows known heard;
  stops = λ w folder i m past spares clear shows heard told may safe. runs.stops w folder input m past spares clear
      shows heard told may safe;
  unlocked = λ w folder i spares clear shows known heard exempt plain freed. runs.unlocked w folder input spares clear
      shows known heard exempt plain freed;
  speaks = runs.speaks;
  causes = runs.causes;
}
