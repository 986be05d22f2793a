-- The working files of a list of steps's own steps are no s-files, p-files or z-files.
use Rattle.std.proofs.Common.{◌≡◌, ℕ, Bool, true, false, cond, ◌&&◌, ◌||◌, List, [], ◌∷◌, Result, refl, ap, ◌∙◌}
use Rattle.std.specs.Str.{bytes_eq}
use Rattle.sccs_base.specs.Name.{p_file, z_file}
use Rattle.sccs_disk.specs.Told.{Told}
use Rattle.sccs_name_files.specs.StepFiles.{is_working, nowhere}
use Rattle.sccs_intents.specs.Intents.{intent_file, plan_file}
use Rattle.sccs_crash_points.proofs.FileNames.{working_s, plan_and_sfile}
use Rattle.sccs_steps.specs.Actions.{Action}
use Rattle.sccs_steps.specs.Calls.{Scene}
use Rattle.sccs_steps.specs.ListStops.{Spares}
use Rattle.sccs_steps.specs.StepLists.{NamedStep}
use Rattle.sccs_steps.specs.declared.faults.Fault.{Fault}
use Rattle.sccs_step_lists.specs.StepLists.{StepLists, Portion, portions_of}
use Rattle.sccs_step_lists.specs.Following.{MakesStepList, StopsStepList, UnlockedStepList}
use Rattle.sccs_step_lists.specs.OwnFiles.{MakesOwn, StopsOwn, UnlockedOwn, working_along, working_by, working_in}
use Rattle.sccs_step_lists.specs.OwnFiles.{working_of}
use Rattle.std.proofs.lemmas.Bool.{or_from}

neither : (a b c : Bool) → b ≡ false → c ≡ false → (a && b || c) ≡ false
neither true b c e f = ap (λ x. x || c) e ∙ f
neither false b c e f = f

spares_steps : (x : Action) (ts : List NamedStep) → Spares (working_of x ts)
spares_steps x [] = record { s = λ n sfile. refl; p = λ n sfile. refl; z = λ n sfile. refl; intent = refl }
spares_steps x (t ∷ ts) =
    let rest : Spares (working_of x ts) = spares_steps x ts in
    record {
      s = λ n sfile. neither (x.fits t.name) (is_working t.name n) (working_of x ts n) (working_s t.name n sfile)
          (rest.s n sfile);
      p = λ n sfile. neither (x.fits t.name) (is_working t.name (p_file n)) (working_of x ts (p_file n)) refl
          (rest.p n sfile);
      z = λ n sfile. neither (x.fits t.name) (is_working t.name (z_file n)) (working_of x ts (z_file n)) refl
          (rest.z n sfile);
      intent = neither (x.fits t.name) (is_working t.name intent_file) (working_of x ts intent_file) refl rest.intent;
    }

spares_nowhere : Spares nowhere
spares_nowhere = record { s = λ n sfile. refl; p = λ n sfile. refl; z = λ n sfile. refl; intent = refl }

spares_plan : (plans : Bool) (x : Action) (ts : List NamedStep)
    → Spares (λ k. (plans && bytes_eq plan_file k) || working_of x ts k)
spares_plan plans x ts =
    let steps : Spares (working_of x ts) = spares_steps x ts in
    record {
      s = λ n sfile. neither plans (bytes_eq plan_file n) (working_of x ts n) (plan_and_sfile n sfile)
          (steps.s n sfile);
      p = λ n sfile. neither plans (bytes_eq plan_file (p_file n)) (working_of x ts (p_file n)) refl (steps.p n sfile);
      z = λ n sfile. neither plans (bytes_eq plan_file (z_file n)) (working_of x ts (z_file n)) refl (steps.z n sfile);
      intent = neither plans (bytes_eq plan_file intent_file) (working_of x ts intent_file) refl steps.intent;
    }

spares_by : (reads plans : Bool) (x : Action) (ts : List NamedStep)
    → Spares (cond reads nowhere (λ k. (plans && bytes_eq plan_file k) || working_of x ts k))
spares_by true plans x ts = spares_nowhere
spares_by false plans x ts = spares_plan plans x ts

pub spares_in : (ps : List Portion) → Spares (working_in ps)
spares_in [] = spares_nowhere
spares_in (p ∷ []) = spares_by p.by.reads p.plans p.by p.parts
spares_in (p ∷ q ∷ ps) =
    let one : Spares (working_by p) = spares_by p.by.reads p.plans p.by p.parts in
    let rest : Spares (working_in (q ∷ ps)) = spares_in (q ∷ ps) in
    record {
      s = λ n sfile. or_from (working_by p n) (working_in (q ∷ ps) n) (one.s n sfile) (rest.s n sfile);
      p = λ n sfile. or_from (working_by p (p_file n)) (working_in (q ∷ ps) (p_file n)) (one.p n sfile)
          (rest.p n sfile);
      z = λ n sfile. or_from (working_by p (z_file n)) (working_in (q ∷ ps) (z_file n)) (one.z n sfile)
          (rest.z n sfile);
      intent = or_from (working_by p intent_file) (working_in (q ∷ ps) intent_file) one.intent rest.intent;
    }

-- ---- what is said for any working files, for its own

pub own_makes : (step_list : StepLists) (given : List ℕ → Type 0) (r : Result ℕ Fault) (a b : Scene)
    → MakesStepList step_list given r a b → MakesOwn step_list given r a b
own_makes step_list given r a b makes = λ folder i told shows known. makes (working_along step_list folder i) folder i
    (spares_in (portions_of step_list folder i)) told.1 shows known told.0

pub own_stops : (step_list : StepLists) (given : List ℕ → Type 0) (r : Result ℕ Fault) (a b : Scene)
    → StopsStepList step_list given r a b → StopsOwn step_list given r a b
own_stops step_list given r a b stops = λ folder i m past told shows is may safe. stops
    (working_along step_list folder i) folder i m past (spares_in (portions_of step_list folder i)) told.1 shows told.0
    is may safe

pub own_unlocked : (step_list : StepLists) (given : List ℕ → Type 0) (old new : Told)
    → UnlockedStepList step_list given old new → UnlockedOwn step_list given old new
own_unlocked step_list given old new unlocked = λ folder i told shows known exempt plain freed. unlocked
    (working_along step_list folder i) folder i (spares_in (portions_of step_list folder i)) told.1 shows known told.0
    exempt plain freed
