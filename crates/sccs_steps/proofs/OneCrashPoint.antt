-- The crash points of the call of one step, as a list of one step.
use Rattle.std.proofs.Common.{◌≡◌, ◌⊎◌, ℕ, zero, suc, ◌+◌, ◌≤◌, Bool, true, List, [], ◌∷◌, ◌++◌, length, Option, None}
use Rattle.std.proofs.Common.{Result, Ok, Err, inl, inr, refl, sym, ap, subst, ◌∙◌, arith}
use Rattle.std.proofs.lemmas.List.{append-nil}
use Rattle.sccs_base.specs.Stream.{GivesOk, GivesSome}
use Rattle.sccs_base.proofs.Gifts.{some_of_whole}
use Rattle.sccs_sid.specs.Refusal.{refusal_line}
use Rattle.sccs_sid.specs.declared.refusals.Refusal.{Refusal}
use Rattle.sccs_sid.specs.declared.refusals.StepFault.{StepFault}
use Rattle.sccs_sid.specs.declared.refusals.StepFault.TheVariants as step
use Rattle.sccs_disk.specs.Files.{Folder, Model, View, view_in, view_of}
use Rattle.sccs_disk.specs.Images.{Allows}
use Rattle.sccs_disk.specs.Told.{Told, Tells, seen}
use Rattle.sccs_name_files.specs.StepFiles.{Shows, moved, moved_in}
use Rattle.sccs_name_files.proofs.Folders.{moved_view}
use Rattle.sccs_name_files.specs.Touches.{Each, earlier, newest}
use Rattle.sccs_name_files.proofs.Images.{view_image}
use Rattle.sccs_crash_points.specs.Calm.{KeepsPairs}
use Rattle.sccs_crash_points.specs.CrashPoints.{EndsAfter, EndsBefore, EndsWithin, IsAt, Went}
use Rattle.sccs_crash_points.specs.Recovery.{RecoversAs}
use Rattle.sccs_crash_points.proofs.CalmDisks.{calm_firm}
use Rattle.sccs_crash_points.proofs.Joined.{numbered_as, numbered_now}
use Rattle.sccs_crash_points.proofs.Recovering.{recovers_then}
use Rattle.sccs_crash_points.proofs.Untouched.{went_at}
use Rattle.sccs_steps.specs.StepEffects.{Outcome, StepEffect, effect_of}
use Rattle.sccs_steps.specs.Calls.{Scene, scene}
use Rattle.sccs_steps.specs.Messages.{Concludes, SaysRefusal}
use Rattle.sccs_steps.specs.Actions.{Action, IsClear}
use Rattle.sccs_steps.specs.StepLists.{NamedStep, ShowsEarly, named_step, step_in}
use Rattle.sccs_steps.specs.StepStops.{IsSafeFor, MeetsAtAs}
use Rattle.sccs_steps.specs.ListStops.{IsAtNumber, KeepsSafe, KeepsSafeFrom, ListCrashPoints, RunCrashPoints, StaySafe}
use Rattle.sccs_steps.specs.ListStops.{view_at}
use Rattle.sccs_steps.specs.declared.faults.Fault.{Fault}
use Rattle.sccs_steps.specs.declared.faults.Fault.TheVariants.{Memory, ReadFault, WriteFault, DiskFault}
use Rattle.sccs_steps.proofs.Clear.{clear_early, clear_moved, clear_refused}
use Rattle.sccs_steps.proofs.Gifts.{some_same}
use Rattle.sccs_steps.proofs.CrashPointLists.{run_crash_points}
use Rattle.sccs_steps.proofs.SafeImages.{AtStep, at_after, at_before, at_within}
use Rattle.sccs_steps.proofs.Safety.{keeps_same, stay_same}

-- ---- the numbers of one step

pub numbered_new : (i : ℕ) → i ≤ 1 → (1 ≡ i) ⊎ (1 ≡ i + 1)
numbered_new zero low = inr (omega arith)
numbered_new (suc i) low = inl (omega (arith, low))

-- What the lists say of the views that a step tells: the folder's views recover as these.
pub record Alikes (folder : Folder) (t : NamedStep) (v w : View) : Type 0 where
  pub old : RecoversAs (view_in folder) v
  pub new : RecoversAs (view_in (step_in folder t)) w

pub at_number : (folder : Folder) (t : NamedStep) (v w : View) (i : ℕ) (u : View) → Alikes folder t v w → i ≤ 1
    → IsAt v w i u → IsAtNumber (view_at folder (t ∷ [])) (length (t ∷ [])) i u
at_number folder t v w i u alikes low (inl new) =
    (1, numbered_new i low, omega arith, recovers_then (view_in (step_in folder t)) w u alikes.new new)
at_number folder t v w i u alikes low (inr old) = (
  0,
  inl (omega (arith, old.0)),
  omega arith,
  recovers_then
      (view_in folder) v u alikes.old old.1,
)

abbrev pub went_one : (folder : Folder) (t : NamedStep) (v w : View) (m : Model) (past : List Model) (j : ℕ) (b : Told)
    → Alikes folder t v w → j ≤ 1 → (went : Went (IsAt v w) m past j b)
    → Went (IsAtNumber (view_at folder (t ∷ [])) (length (t ∷ []))) m past j b
went_one folder t v w m past j b alikes most went = record {
  added = went.added;
  is = went.is;
  numbers =
      numbered_as (λ i m2. Allows (IsAt v w i) m2) (λ i m2. Allows (IsAtNumber (view_at folder (t ∷ []))
      (length (t ∷ [])) i) m2) 0 went.added m j
      (λ i low m2 at u image. at_number folder t v w i u alikes (omega (arith, low, most)) (at u image)) went.numbers;
  guarded = went.guarded;
}

-- ---- where a step ends

pub before_recovers : (v : View) (m : Model) (past : List Model) (b : Told) → (ends : EndsBefore v m past b)
    → RecoversAs v (view_of (newest ends.0.added m))
before_recovers v m past b ends =
    (numbered_now (λ i m2. Allows (KeepsPairs v) m2) 0 ends.0.added m 0 ends.0.numbers (view_of (newest ends.0.added m))
    (view_image (newest ends.0.added m))).recovers

at_last : (v w u : View) → IsAt v w 1 u → RecoversAs w u
at_last v w u (inl new) = new
at_last v w u (inr old) = absurd (let e = old.0 in omega (arith, e))

pub after_recovers : (v w : View) (m : Model) (past : List Model) (b : Told) → (ends : EndsAfter v w m past b)
    → RecoversAs w (view_of (newest ends.0.added m))
after_recovers v w m past b ends =
    at_last v w (view_of (newest ends.0.added m)) (numbered_now (λ i m2. Allows (IsAt v w i) m2) 0 ends.0.added m 1
    ends.0.numbers (view_of (newest ends.0.added m)) (view_image (newest ends.0.added m)))

-- ---- the three places

abbrev pub one_before : (work : List ℕ → Bool) (fault : Fault) (folder : Folder) (t : NamedStep) (v w : View)
    (a b : Scene) (m : Model) (past : List Model) → Alikes folder t v w → EndsBefore v m past b.told
    → GivesSome a.out b.out t.effect.text → GivesSome a.err b.err []
    → ShowsEarly work (t ∷ []) (seen b.told) (view_in folder) → ListCrashPoints work (Err fault) folder
    (t ∷ []) a b m past
one_before work fault folder t v w a b m past alikes ends out err shows = record {
  number = 0;
  most = omega arith;
  went = went_one folder t v w m past 0 b.told alikes (omega arith) (went_at v w m past b.told ends.0);
  out = out;
  err = err;
  all = λ ok. absurd (cc);
  calm = λ other. ends.1;
  committed = λ other. shows;
  recovers = λ other. recovers_then (view_in folder) v (view_of (newest ends.0.added m)) alikes.old
      (before_recovers v m past b.told ends);
  firm = calm_firm (newest ends.0.added m) ends.1;
}

abbrev pub one_within : (work : List ℕ → Bool) (folder : Folder) (t : NamedStep) (v w : View) (a b : Scene) (m : Model)
    (past : List Model) → Alikes folder t v w → EndsWithin v w m past b.told → GivesSome a.out b.out t.effect.text
    → GivesSome a.err b.err []
    → ListCrashPoints work (Err DiskFault) folder (t ∷ []) a b m past
one_within work folder t v w a b m past alikes ends out err = record {
  number = 0;
  most = omega arith;
  went = went_one folder t v w m past 0 b.told alikes (omega arith) ends.0;
  out = out;
  err = err;
  all = λ ok. absurd (cc);
  calm = λ other. absurd (other refl);
  committed = λ other. absurd (other refl);
  recovers = λ other. absurd (other refl);
  firm = ends.1;
}

abbrev pub one_after : (work : List ℕ → Bool) (r : Result ℕ Fault) (folder : Folder) (t : NamedStep) (v w : View)
    (a b : Scene) (m : Model) (past : List Model) → Alikes folder t v w → EndsAfter v w m past b.told
    → GivesSome a.out b.out (t.effect.text ++ t.effect.out) → GivesSome a.err b.err t.effect.err
    → Shows work (seen b.told) (view_in (step_in folder t)) → ListCrashPoints work r folder (t ∷ []) a b m past
one_after work r folder t v w a b m past alikes ends out err shows = record {
  number = 1;
  most = omega arith;
  went = went_one folder t v w m past 1 b.told alikes (omega arith) ends.0;
  out = subst (λ text. GivesSome a.out b.out text) (sym (append-nil (t.effect.text ++ t.effect.out))
      ∙ sym (append-nil ((t.effect.text ++ t.effect.out) ++ []))) out;
  err = subst (λ text. GivesSome a.err b.err text) (sym (append-nil t.effect.err)) err;
  all = λ ok. omega arith;
  calm = λ other. ends.1;
  committed = λ other. shows;
  recovers = λ other. recovers_then (view_in (step_in folder t)) w (view_of (newest ends.0.added m)) alikes.new
      (after_recovers v w m past b.told ends);
  firm = calm_firm (newest ends.0.added m) ends.1;
}

-- ---- a step that was called, and how its operand ends

-- the views of the folder, before the step and after it
pub alikes_of : (folder : Folder) (n : List ℕ) (o : Outcome) (v : View) → RecoversAs (view_in folder) v
    → RecoversAs (moved (view_in folder) n (effect_of n o).new) (moved v n (effect_of n o).new)
    → Alikes folder (named_step n o) v (moved v n (effect_of n o).new)
alikes_of folder n o v old new =
    record {
      old = old;
      new = subst (λ (u : View). RecoversAs u (moved v n (effect_of n o).new))
          (sym (moved_view folder n (effect_of n o).new)) new;
    }

-- What is known where a step was called on a disk that shows a folder.
pub record IsCalled (reads : Bool) (work : List ℕ → Bool) (folder : Folder) (n : List ℕ) (o : Outcome) (m : Model)
    (a b : Scene) : Type 0 where
  pub alikes : Alikes folder (named_step n o) (view_of m) (moved (view_of m) n (effect_of n o).new)
  pub clear : IsClear reads work n
  pub same : reads ≡ true → seen b.told ≡ seen a.told
  pub kept : reads ≡ true → (effect_of n o).new ≡ None
  pub shows : Shows work (seen a.told) (view_in folder)

refused_ends : (x : Action) (work : List ℕ → Bool) (r : Result ℕ Fault) (folder : Folder) (n : List ℕ) (o : Outcome)
    (refusal : Refusal) (m : Model) (past : List Model) (a b : Scene) (e : Option (List ℕ))
    → IsCalled x.reads work folder n o m a b → o ≡ Err refusal → b.err ≡ a.err → GivesSome a.out b.out []
    → Shows work (seen b.told) (view_in folder)
    → (ends : EndsAfter (view_of m) (moved (view_of m) n (effect_of n o).new) m past b.told)
    → StaySafe x (view_in folder) (view_in (moved_in folder n (effect_of n o).new)) → KeepsSafe (view_in folder)
    (view_in (moved_in folder n (effect_of n o).new)) → Each (Allows (KeepsSafeFrom m)) ends.0.added m
    → SaysRefusal n refusal r b.err e → RunCrashPoints x work r folder (named_step n o ∷ []) a
    (scene b.told b.out e) m past
refused_ends x work (Ok status) folder n o refusal m past a b e called is quiet out shows ends again keeps images says =
    subst (λ (q : Outcome). Alikes folder (named_step n q) (view_of m) (moved (view_of m) n (effect_of n q).new)
    → (ends : EndsAfter (view_of m) (moved (view_of m) n (effect_of n q).new) m past b.told)
    → StaySafe x (view_in folder) (view_in (moved_in folder n (effect_of n q).new)) → KeepsSafe (view_in folder)
    (view_in (moved_in folder n (effect_of n q).new)) → Each (Allows (KeepsSafeFrom m)) ends.0.added m
    → RunCrashPoints x work (Ok status) folder (named_step n q ∷ []) a (scene b.told b.out e) m past) (sym is)
    (λ alikes after safe kept all. run_crash_points x work (Ok status) folder (named_step n (Err refusal) ∷ []) a
    (scene b.told b.out e) m past
    (one_after work (Ok status) folder (named_step n (Err refusal)) (view_of m) (view_of m) a (scene b.told b.out e) m
    past alikes after out (some_of_whole a.err e (refusal_line n refusal)
    (subst (λ t. GivesOk t e (refusal_line n refusal)) quiet says.1)) shows) (λ other. safe) (λ other. kept) all)
    called.alikes ends again keeps images
refused_ends x work (Err WriteFault) folder n o refusal m past a b e called is quiet out shows ends again keeps images
    says =
    subst (λ (q : Outcome). Alikes folder (named_step n q) (view_of m) (moved (view_of m) n (effect_of n q).new)
    → (ends : EndsAfter (view_of m) (moved (view_of m) n (effect_of n q).new) m past b.told)
    → StaySafe x (view_in folder) (view_in (moved_in folder n (effect_of n q).new)) → KeepsSafe (view_in folder)
    (view_in (moved_in folder n (effect_of n q).new)) → Each (Allows (KeepsSafeFrom m)) ends.0.added m
    → RunCrashPoints x work (Err WriteFault) folder (named_step n q ∷ []) a (scene b.told b.out e) m past) (sym is)
    (λ alikes after safe kept all. run_crash_points x work (Err WriteFault) folder (named_step n (Err refusal) ∷ []) a
    (scene b.told b.out e) m past
    (one_after work (Err WriteFault) folder (named_step n (Err refusal)) (view_of m) (view_of m) a
    (scene b.told b.out e) m past alikes after out (subst (λ t. GivesSome t e (refusal_line n refusal)) quiet says)
    shows) (λ other. safe) (λ other. kept) all) called.alikes ends again keeps images
refused_ends x work (Err Memory) folder n o refusal m past a b e called is quiet out shows ends again keeps images
    says = absurd says
refused_ends x work (Err ReadFault) folder n o refusal m past a b e called is quiet out shows ends again keeps images
    says = absurd says
refused_ends x work (Err DiskFault) folder n o refusal m past a b e called is quiet out shows ends again keeps images
    says = absurd says

-- the step was made, and its report given or cut
made_ends : (x : Action) (work : List ℕ → Bool) (r : Result ℕ Fault) (folder : Folder) (n : List ℕ) (o : Outcome)
    (d : StepEffect) (m : Model) (past : List Model) (a b : Scene) (e : Option (List ℕ))
    → IsCalled x.reads work folder n o m a b → o ≡ Ok d → GivesSome a.out b.out (d.text ++ d.out)
    → GivesSome a.err e d.err
    → Shows work (seen b.told) (view_in (moved_in folder n d.new))
    → (ends : EndsAfter (view_of m) (moved (view_of m) n (effect_of n o).new) m past b.told)
    → StaySafe x (view_in folder) (view_in (moved_in folder n (effect_of n o).new)) → KeepsSafe (view_in folder)
    (view_in (moved_in folder n (effect_of n o).new)) → Each (Allows (KeepsSafeFrom m)) ends.0.added m
    → RunCrashPoints x work r folder (named_step n o ∷ []) a (scene b.told b.out e) m past
made_ends x work r folder n o d m past a b e called is out err shows ends again keeps images =
    subst (λ (q : Outcome). Alikes folder (named_step n q) (view_of m) (moved (view_of m) n (effect_of n q).new)
    → (ends : EndsAfter (view_of m) (moved (view_of m) n (effect_of n q).new) m past b.told)
    → StaySafe x (view_in folder) (view_in (moved_in folder n (effect_of n q).new)) → KeepsSafe (view_in folder)
    (view_in (moved_in folder n (effect_of n q).new)) → Each (Allows (KeepsSafeFrom m)) ends.0.added m
    → RunCrashPoints x work r folder (named_step n q ∷ []) a (scene b.told b.out e) m past) (sym is)
    (λ alikes after safe kept all. run_crash_points x work r folder (named_step n (Ok d) ∷ []) a (scene b.told b.out e)
    m past
    (one_after work r folder (named_step n (Ok d)) (view_of m) (moved (view_of m) n d.new) a (scene b.told b.out e) m
    past alikes after out err shows) (λ other. safe) (λ other. kept) all) called.alikes ends again keeps images

effect_new : (n : List ℕ) (o : Outcome) (d : StepEffect) → o ≡ Ok d → (effect_of n o).new ≡ d.new
effect_new n o d is = ap (λ (q : Outcome). (effect_of n q).new) is

-- nothing is committed
kept_ends : (x : Action) (work : List ℕ → Bool) (fault : Fault) (folder : Folder) (n : List ℕ) (o : Outcome) (m : Model)
    (past : List Model) (a b : Scene) (e : Option (List ℕ)) → IsCalled x.reads work folder n o m a b
    → GivesSome a.out b.out (effect_of n o).text → e ≡ a.err
    → ShowsEarly work (named_step n o ∷ []) (seen b.told) (view_in folder)
    → (ends : EndsBefore (view_of m) m past b.told) → Each (Allows (KeepsSafeFrom m)) ends.0.added m
    → RunCrashPoints x work (Err fault) folder (named_step n o ∷ []) a (scene b.told b.out e) m past
kept_ends x work fault folder n o m past a b e called out err shows ends images =
    run_crash_points x work (Err fault) folder (named_step n o ∷ []) a (scene b.told b.out e) m past
    (one_before work fault folder (named_step n o) (view_of m) (moved (view_of m) n (effect_of n o).new) a
    (scene b.told b.out e) m past called.alikes ends out (some_same a.err e [] err) shows)
    (λ other. stay_same x (view_in folder)) (λ other. keeps_same (view_in folder)) images

-- where its name is safe behind the step all are that were
pub turned : (x : Action) (work : List ℕ → Bool) (folder : Folder) (n : List ℕ) (o : Outcome)
    (made : Result ℕ StepFault) (r : Result ℕ Fault) (m : Model) (past : List Model) (a b : Scene) (e : Option (List ℕ))
    → IsCalled x.reads work folder n o m a b
    → (IsSafeFor x n (moved (view_of m) n (effect_of n o).new) → StaySafe x (view_in folder)
    (view_in (moved_in folder n (effect_of n o).new)))
    → (IsSafeFor x n (moved (view_of m) n (effect_of n o).new) → KeepsSafe (view_in folder)
    (view_in (moved_in folder n (effect_of n o).new)))
    → ((added : List Model) → b.told ≡ Tells (newest added m) (earlier added m past)
    → Each (Allows (AtStep x n (view_of m) (moved (view_of m) n (effect_of n o).new))) added m
    → Each (Allows (KeepsSafeFrom m)) added m) → MeetsAtAs (λ (status : ℕ). status) x made n o (view_of m) m past a
    b → Concludes made n r b.err e → RunCrashPoints x work r folder (named_step n o ∷ []) a (scene b.told b.out e) m
    past
turned x work folder n o (Ok status) r m past a b e called again keeps images (met, ends) says =
    made_ends x work r folder n o met.0 m past a b e called met.1 (some_of_whole a.out b.out (met.0.text ++ met.0.out)
    met.3.out) (some_of_whole a.err e met.0.err (subst (λ t. GivesOk a.err t met.0.err) (sym says.1) met.3.err))
    (clear_moved x.reads work folder n met.0.new (seen a.told) (seen b.told) called.clear called.same
    (λ only. sym (effect_new n o met.0 met.1) ∙ called.kept only) called.shows met.3.view) ends.0 (again ends.1)
    (keeps ends.1)
    (images ends.0.0.added ends.0.0.is (at_after x n (view_of m) (moved (view_of m) n (effect_of n o).new) m past b.told
    ends.0 ends.1))
turned x work folder n o (Err (step.Refused refusal)) r m past a b e called again keeps images (met, ends) says =
    refused_ends x work r folder n o refusal m past a b e called met.0 met.1.err met.1.out
    (clear_refused x.reads work folder n (seen a.told) (seen b.told) called.clear called.same called.shows
    met.1.view) ends.0 (again ends.1) (keeps ends.1)
    (images ends.0.0.added ends.0.0.is (at_after x n (view_of m) (moved (view_of m) n (effect_of n o).new) m past b.told
    ends.0 ends.1)) says
turned x work folder n o (Err step.Memory) r m past a b e called again keeps images (met, ends) says =
    subst (λ (s : Result ℕ Fault). RunCrashPoints x work s folder (named_step n o ∷ []) a (scene b.told b.out e) m past)
    (sym says.0)
    (kept_ends x work Memory folder n o m past a b e called met.out (says.1 ∙ met.err)
    (clear_early x.reads work folder n (effect_of n o).new (seen a.told) (seen b.told) called.clear called.same
    called.shows met.view) ends (images ends.0.added ends.0.is (at_before x n (view_of m)
    (moved (view_of m) n (effect_of n o).new) m past b.told ends)))
turned x work folder n o (Err step.ReadFault) r m past a b e called again keeps images (met, ends) says =
    subst (λ (s : Result ℕ Fault). RunCrashPoints x work s folder (named_step n o ∷ []) a (scene b.told b.out e) m past)
    (sym says.0)
    (kept_ends x work ReadFault folder n o m past a b e called met.out (says.1 ∙ met.err)
    (clear_early x.reads work folder n (effect_of n o).new (seen a.told) (seen b.told) called.clear called.same
    called.shows met.view) ends (images ends.0.added ends.0.is (at_before x n (view_of m)
    (moved (view_of m) n (effect_of n o).new) m past b.told ends)))
turned x work folder n o (Err step.WriteFault) r m past a b e called again keeps images (inl met, ends) says =
    subst (λ (s : Result ℕ Fault). RunCrashPoints x work s folder (named_step n o ∷ []) a (scene b.told b.out e) m past)
    (sym says.0)
    (kept_ends x work WriteFault folder n o m past a b e called met.out (says.1 ∙ met.err)
    (clear_early x.reads work folder n (effect_of n o).new (seen a.told) (seen b.told) called.clear called.same
    called.shows met.view) ends (images ends.0.added ends.0.is (at_before x n (view_of m)
    (moved (view_of m) n (effect_of n o).new) m past b.told ends)))
turned x work folder n o (Err step.WriteFault) r m past a b e called again keeps images (inr met, ends) says =
    subst (λ (s : Result ℕ Fault). RunCrashPoints x work s folder (named_step n o ∷ []) a (scene b.told b.out e) m past)
    (sym says.0)
    (made_ends x work (Err WriteFault) folder n o met.0 m past a b e called met.1 met.2.out
    (subst (λ t. GivesSome a.err t met.0.err) (sym says.1) met.2.err)
    (clear_moved x.reads work folder n met.0.new (seen a.told) (seen b.told) called.clear called.same
    (λ only. sym (effect_new n o met.0 met.1) ∙ called.kept only) called.shows met.2.view) ends.0 (again ends.1)
    (keeps ends.1)
    (images ends.0.0.added ends.0.0.is (at_after x n (view_of m) (moved (view_of m) n (effect_of n o).new) m past b.told
    ends.0 ends.1)))
turned x work folder n o (Err step.DiskFault) r m past a b e called again keeps images (met, ends) says =
    subst (λ (s : Result ℕ Fault). RunCrashPoints x work s folder (named_step n o ∷ []) a (scene b.told b.out e) m past)
    (sym says.0)
    (run_crash_points x work (Err DiskFault) folder (named_step n o ∷ []) a (scene b.told b.out e) m past
    (one_within work folder (named_step n o) (view_of m) (moved (view_of m) n (effect_of n o).new) a
    (scene b.told b.out e) m past called.alikes ends.0 met.out (some_same a.err e [] (says.1 ∙ met.err)))
    (λ other. absurd (other refl)) (λ other. absurd (other refl))
    (images ends.0.0.added ends.0.0.is (at_within x n (view_of m) (moved (view_of m) n (effect_of n o).new) m past
    b.told ends.0 ends.1)))
