-- What a stop leaves of the step of one name.
use Rattle.std.proofs.Common.{◌≡◌, ℕ, Bool, true, false, List, [], ◌∷◌, map, Option, None, Result, Ok, Err, sym, ap}
use Rattle.std.proofs.Common.{subst, ◌∙◌}
use Rattle.sccs_base.proofs.Gifts.{some_none, some_of_whole}
use Rattle.sccs_sid.specs.Refusal.{refusal_line}
use Rattle.sccs_sid.specs.declared.refusals.Refusal.{Refusal}
use Rattle.sccs_sid.specs.declared.refusals.Refusal.TheVariants.{BadName}
use Rattle.sccs_sid.specs.declared.refusals.StepFault.{StepFault}
use Rattle.sccs_disk.specs.Files.{Content, Folder, Model, View, view_in, view_of}
use Rattle.sccs_disk.specs.Told.{Told, Tells, seen}
use Rattle.sccs_name_files.specs.StepFiles.{Alike, Files, Shows, look, moved, moved_in}
use Rattle.sccs_name_files.proofs.Folders.{moved_view}
use Rattle.sccs_name_files.proofs.Views.{moved_alike}
use Rattle.sccs_disk.specs.Images.{Allows}
use Rattle.sccs_name_files.specs.Touches.{Each}
use Rattle.sccs_crash_points.specs.CrashPoints.{EndsAfter}
use Rattle.sccs_crash_points.specs.Recovery.{RecoversAs}
use Rattle.sccs_crash_points.proofs.Recovering.{recovers_back}
use Rattle.sccs_crash_points.proofs.Untouched.{before_after, same_before}
use Rattle.sccs_steps.specs.StepEffects.{Outcome, effect_of}
use Rattle.sccs_steps.specs.Calls.{Scene, scene}
use Rattle.sccs_steps.specs.Messages.{Concludes, SaysRefusal}
use Rattle.sccs_steps.specs.Actions.{Action, IsHeard, KeepsFiles, NameIsClear, outcome_at, step_at}
use Rattle.sccs_steps.specs.StepLists.{named_step}
use Rattle.sccs_steps.specs.StepStops.{IsSafeFor, MeetsAtAs, StepCrashPointsAs}
use Rattle.sccs_steps.specs.ListStops.{KeepsSafeFrom, MayBegin, RunCrashPoints, Spares}
use Rattle.sccs_steps.specs.Unlocked.{StepOthers}
use Rattle.sccs_steps.proofs.Carried.{step_carried}
use Rattle.sccs_steps.specs.Running.{StopsBy}
use Rattle.sccs_steps.specs.declared.faults.Fault.{Fault}
use Rattle.sccs_steps.specs.declared.faults.Fault.TheVariants.{Memory, ReadFault, WriteFault, DiskFault}
use Rattle.sccs_steps.proofs.Clear.{clear_look, kept_effect, named_alike}
use Rattle.sccs_steps.proofs.CrashPointLists.{run_crash_points}
use Rattle.sccs_steps.proofs.OneCrashPoint.{alikes_of, one_after, turned}
use Rattle.sccs_steps.proofs.NameLaws.{fitting, kept, misfit}
use Rattle.sccs_steps.proofs.SafeImages.{images_now, step_images, told_once}
use Rattle.sccs_steps.proofs.Safety.{keeps_folder, keeps_same, stay_folder, stay_same, told_safe}

-- the view that is told is the folder's, but for working files
pub alike_told : (w : List ℕ → Bool) (folder : Folder) (t : Told) (m : Model) (past : List Model) → t ≡ Tells m past
    → Shows w (seen t) (view_in folder) → Alike w (view_of m) (view_in folder)
alike_told w folder t m past is shows = subst (λ (told : Told). Shows w (seen told) (view_in folder)) is shows

-- ---- a name that is refused before its step

-- where nothing new is told each name is safe that was
images_same : (v w : View) (m : Model) (past : List Model) (t : Told) → t ≡ Tells m past
    → (ends : EndsAfter v w m past t) → Each (Allows (KeepsSafeFrom m)) ends.0.added m
images_same v w m past t is ends = subst (λ (xs : List Model). Each (Allows (KeepsSafeFrom m)) xs m)
    (told_once [] ends.0.added m past t is ends.0.is) (images_now m)

pub refusal_stops : (x : Action) (w : List ℕ → Bool) (r : Result ℕ Fault) (folder : Folder) (n : List ℕ)
    (refusal : Refusal) (a : Scene) (e : Option (List ℕ)) (m : Model) (past : List Model) → a.told ≡ Tells m past
    → MayBegin folder m → Shows w (seen a.told) (view_in folder) → SaysRefusal n refusal r a.err e
    → RunCrashPoints x w r folder (named_step n (Err refusal) ∷ []) a (scene a.told a.out e) m past
refusal_stops x w (Ok status) folder n refusal a e m past is may shows says =
    run_crash_points x w (Ok status) folder (named_step n (Err refusal) ∷ []) a (scene a.told a.out e) m past
    (one_after w (Ok status) folder (named_step n (Err refusal)) (view_of m) (view_of m) a (scene a.told a.out e) m past
    (alikes_of folder n (Err refusal) (view_of m) may.recovers may.recovers)
    (before_after (view_of m) m past a.told (same_before m past a.told may.calm is)) (some_none a.out [])
    (some_of_whole a.err e (refusal_line n refusal) says.1) shows) (λ other. stay_same x (view_in folder))
    (λ other. keeps_same (view_in folder)) (images_same (view_of m) (view_of m) m past a.told is
    (before_after (view_of m) m past a.told (same_before m past a.told may.calm is)))
refusal_stops x w (Err WriteFault) folder n refusal a e m past is may shows says =
    run_crash_points x w (Err WriteFault) folder (named_step n (Err refusal) ∷ []) a (scene a.told a.out e) m past
    (one_after w (Err WriteFault) folder (named_step n (Err refusal)) (view_of m) (view_of m) a (scene a.told a.out e) m
    past (alikes_of folder n (Err refusal) (view_of m) may.recovers may.recovers)
    (before_after (view_of m) m past a.told (same_before m past a.told may.calm is)) (some_none a.out []) says shows)
    (λ other. stay_same x (view_in folder)) (λ other. keeps_same (view_in folder))
    (images_same (view_of m) (view_of m) m past a.told is (before_after (view_of m) m past a.told
    (same_before m past a.told may.calm is)))
refusal_stops x w (Err Memory) folder n refusal a e m past is may shows says = absurd says
refusal_stops x w (Err ReadFault) folder n refusal a e m past is may shows says = absurd says
refusal_stops x w (Err DiskFault) folder n refusal a e m past is may shows says = absurd says

-- a name that isn't taken
pub misfit_stops : (x : Action) (n : List ℕ) (given : List ℕ → Type 0) (r : Result ℕ Fault) (a : Scene)
    (e : Option (List ℕ)) → x.fits n ≡ false → SaysRefusal n BadName r a.err e
    → StopsBy x (λ folder i. step_at x folder i n ∷ []) given r a (scene a.told a.out e)
misfit_stops x n given r a e unfit says = λ w folder i m past spares clear shows heard is calm safe.
    subst (λ (o : Outcome). RunCrashPoints x w r folder (named_step n o ∷ []) a (scene a.told a.out e) m past)
    (sym (misfit x folder i n unfit)) (refusal_stops x w r folder n BadName a e m past is calm shows says)

-- ---- a name whose step was called

-- what a step sees of the view that is told is what it sees of the folder
outcome_told : (x : Action) (w : List ℕ → Bool) (folder : Folder) (i n : List ℕ) (v : View) → x.fits n ≡ true
    → NameIsClear x w n → Alike w v (view_in folder) → x.step n i (map v (x.named n)) (look v n) ≡ outcome_at x folder i
    n
outcome_told x w folder i n v fits clear alike =
    ap (λ (f : Files). x.step n i (map v (x.named n)) f) (clear_look x.reads w n v (view_in folder)
    (clear fits).0 alike)
    ∙ (ap (λ (named : List (Option Content)). x.step n i named (look (view_in folder) n))
    (named_alike w v (view_in folder) (x.named n) alike (clear fits).1) ∙ sym (fitting x folder i n fits))

-- the same of a view that is like the folder's after the step
own_folder : (x : Action) (w : List ℕ → Bool) (folder : Folder) (n : List ℕ) (o : Outcome) (v : View) → KeepsFiles x
    → x.fits n ≡ true → Spares w → Alike w v (view_in folder)
    → RecoversAs (moved (view_in folder) n (effect_of n o).new) (moved v n (effect_of n o).new)
    → IsSafeFor x n (moved v n (effect_of n o).new) → IsSafeFor x n (view_in (moved_in folder n (effect_of n o).new))
own_folder x w folder n o v keeps fits spares alike recovers safe =
    subst (λ (u : View). IsSafeFor x n u) (sym (moved_view folder n (effect_of n o).new))
    (told_safe x w n (moved v n (effect_of n o).new) (moved (view_in folder) n (effect_of n o).new) keeps fits spares
    (moved_alike w v (view_in folder) n (effect_of n o).new alike)
    (recovers_back (moved (view_in folder) n (effect_of n o).new) (moved v n (effect_of n o).new) recovers) safe)

called_stops : (x : Action) (n : List ℕ) (made : Result ℕ StepFault) (r : Result ℕ Fault) (left : Option (List ℕ))
    (a b : Scene) (e : Option (List ℕ)) → KeepsFiles x → x.fits n ≡ true → (x.reads ≡ true → b.told ≡ a.told)
    → StepCrashPointsAs (λ (status : ℕ). status) x made n left a b → StepOthers x n a.told b.told
    → Concludes made n r b.err e
    → StopsBy x (λ folder i. step_at x folder i n ∷ []) (IsHeard x.takes left) r a (scene b.told b.out e)
called_stops x n made r left a b e keeps fits same crash_points others says =
    λ w folder i m past spares clear shows heard is may safe.
    let alike : Alike w (view_of m) (view_in folder) = alike_told w folder a.told m past is shows in
    let o : Outcome = outcome_at x folder i n in
    let now : IsSafeFor x n (view_of m) = told_safe x w n (view_in folder) (view_of m) keeps fits spares
    (λ k h. sym (alike k h)) may.recovers (safe.0 fits) in
    let quiet : x.reads ≡ true → (effect_of n o).new ≡ None = λ only. kept_effect x.reads n o
    (kept x folder i n keeps fits) only in
    let recovers : RecoversAs (moved (view_in folder) n (effect_of n o).new) (moved (view_of m) n (effect_of n o).new) =
    step_carried x w n i (view_in folder) (view_of m) o keeps fits spares (safe.0 fits) quiet
    (sym (fitting x folder i n fits)) alike may.recovers in
    let met : MeetsAtAs (λ (status : ℕ). status) x made n o (view_of m) m past a b =
    subst (λ (q : Outcome). MeetsAtAs (λ (status : ℕ). status) x made n q (view_of m) m past a b)
    (outcome_told x w folder i n (view_of m) fits clear.0 alike)
    (crash_points m past i is heard may.calm now) in
    turned x w folder n o made r m past a b e (record {
      alikes = alikes_of folder n o (view_of m) may.recovers recovers;
      clear = (clear.0 fits).0;
      same = λ only. ap seen (same only);
      kept = quiet;
      shows = shows;
    }) (λ own. stay_folder x folder n (effect_of n o).new keeps fits quiet (safe.0 fits) (own_folder x w folder n o
    (view_of m) keeps fits spares alike recovers own))
    (λ own. keeps_folder x folder n (effect_of n o).new keeps fits quiet (safe.0 fits) (own_folder x w folder n o
    (view_of m) keeps fits spares alike recovers own))
    (λ added told at. step_images x n a.told b.told m past (effect_of n o).new added keeps fits may.calm now is same
    others told at) met says

pub stepped_stops : (x : Action) (operand n : List ℕ) (made : Result ℕ StepFault) (r : Result ℕ Fault)
    (left : Option (List ℕ)) (a b : Scene) (e : Option (List ℕ)) → KeepsFiles x → x.fits operand ≡ true → n ≡ operand
    → (x.reads ≡ true → b.told ≡ a.told)
    → StepCrashPointsAs (λ (status : ℕ). status) x made n left a b → StepOthers x n a.told b.told
    → Concludes made operand r b.err e → StopsBy x (λ folder i. step_at x folder i operand ∷ [])
    (IsHeard x.takes left) r a (scene b.told b.out e)
stepped_stops x operand n made r left a b e keeps fits is same crash_points others says =
    called_stops x operand made r left a b e keeps fits same
    (subst (λ name. StepCrashPointsAs (λ (status : ℕ). status) x made name left a b) is crash_points)
    (subst (λ name. StepOthers x name a.told b.told) is others) says
