-- Where a run ended the next one may begin, and so where it was stopped and all names were recovered.
use Rattle.std.proofs.Common.{◌≡◌, ◌≢◌, ℕ, ◌≤◌, Bool, true, false, List, [], ◌∷◌, length, take, Option, None, Some}
use Rattle.std.proofs.Common.{is_some, Result, Err, refl, sym, ap, subst, ◌∙◌}
use Rattle.std.specs.Prelude.{IsSome}
use Rattle.sccs_base.specs.Name.{IsSFileName, p_file, z_file}
use Rattle.sccs_disk.specs.Files.{Content, Folder, Model, View, view_in, view_of}
use Rattle.sccs_disk.specs.Images.{Allows}
use Rattle.sccs_name_files.specs.StepFiles.{Shows}
use Rattle.sccs_name_files.specs.Touches.{Each, earlier, newest}
use Rattle.sccs_name_files.proofs.Images.{view_image}
use Rattle.sccs_name_files.proofs.Touched.{each_newest}
use Rattle.sccs_intents.specs.Intents.{intent_file}
use Rattle.sccs_group.specs.Finishing.{CanFinish}
use Rattle.sccs_intents.specs.declared.intents.Fate.{Fate}
use Rattle.sccs_crash_points.specs.CrashPoints.{IsCalmUnnamed}
use Rattle.sccs_crash_points.specs.Recovery.{IsSettledPair, Pair, RecoversAs, fate_at}
use Rattle.sccs_crash_points.proofs.Recovering.{LooksAlike, fate_same, recovered, recovered_alike, recovered_is}
use Rattle.sccs_crash_points.proofs.Recovering.{recovered_under, recovers_from}
use Rattle.sccs_steps.specs.Calls.{Scene}
use Rattle.sccs_steps.specs.ListStops.{IsAtNumber, KeepsSafeFrom, KeepsSafe, MayBegin, Spares, view_at}
use Rattle.sccs_step_lists.specs.Following.{StepListCrashPoints}
use Rattle.sccs_steps.specs.StepLists.{NamedStep, folder_after}
use Rattle.sccs_steps.specs.StepStops.{IsSafe}
use Rattle.sccs_steps.specs.declared.faults.Fault.{Fault}
use Rattle.sccs_steps.specs.declared.faults.Fault.TheVariants as ends
use Rattle.sccs_steps.proofs.SafeImages.{calm_safe, numbered_each}
use Rattle.sccs_steps.proofs.Safety.{pair_paired, pair_settled}
use Rattle.sccs_top.specs.Following.{AllRecovered, FollowsStop, MayFollow}

pub may_follow : (w : List ℕ → Bool) (r : Result ℕ Fault) (folder : Folder) (ts : List NamedStep) (a b : Scene)
    (m : Model) (past : List Model) → (run : StepListCrashPoints w r folder ts a b m past) → r ≢ Err ends.DiskFault
    → MayFollow m folder (folder_after folder (take run.list.number ts)) b.told
may_follow w r folder ts a b m past run other = record {
  model = newest run.list.went.added m;
  past = earlier run.list.went.added m past;
  is = run.list.went.is;
  may = record { calm = run.list.calm other; recovers = run.list.recovers other };
  names = run.keeps other;
  kept = each_newest (Allows (KeepsSafeFrom m)) run.list.went.added m run.images
      (view_of (newest run.list.went.added m)) (view_image (newest run.list.went.added m));
}

-- ---- a calm disk where no intent names an s-file

-- a run may begin on it: the folder that is shown recovers as the view that is told
pub begins : (w : List ℕ → Bool) (folder : Folder) (m : Model) → Spares w → Shows w (Some (view_of m)) (view_in folder)
    → IsCalmUnnamed m → MayBegin folder m
begins w folder m spares alike calm =
    record {
      calm = calm.calm;
      recovers = recovers_from (view_in folder) (view_of m) (λ n sfile. recovered_alike n
          (view_in folder) (view_of m) (looks n sfile));
    }
  where
    fate : (n : List ℕ) → fate_at (view_of m) n ≡ fate_at (view_in folder) n
    fate n = fate_same n (view_in folder) (view_of m) (alike intent_file spares.intent)

    none : (n : List ℕ) → IsSFileName n → fate_at (view_in folder) n ≡ None
    none n sfile = sym (fate n) ∙ calm.unnamed n sfile

    looks : (n : List ℕ) → IsSFileName n → LooksAlike n (view_in folder) (view_of m)
    looks n sfile = record {
      fate = fate n;
      s = alike n (spares.s n sfile);
      p = alike (p_file n) (spares.p n sfile);
      z = ap is_some (alike (z_file n) (spares.z n sfile));
      x = λ named. absurd (let e : false ≡ true = sym (ap is_some (none n sfile)) ∙ named in cc);
      q = λ named. absurd (let e = none n sfile in cc);
    }

-- each name that is safe in the view is safe in whatever a stop could leave
pub calm_from : (m : Model) (v : View) → IsCalmUnnamed m → KeepsSafeFrom m v → KeepsSafe (view_of m) v
calm_from m v calm keeps = λ n sfile safe.
    keeps n sfile (calm_safe n m sfile calm.calm (λ named. absurd (let none = calm.unnamed n sfile in
    let e : false ≡ true = sym (ap is_some none) ∙ named in cc)) safe)

-- ---- a stop, and the recovery of all names

all_recovers : (w u : View) → AllRecovered w u → RecoversAs w u
all_recovers w u all = λ n sfile.
    recovered_is n u sfile
    ∙ (recovered_under n u None (all.none n sfile)
    ∙ (ap (λ (o : Option Content). recovered (u n) (u (p_file n)) (is_some o)) (all.free n sfile)
    ∙ all.pairs n sfile))

each_both : (P Q R : View → Type 0) (added : List Model) (m : Model) → ((w : View) → P w → Q w → R w)
    → Each (Allows P) added m → Each (Allows Q) added m → Each (Allows R) added m
each_both P Q R [] m both one two = λ w image. both w (one w image) (two w image)
each_both P Q R (a ∷ added) m both one two = (
  λ w image. both w (one.0 w image) (two.0 w image),
  each_both P Q R added m both one.1 two.1,
)

abbrev AtSome : Folder → List NamedStep → View → Type 0
AtSome folder ts w = (k : ℕ) × (k ≤ length ts) × RecoversAs (view_at folder ts k) w

-- a name that was safe, be it named by an intent or not
recovered_safe : (w u : View) (n : List ℕ) → AllRecovered w u → IsSFileName n → IsSafe n w → IsSafe n u
recovered_safe w u n all sfile safe = record {
  plain = safe.plain;
  sound = λ free. record {
    entries = subst (λ (x : Pair). IsSettledPair x) (sym (all.pairs n sfile)) safe.settled;
    unnamed = all.none n sfile;
  };
  paired = pair_paired n w u (all_recovers w u all n sfile) safe.paired;
  settled = pair_settled n w u (all_recovers w u all n sfile) safe.settled;
}

follows : (m : Model) (folder : Folder) (ts : List NamedStep) (w : View) → AtSome folder ts w → KeepsSafeFrom m w
    → FollowsStop m folder ts w
follows m folder ts w at keeps = record {
  prefix = λ u all. record { count = at.0; most = at.1; pairs = λ n sfile. all.pairs n sfile ∙ at.2 n sfile };
  safe = λ u all n sfile safe. recovered_safe w u n all sfile (keeps n sfile safe);
}

held_by : (o : Option Content) (fate : Option Fate) → (o ≡ None → fate ≡ None) → IsSome fate → IsSome o
held_by (Some c) fate free named = refl
held_by None fate free named = subst (λ (f : Option Fate). IsSome f) (free refl) named

-- at any end recovery may run next
pub may_recover : (w : List ℕ → Bool) (r : Result ℕ Fault) (folder : Folder) (ts : List NamedStep) (a b : Scene)
    (m : Model) (past : List Model) → (run : StepListCrashPoints w r folder ts a b m past)
    → ((n : List ℕ) → IsSFileName n → IsSome (fate_at (view_of (newest run.list.went.added m)) n) → Allows (IsSafe n) m)
    → CanFinish (newest run.list.went.added m)
may_recover w r folder ts a b m past run were = record {
  firm = run.list.firm;
  held = λ n sfile named. held_by (view_of last (z_file n)) (fate_at (view_of last) n)
      (λ free. ((is_safe n sfile named).sound free).unnamed) named;
  settled = λ n sfile named. (is_safe n sfile named).settled;
}
  where
    last : Model
    last = newest run.list.went.added m

    is_safe : (n : List ℕ) → IsSFileName n → IsSome (fate_at (view_of last) n) → IsSafe n (view_of last)
    is_safe n sfile named = each_newest (Allows (KeepsSafeFrom m)) run.list.went.added m run.images (view_of last)
        (view_image last) n sfile (were n sfile named)

pub stops_followed : (w : List ℕ → Bool) (r : Result ℕ Fault) (folder : Folder) (ts : List NamedStep) (a b : Scene)
    (m : Model) (past : List Model) → (run : StepListCrashPoints w r folder ts a b m past)
    → Each (Allows (FollowsStop m folder ts)) run.list.went.added m
stops_followed w r folder ts a b m past run =
    each_both (AtSome folder ts) (KeepsSafeFrom m) (FollowsStop m folder ts) run.list.went.added m
    (λ u at keeps. follows m folder ts u at keeps)
    (numbered_each (IsAtNumber (view_at folder ts) (length ts)) (AtSome folder ts) 0 run.list.went.added m
    run.list.number (λ i u at. (at.0, at.2, at.3)) run.list.went.numbers) run.images
