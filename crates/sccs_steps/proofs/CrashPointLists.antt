-- The crash points of lists of steps, one behind another.
use Rattle.std.proofs.Common.{◌≡◌, ◌≢◌, ◌⊎◌, ℕ, suc, ◌+◌, ◌<◌, ◌≤◌, Bool, List, [], ◌∷◌, ◌++◌, length, Result, Ok, Err}
use Rattle.std.proofs.Common.{inl, inr, refl, sym, ap, subst, ◌∙◌, ⊎_elim, arith, length-append}
use Rattle.std.proofs.lemmas.Bool.{cases_lt}
use Rattle.sccs_base.specs.Stream.{GivesSome}
use Rattle.sccs_base.proofs.Gifts.{gives_then, some_none}
use Rattle.sccs_disk.specs.Files.{Folder, Model, View, view_in, view_of}
use Rattle.sccs_disk.specs.Images.{Allows}
use Rattle.sccs_disk.specs.Told.{Told, Tells, seen}
use Rattle.sccs_name_files.specs.StepFiles.{Shows}
use Rattle.sccs_name_files.specs.Touches.{Each, earlier, newest}
use Rattle.sccs_name_files.proofs.Touched.{earlier_more, newest_more}
use Rattle.sccs_crash_points.specs.Calm.{HasFirm, IsCalm}
use Rattle.sccs_crash_points.specs.CrashPoints.{Numbered, Went}
use Rattle.sccs_crash_points.specs.Recovery.{RecoversAs}
use Rattle.sccs_crash_points.proofs.CalmDisks.{calm_firm}
use Rattle.sccs_crash_points.proofs.Joined.{guarded_joined, numbered_as, numbered_joined}
use Rattle.sccs_crash_points.proofs.Recovering.{recovers_then}
use Rattle.sccs_steps.specs.Actions.{Action}
use Rattle.sccs_steps.specs.Calls.{Scene, shown}
use Rattle.sccs_steps.specs.StepLists.{NamedStep, Ran, err_of, folder_after, next_text, out_of}
use Rattle.sccs_steps.specs.ListStops.{IsAcknowledged, IsAtNumber, KeepsSafe, KeepsSafeFrom, ListCrashPoints, MayBegin}
use Rattle.sccs_steps.specs.ListStops.{RunCrashPoints, StaySafe, err_before, out_before, view_at}
use Rattle.sccs_steps.specs.declared.faults.Fault.{Fault}
use Rattle.sccs_steps.specs.declared.faults.Fault.TheVariants.{DiskFault}
use Rattle.sccs_steps.proofs.FirstMoved.{early_none}
use Rattle.sccs_steps.proofs.Fronts.{early_front, early_past, err_front, err_past, err_rises, more_within, out_front}
use Rattle.sccs_steps.proofs.Fronts.{out_past, out_rises, view_front, view_past}

-- ---- nothing was done

abbrev pub crash_points_none : (w : List ℕ → Bool) (status : ℕ) (folder : Folder) (a : Scene) (m : Model)
    (past : List Model) → a.told ≡ Tells m past → MayBegin folder m → Shows w (seen a.told) (view_in folder)
    → ListCrashPoints w (Ok status) folder [] a a m past
crash_points_none w status folder a m past is may shows = record {
  number = 0;
  most = omega arith;
  went = record {
    added = [];
    is = is;
    numbers = (
      omega arith,
      λ u image. (
        0,
        inl refl,
        omega arith,
        recovers_then (view_in folder)
            (view_of m) u may.recovers (may.calm u image).recovers,
      ),
    );
    guarded = tt;
  };
  out = some_none a.out [];
  err = some_none a.err [];
  all = λ ok. refl;
  calm = λ fault. may.calm;
  committed = λ fault. shows;
  recovers = λ fault. may.recovers;
  firm = calm_firm m may.calm;
}

-- a list that wasn't begun
abbrev pub crash_points_never : (w : List ℕ → Bool) (fault : Fault) (folder : Folder) (ts : List NamedStep) (a : Scene)
    (m : Model) (past : List Model) → a.told ≡ Tells m past → MayBegin folder m → Shows w (seen a.told) (view_in folder)
    → ListCrashPoints w (Err fault) folder ts a a m past
crash_points_never w fault folder ts a m past is may shows = record {
  number = 0;
  most = omega arith;
  went = record {
    added = [];
    is = is;
    numbers = (
      omega arith,
      λ u image. (
        0,
        inl refl,
        omega arith,
        recovers_then (view_in folder)
            (view_of m) u may.recovers (may.calm u image).recovers,
      ),
    );
    guarded = tt;
  };
  out = some_none a.out (next_text ts);
  err = some_none a.err [];
  all = λ ok. absurd (cc);
  calm = λ other. may.calm;
  committed = λ other. early_none w (seen a.told) (view_in folder) ts shows;
  recovers = λ other. may.recovers;
  firm = calm_firm m may.calm;
}

-- ---- all of some steps, and then others

pub numbered_past : (P Q : ℕ → Model → Type 0) (d low low2 : ℕ) (added : List Model) (m : Model) (j : ℕ)
    → low2 ≤ d + low → ((i : ℕ) (m2 : Model) → P i m2 → Q (d + i) m2) → Numbered P low added m j
    → Numbered Q low2 added m (d + j)
numbered_past P Q d low low2 [] m j least as_q numbers = (
  let high = numbers.0 in omega (arith, least, high),
  as_q j m numbers.1,
)
numbered_past P Q d low low2 (a ∷ added) m j least as_q numbers = (
  as_q j a numbers.0,
  (
    d + numbers.1.0,
    (let high = numbers.1.1 in omega (arith, high)),
    numbered_past P Q d low low2
        added m numbers.1.0 least as_q numbers.1.2,
  ),
)

pub among_front : (folder : Folder) (ts us : List NamedStep) (i : ℕ) (u : View) → IsAtNumber (view_at folder ts)
    (length ts) i u → IsAtNumber (view_at folder (ts ++ us)) (length (ts ++ us)) i u
among_front folder ts us i u among = (
  among.0,
  among.1,
  (let low = among.2 in omega (arith, low, length-append ts us)),
  subst
      (λ (v : View). RecoversAs v u) (sym (view_front folder ts us among.0 among.2)) among.3,
)

pub past_number : (d k i : ℕ) → (k ≡ i) ⊎ (k ≡ i + 1) → (d + k ≡ d + i) ⊎ (d + k ≡ d + i + 1)
past_number d k i (inl e) = inl (omega (arith, e))
past_number d k i (inr e) = inr (omega (arith, e))

pub among_past : (folder : Folder) (ts us : List NamedStep) (i : ℕ) (u : View)
    → IsAtNumber (view_at (folder_after folder ts) us) (length us) i u → IsAtNumber (view_at folder (ts ++ us))
    (length (ts ++ us)) (length ts + i) u
among_past folder ts us i u among = (
  length ts + among.0,
  past_number (length ts) among.0 i among.1,
  (let low = among.2 in
      omega (arith, low, length-append ts us)),
  subst (λ (v : View). RecoversAs v u)
      (sym (view_past folder ts us among.0)) among.3,
)

abbrev pub went_past : (folder : Folder) (ts us : List NamedStep) (i j : ℕ) (b c : Told) (m : Model) (past : List Model)
    → i ≡ length ts → (first : Went (IsAtNumber (view_at folder ts) (length ts)) m past i b)
    → Went (IsAtNumber (view_at (folder_after folder ts) us) (length us)) (newest first.added m)
    (earlier first.added m past) j c → Went (IsAtNumber (view_at folder (ts ++ us)) (length (ts ++ us))) m past
    (length ts + j) c
went_past folder ts us i j b c m past all first next = record {
  added = next.added ++ first.added;
  is =
      next.is
      ∙ (ap (λ (x : Model). Tells x (earlier next.added (newest first.added m) (earlier first.added m past)))
      (sym (newest_more next.added first.added m))
      ∙ ap (λ (x : List Model). Tells (newest (next.added ++ first.added) m) x)
      (sym (earlier_more next.added first.added m past)));
  numbers =
      numbered_joined (λ k m2. Allows (IsAtNumber (view_at folder (ts ++ us)) (length (ts ++ us)) k) m2) 0 next.added
      first.added m i (length ts + j)
      (numbered_as (λ k m2. Allows (IsAtNumber (view_at folder ts) (length ts) k) m2)
      (λ k m2. Allows (IsAtNumber (view_at folder (ts ++ us)) (length (ts ++ us)) k) m2) 0 first.added m i
      (λ k low m2 among u image. among_front folder ts us k u (among u image)) first.numbers)
      (numbered_past (λ k m2. Allows (IsAtNumber (view_at (folder_after folder ts) us) (length us) k) m2)
      (λ k m2. Allows (IsAtNumber (view_at folder (ts ++ us)) (length (ts ++ us)) k) m2) (length ts) 0 i next.added
      (newest first.added m) j (omega (arith, all)) (λ k m2 among u image. among_past folder ts us k u
      (among u image)) next.numbers);
  guarded = guarded_joined next.added first.added m first.guarded next.guarded;
}

abbrev pub crash_points_then : (w : List ℕ → Bool) (s : ℕ) (r : Result ℕ Fault) (folder : Folder)
    (ts us : List NamedStep) (a b c : Scene) (m : Model) (past : List Model) → Ran w folder ts (shown a) (shown b)
    → (first : ListCrashPoints w (Ok s) folder ts a b m past)
    → ListCrashPoints w r (folder_after folder ts) us b c (newest first.went.added m) (earlier first.went.added m past)
    → ListCrashPoints w r folder (ts ++ us) a c m past
crash_points_then w s r folder ts us a b c m past ran first next = record {
  number = length ts + next.number;
  most = (let low = next.most in omega (arith, low, length-append ts us));
  went = went_past folder ts us first.number next.number b.told c.told m past (first.all refl) first.went next.went;
  out = subst (λ text. GivesSome a.out c.out text) (sym (out_past ts us next.number)) (gives_then a.out b.out c.out
      (out_of ts) (out_before us next.number) ran.out next.out);
  err = subst (λ text. GivesSome a.err c.err text) (sym (err_past ts us next.number)) (gives_then a.err b.err c.err
      (err_of ts) (err_before us next.number) ran.err next.err);
  all = λ ok. (let e = next.all ok in omega (arith, e, length-append ts us));
  calm = λ fault. subst IsCalm (sym (newest_more next.went.added first.went.added m)) (next.calm fault);
  committed = λ fault. early_past w (seen c.told) folder ts us next.number (next.committed fault);
  recovers = λ fault.
      subst (λ (v : View). RecoversAs v (view_of (newest (next.went.added ++ first.went.added) m)))
      (sym (view_past folder ts us next.number))
      (subst (λ (x : Model). RecoversAs (view_at (folder_after folder ts) us next.number) (view_of x))
      (sym (newest_more next.went.added first.went.added m)) (next.recovers fault));
  firm = subst HasFirm (sym (newest_more next.went.added first.went.added m)) next.firm;
}

-- ---- a list that ended early ended so for every longer list

abbrev pub went_front : (folder : Folder) (ts us : List NamedStep) (j : ℕ) (b : Told) (m : Model) (past : List Model)
    → (went : Went (IsAtNumber (view_at folder ts) (length ts)) m past j b)
    → Went (IsAtNumber (view_at folder (ts ++ us)) (length (ts ++ us))) m past j b
went_front folder ts us j b m past went = record {
  added = went.added;
  is = went.is;
  numbers =
      numbered_as (λ k m2. Allows (IsAtNumber (view_at folder ts) (length ts) k) m2)
      (λ k m2. Allows (IsAtNumber (view_at folder (ts ++ us)) (length (ts ++ us)) k) m2) 0 went.added m j
      (λ k low m2 among u image. among_front folder ts us k u (among u image)) went.numbers;
  guarded = went.guarded;
}

abbrev pub crash_points_more : (w : List ℕ → Bool) (fault : Fault) (folder : Folder) (ts us : List NamedStep)
    (a b : Scene) (m : Model) (past : List Model) → ListCrashPoints w (Err fault) folder ts a b m past
    → ListCrashPoints w (Err fault) folder (ts ++ us) a b m past
crash_points_more w fault folder ts us a b m past l = record {
  number = l.number;
  most = (let low = l.most in omega (arith, low, length-append ts us));
  went = went_front folder ts us l.number b.told m past l.went;
  out = out_front a.out b.out ts us l.number l.most l.out;
  err = err_front a.err b.err ts us l.number l.most l.err;
  all = λ ok. absurd (cc);
  calm = l.calm;
  committed = λ other. early_front w (seen b.told) folder ts us l.number l.most (l.committed other);
  recovers = λ other. subst (λ (v : View). RecoversAs v (view_of (newest l.went.added m)))
      (sym (view_front folder ts us l.number l.most)) (l.recovers other);
  firm = l.firm;
}

-- ---- acknowledged steps are counted

pub acknowledged : (w : List ℕ → Bool) (r : Result ℕ Fault) (folder : Folder) (ts : List NamedStep) (a b : Scene)
    (m : Model) (past : List Model) → (l : ListCrashPoints w r folder ts a b m past) → (k : ℕ) → k < length ts
    → IsAcknowledged r ts k (shown a) (shown b) → suc k ≤ l.number
acknowledged w r folder ts a b m past l k below known = ⊎_elim (λ low. absurd (uncounted (omega (arith, low)) known))
    (λ high. omega (arith, high)) (cases_lt l.number (suc k))
  where
    uncounted : l.number ≤ k → IsAcknowledged r ts k (shown a) (shown b) → ⊥
    uncounted low (inl out) = omega (
      arith,
      out,
      more_within a.out b.out (out_before ts l.number) l.out,
      out_rises ts l.number k low,
    )
    uncounted low (inr (inl err)) = omega (
      arith,
      err,
      more_within a.err b.err (err_before ts l.number) l.err,
      err_rises ts l.number k low,
    )
    uncounted low (inr (inr ok)) = omega (arith, low, below, l.all ok)

pub run_crash_points : (x : Action) (w : List ℕ → Bool) (r : Result ℕ Fault) (folder : Folder) (ts : List NamedStep)
    (a b : Scene) (m : Model) (past : List Model) → (list : ListCrashPoints w r folder ts a b m past)
    → (r ≢ Err DiskFault → StaySafe x (view_in folder) (view_at folder ts list.number))
    → (r ≢ Err DiskFault → KeepsSafe (view_in folder) (view_at folder ts list.number))
    → Each (Allows (KeepsSafeFrom m)) list.went.added m → RunCrashPoints x w r folder ts a b m past
run_crash_points x w r folder ts a b m past list safe keeps images =
    record {
      list = list;
      acknowledged = acknowledged w r folder ts a b m past list;
      safe = safe;
      keeps = keeps;
      images = images;
    }
