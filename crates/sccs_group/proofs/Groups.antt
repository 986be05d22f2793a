-- Laws on groups: what comes before a commit, what the intent makes of a name, and recovery behind it.
use Rattle.std.proofs.Common.{◌≡◌, ℕ, ◌<◌, ◌≤◌, true, false, List, [], ◌∷◌, drop, length, Option, None, Some, is_some}
use Rattle.std.proofs.Common.{inl, inr, refl, sym, ap, subst, ◌∙◌, ⊎_elim, arith}
use Rattle.std.proofs.lemmas.List.{length-map}
use Rattle.std.specs.List.{AllByRecursion}
use Rattle.std.specs.Str.{bytes_eq}
use Rattle.sccs_base.specs.Name.{IsSFileName, p_file, q_file, x_file, z_file}
use Rattle.sccs_base.proofs.SameBytes.{same_bytes}
use Rattle.sccs_disk.specs.Files.{Content, Model, View, put, view_of}
use Rattle.sccs_disk.specs.Images.{Allows}
use Rattle.sccs_disk.specs.Told.{Told, Tells}
use Rattle.sccs_disk.proofs.Puts.{name_cases, put_other, put_same}
use Rattle.sccs_name_files.specs.StepFiles.{Files, l_file, moved}
use Rattle.sccs_name_files.specs.Touches.{Leaves, earlier, newest}
use Rattle.sccs_name_files.proofs.Images.{view_image}
use Rattle.sccs_name_files.proofs.Touched.{newest_more}
use Rattle.sccs_intents.specs.Intents.{AreOthers, fate_in, has_name, intent_file, plan_file}
use Rattle.sccs_intents.specs.declared.intents.IntentEntry.{IntentEntry}
use Rattle.sccs_intents.specs.declared.intents.Fate.{Fate}
use Rattle.sccs_intents.proofs.IntentTexts.{thousand_short}
use Rattle.sccs_pfile.specs.Recovered.{recovered_pfile}
use Rattle.sccs_crash_points.specs.Calm.{IsCalm, KeepsPairs}
use Rattle.sccs_crash_points.specs.CrashPoints.{EndsAfter, EndsBefore, EndsWithin, IsAt, IsFrom, RecoversOn, Stays}
use Rattle.sccs_crash_points.specs.CrashPoints.{Went}
use Rattle.sccs_crash_points.specs.Recovery.{RecoversAs, fate_at, is_kept, pair_of, recover}
use Rattle.sccs_crash_points.proofs.CalmDisks.{calm_firm, calm_unnamed}
use Rattle.sccs_crash_points.proofs.FileNames.{from_sfile, kept_intent, kept_p, kept_q, kept_s, kept_x, kept_z}
use Rattle.sccs_crash_points.proofs.FileNames.{sfile_and_intent, siblings_differ, to_s, to_sfile, plan_and_sfile}
use Rattle.sccs_crash_points.proofs.Joined.{numbered_as, numbered_now, numbered_zero, went_then, stays_as}
use Rattle.sccs_crash_points.proofs.Recovering.{pair, recovered_alike, recovered_is, recovered_same, recovered_under}
use Rattle.sccs_crash_points.proofs.Recovering.{recovers_then, sound_recovered}
use Rattle.sccs_crash_points.proofs.Untouched.{went_at}
use Rattle.sccs_group.specs.Changes.{Change, IsPrepared, after_changes, members_in}
use Rattle.sccs_group.specs.Finishing.{CanFinish, Completes, Follows}
use Rattle.sccs_group.specs.Grouping.{CanGroup, GroupEnds, GroupStops, IsGrouped, announced, new_pair_of, planned}
use Rattle.sccs_group.specs.Members.{AreMembers, IsWritten, entries_of}
use Rattle.sccs_group.specs.declared.members.Member.{Member}
use Rattle.sccs_group.proofs.Announcing.{announced_pair, other_file, other_s, written_entries}
use Rattle.sccs_group.proofs.Calling.{none_left}
use Rattle.sccs_group.proofs.Closing.{fate_head, fate_tail, no_fate, same_fate}
use Rattle.sccs_group.proofs.Committing.{pair_kept}
use Rattle.sccs_group.proofs.Harmless.{Same}
use Rattle.sccs_group.proofs.Runs.{from_image}
use Rattle.sccs_base.proofs.Bools.{right_false, left_false}

-- ---- what may be written

pub members_written : (ms : List Member) → 0 < length ms → length ms ≤ 1000 → AreMembers ms → IsWritten ms
members_written ms some few are = record {
  some = let same = length-map ms (λ (mem : Member). mem.entry) in omega (arith, same, some);
  others = are;
  short = thousand_short (entries_of ms) are (let same = length-map ms (λ (mem : Member). mem.entry) in
      omega (arith, same, few));
}

-- ---- before the commit

-- each image of the moment now keeps the pairs
kept_now : (v : View) (m : Model) (past : List Model) (b : Told) → (stays : Stays v m past b)
    → Allows (KeepsPairs v) (newest stays.added m)
kept_now v m past b stays = numbered_now (λ i m2. Allows (KeepsPairs v) m2) 0 stays.added m 0 stays.numbers

pub before_then : (b d : Told) (m : Model) (past : List Model) → EndsBefore (view_of m) m past b
    → ((m1 : Model) (past1 : List Model) → b ≡ Tells m1 past1 → IsCalm m1 → EndsBefore (view_of m1) m1 past1 d)
    → EndsBefore (view_of m) m past d
before_then b d m past ends next = joined (next (newest ends.0.added m) (earlier ends.0.added m past) ends.0.is ends.1)
  where
    joined : EndsBefore (view_of (newest ends.0.added m)) (newest ends.0.added m) (earlier ends.0.added m past) d
        → EndsBefore (view_of m) m past d
    joined later = (
      went_then (λ i w. KeepsPairs (view_of m) w) m past 0 b d ends.0
          (stays_as (view_of m) (newest ends.0.added m) (earlier ends.0.added m past) d
          (kept_now (view_of m) m past b ends.0 (view_of (newest ends.0.added m))
          (view_image (newest ends.0.added m))) later.0),
      subst IsCalm (sym (newest_more later.0.added ends.0.added m)) later.1,
    )

-- ---- the commit

at_group : (v w : View) (m1 : Model) (w1 : View) → Allows (KeepsPairs v) m1 → RecoversAs w w1 → (i : ℕ) (u : View)
    → IsGrouped m1 w1 i u → IsAt v w i u
at_group v w m1 w1 keeps same i u (inl new) = inl (recovers_then w w1 u same new)
at_group v w m1 w1 keeps same i u (inr (zero, from)) =
    inr (zero, recovers_then v from.0 u (keeps from.0 from.1).recovers from.2)

abbrev group_run : (v w : View) (m1 : Model) (w1 : View) (past1 : List Model) (j : ℕ) (d : Told)
    → Allows (KeepsPairs v) m1 → RecoversAs w w1 → Went (IsGrouped m1 w1) m1 past1 j d → Went (IsAt v w) m1 past1 j d
group_run v w m1 w1 past1 j d keeps same went = record {
  added = went.added;
  is = went.is;
  numbers = numbered_as (λ i m2. Allows (IsGrouped m1 w1 i) m2) (λ i m2. Allows (IsAt v w i) m2) 0 went.added m1 j
      (λ i low m2 all u image. at_group v w m1 w1 keeps same i u (all u image)) went.numbers;
  guarded = went.guarded;
}

pub group_within : (ms : List Member) (a b d : Told) (m : Model) (past : List Model) (w : View) → a ≡ Tells m past
    → EndsBefore (view_of m) m past b → Leaves (CanGroup ms) a b
    → ((m1 : Model) (past1 : List Model) → b ≡ Tells m1 past1 → RecoversAs w (announced ms (view_of m1)))
    → GroupStops ms b d → EndsWithin (view_of m) w m past d
group_within ms a b d m past w is ends can same stops =
    let later = stops (newest ends.0.added m) (earlier ends.0.added m past) ends.0.is
    (can m past is (newest ends.0.added m) (earlier ends.0.added m past) ends.0.is) in (
      went_then (IsAt (view_of m) w) m past 0 b d (went_at (view_of m) w m past b ends.0)
          (group_run (view_of m) w (newest ends.0.added m) (announced ms (view_of (newest ends.0.added m)))
          (earlier ends.0.added m past) 0 d (kept_now (view_of m) m past b ends.0)
          (same (newest ends.0.added m) (earlier ends.0.added m past) ends.0.is) later.0),
      (subst CanFinish (sym (newest_more later.0.added ends.0.added m)) later.1).firm,
    )

pub group_after : (ms : List Member) (a b d : Told) (m : Model) (past : List Model) (w : View) → a ≡ Tells m past
    → EndsBefore (view_of m) m past b → Leaves (CanGroup ms) a b
    → ((m1 : Model) (past1 : List Model) → b ≡ Tells m1 past1 → RecoversAs w (announced ms (view_of m1)))
    → GroupEnds ms b d → EndsAfter (view_of m) w m past d
group_after ms a b d m past w is ends can same stops =
    let later = stops (newest ends.0.added m) (earlier ends.0.added m past) ends.0.is
    (can m past is (newest ends.0.added m) (earlier ends.0.added m past) ends.0.is) in (
      went_then (IsAt (view_of m) w) m past 1 b d (went_at (view_of m) w m past b ends.0)
          (group_run (view_of m) w (newest ends.0.added m) (announced ms (view_of (newest ends.0.added m)))
          (earlier ends.0.added m past) 1 d (kept_now (view_of m) m past b ends.0)
          (same (newest ends.0.added m) (earlier ends.0.added m past) ends.0.is) later.0),
      subst IsCalm (sym (newest_more later.0.added ends.0.added m)) later.1,
    )

-- ---- what the intent makes of a name

planned_other : (ms : List Member) (v : View) (l : List ℕ) → bytes_eq plan_file l ≡ false → planned ms v l ≡ v l
planned_other ms v l apart = put_other v plan_file l _ apart

pub new_pair_is : (ms : List Member) (v : View) (mem : Member) → IsSFileName mem.entry.name
    → fate_at (announced ms v) mem.entry.name ≡ Some mem.entry.fate → pair_of (recover mem.entry.name (announced ms v))
    mem.entry.name ≡ new_pair_of mem v
new_pair_is ms v mem sfile named =
    let n = mem.entry.name in
    announced_pair (planned ms v) n mem.entry.fate sfile named
    ∙ pair_kept mem v (planned ms v) (planned_other ms v n (plan_and_sfile n sfile))
    (planned_other ms v (x_file n) refl) (planned_other ms v (q_file n) refl) (planned_other ms v (p_file n) refl)

pub unnamed_fate : (ms : List Member) (n : List ℕ) → has_name (entries_of ms) n ≡ false → fate_in (entries_of ms) n
    ≡ None
unnamed_fate [] n none = refl
unnamed_fate (mem ∷ ms) n none =
    fate_tail mem.entry (entries_of ms) n (left_false (bytes_eq mem.entry.name n) (has_name (entries_of ms) n) none)
    ∙ unnamed_fate ms n (right_false (bytes_eq mem.entry.name n) (has_name (entries_of ms) n) none)

-- what the intent says of a name
pub announced_fate : (ms : List Member) (v : View) (n : List ℕ) → IsWritten ms → fate_at (announced ms v) n ≡ fate_in
    (entries_of ms) n
announced_fate ms v n written = ap (λ (es : List IntentEntry). fate_in es n) (written_entries ms (planned ms v) written
    (put_same v plan_file _))

announced_same : (ms : List Member) (v : View) (n : List ℕ) → IsSFileName n → Same n v (announced ms v)
announced_same ms v n sfile = record {
  s = other_s (planned ms v) n sfile ∙ planned_other ms v n (plan_and_sfile n sfile);
  p = other_file (planned ms v) (p_file n) refl refl ∙ planned_other ms v (p_file n) refl;
  z = other_file (planned ms v) (z_file n) refl refl ∙ planned_other ms v (z_file n) refl;
  x = other_file (planned ms v) (x_file n) refl refl ∙ planned_other ms v (x_file n) refl;
  q = other_file (planned ms v) (q_file n) refl refl ∙ planned_other ms v (q_file n) refl;
}

-- views with the same files of a name that no intent names
pub unnamed_same : (n : List ℕ) (v w : View) → IsSFileName n → fate_at v n ≡ None → fate_at w n ≡ None → Same n v w
    → pair_of (recover n w) n ≡ pair_of (recover n v) n
unnamed_same n v w sfile none none2 same =
    recovered_is n w sfile
    ∙ (recovered_alike n v w (record {
      fate = none2 ∙ sym none;
      s = same.s;
      p = same.p;
      z = ap is_some same.z;
      x =
          λ named. same.x;
      q = λ named. same.q;
    }) ∙ sym (recovered_is n v sfile))

pub other_pair_is : (ms : List Member) (v : View) (n : List ℕ) → IsWritten ms → IsSFileName n → v intent_file ≡ None
    → has_name (entries_of ms) n ≡ false → pair_of (recover n (announced ms v)) n ≡ pair_of (recover n v) n
other_pair_is ms v n written sfile none other =
    unnamed_same n v (announced ms v) sfile (none_left v n none) (announced_fate ms v n written
    ∙ unnamed_fate ms n other) (announced_same ms v n sfile)

-- ---- recovery behind a group

abbrev from_went : (m : Model) (past : List Model) (b : Told) → (done : Completes m past b)
    → Went (λ i w. IsFrom m w) m past 0 b
from_went m past b done = record {
  added = done.run.added;
  is = done.run.is;
  numbers = numbered_zero (Follows m) (λ i x. Allows (IsFrom m) x) done.run.added m (λ x follows. follows.images)
      done.run.each;
  guarded = done.run.guarded;
}

abbrev from_later : (m m1 : Model) (past1 : List Model) (d : Told) → Allows (IsFrom m) m1
    → Went (λ i w. IsFrom m1 w) m1 past1 0 d → Went (λ i w. IsFrom m w) m1 past1 0 d
from_later m m1 past1 d all went = record {
  added = went.added;
  is = went.is;
  numbers = numbered_as (λ i x. Allows (IsFrom m1) x) (λ i x. Allows (IsFrom m) x) 0 went.added m1 0
      (λ i low x from w image. from_image m m1 w all (from w image)) went.numbers;
  guarded = went.guarded;
}

pub recovery_behind : (b d : Told) (m : Model) (past : List Model) → (done : Completes m past b)
    → view_of (newest done.run.added m) intent_file ≡ None → RecoversOn b d → Went (λ i w. IsFrom m w) m past 0 d
recovery_behind b d m past done none recovers =
    went_then (λ i w. IsFrom m w) m past 0 b d (from_went m past b done)
    (from_later m (newest done.run.added m) (earlier done.run.added m past) d
    (numbered_now (λ i x. Allows (IsFrom m) x) 0 done.run.added m 0 (from_went m past b done).numbers)
    (recovers (newest done.run.added m) (earlier done.run.added m past) done.run.is
    (record {
      firm = calm_firm (newest done.run.added m) done.calm;
      unnamed = λ w image n sfile. calm_unnamed n
          (newest done.run.added m) done.calm (none_left (view_of (newest done.run.added m)) n none) w image;
    })))

-- ---- the views after the members' steps

pub moved_other : (k : List ℕ) (f : Files) (v : View) (l : List ℕ) → bytes_eq k l ≡ false
    → bytes_eq (p_file k) l ≡ false → bytes_eq (drop 2 k) l ≡ false → bytes_eq (z_file k) l ≡ false
    → bytes_eq (l_file k) l ≡ false → moved v k (Some f) l ≡ v l
moved_other k f v l s p g z m =
    put_other (put (put (put (put v (l_file k) f.l) (z_file k) f.z) (drop 2 k) f.g) (p_file k) f.p) k l f.s s
    ∙ (put_other (put (put (put v (l_file k) f.l) (z_file k) f.z) (drop 2 k) f.g) (p_file k) l f.p p
    ∙ (put_other (put (put v (l_file k) f.l) (z_file k) f.z) (drop 2 k) l f.g g
    ∙ (put_other (put v (l_file k) f.l) (z_file k) l f.z z ∙ put_other v (l_file k) l f.l m)))

pub moved_elsewhere : (k n : List ℕ) (f : Files) (v : View) → IsSFileName k → IsSFileName n → is_kept (drop 2 k) ≡ false
    → bytes_eq k n ≡ false → Same n v (moved v k (Some f))
moved_elsewhere k n f v own sfile plain apart = record {
  s = moved_other k f v n apart (from_sfile 112 k n sfile refl) (kept_s (drop 2 k) n plain sfile)
      (from_sfile 122 k n sfile refl) (from_sfile 108 k n sfile refl);
  p = moved_other k f v (p_file n) (to_sfile 112 k n own refl) (siblings_differ 112 k n own sfile apart)
      (kept_p (drop 2 k) n plain sfile) refl refl;
  z = moved_other k f v (z_file n) (to_sfile 122 k n own refl) refl (kept_z (drop 2 k) n plain sfile)
      (siblings_differ 122 k n own sfile apart) refl;
  x = moved_other k f v (x_file n) (to_sfile 120 k n own refl) refl (kept_x (drop 2 k) n plain sfile) refl refl;
  q = moved_other k f v (q_file n) (to_sfile 113 k n own refl) refl (kept_q (drop 2 k) n plain sfile) refl refl;
}

pub moved_intent : (k : List ℕ) (f : Files) (v : View) → IsSFileName k → is_kept (drop 2 k) ≡ false
    → moved v k (Some f) intent_file ≡ v intent_file
moved_intent k f v own plain = moved_other k f v intent_file (sfile_and_intent k own) refl
    (kept_intent (drop 2 k) plain) refl refl

pub moved_s : (k : List ℕ) (f : Files) (v : View) → moved v k (Some f) k ≡ f.s
moved_s k f v = put_same (put (put (put (put v (l_file k) f.l) (z_file k) f.z) (drop 2 k) f.g) (p_file k) f.p) k f.s

pub moved_p : (k : List ℕ) (f : Files) (v : View) → IsSFileName k → moved v k (Some f) (p_file k) ≡ f.p
moved_p k f v own =
    put_other (put (put (put (put v (l_file k) f.l) (z_file k) f.z) (drop 2 k) f.g) (p_file k) f.p) k (p_file k) f.s
    (to_s 112 k own refl) ∙ put_same (put (put (put v (l_file k) f.l) (z_file k) f.z) (drop 2 k) f.g) (p_file k) f.p

after_intent : (v1 : View) (ds : List Change) (v : View) → AllByRecursion (IsPrepared v1) ds
    → after_changes ds v intent_file ≡ v intent_file
after_intent v1 [] v all = refl
after_intent v1 (d ∷ ds) v all = after_intent v1 ds (moved v d.member.entry.name (Some d.files)) all.1
    ∙ moved_intent d.member.entry.name d.files v all.0.sfile all.0.plain

same_then : (n : List ℕ) (u v w : View) → Same n u v → Same n v w → Same n u w
same_then n u v w first next = record {
  s = next.s ∙ first.s;
  p = next.p ∙ first.p;
  z = next.z ∙ first.z;
  x = next.x
      ∙ first.x;
  q = next.q ∙ first.q;
}

-- an entry that isn't named is another
other_entry : (e : IntentEntry) (es : List IntentEntry) (n : List ℕ) → fate_in (e ∷ es) n ≡ None
    → bytes_eq e.name n ≡ false
other_entry e es n none =
    ⊎_elim (λ same. absurd (no_fate n e.fate (sym none ∙ fate_head e es n (subst (λ l. bytes_eq e.name l ≡ true) same
    (same_bytes e.name))))) (λ apart. apart) (name_cases e.name n)

after_other : (v1 : View) (ds : List Change) (v : View) (n : List ℕ) → IsSFileName n
    → fate_in (entries_of (members_in ds)) n ≡ None → AllByRecursion (IsPrepared v1) ds → Same n v (after_changes ds v)
after_other v1 [] v n sfile none all = record { s = refl; p = refl; z = refl; x = refl; q = refl }
after_other v1 (d ∷ ds) v n sfile none all =
    let apart : bytes_eq d.member.entry.name n ≡ false = other_entry d.member.entry (entries_of (members_in ds)) n
    none in
    same_then n v (moved v d.member.entry.name (Some d.files))
    (after_changes ds (moved v d.member.entry.name (Some d.files))) (moved_elsewhere d.member.entry.name n d.files v
    all.0.sfile sfile all.0.plain apart)
    (after_other v1 ds (moved v d.member.entry.name (Some d.files)) n sfile
    (sym (fate_tail d.member.entry (entries_of (members_in ds)) n apart) ∙ none) all.1)

-- the files of a name after its step
record AtChange (v1 : View) (n : List ℕ) (fate : Fate) (w : View) : Type 0 where
  pub change : Change
  pub name : change.member.entry.name ≡ n
  pub is : change.member.entry.fate ≡ fate
  pub prepared : IsPrepared v1 change
  pub s : w n ≡ change.files.s
  pub p : w (p_file n) ≡ change.files.p

at_change : (v1 : View) (ds : List Change) (v : View) (n : List ℕ) (fate : Fate) → IsSFileName n
    → AreOthers (entries_of (members_in ds)) → fate_in (entries_of (members_in ds)) n ≡ Some fate
    → AllByRecursion (IsPrepared v1) ds
    → AtChange v1 n fate (after_changes ds v)
at_change v1 [] v n fate sfile are is all = absurd (no_fate n fate is)
at_change v1 (d ∷ ds) v n fate sfile are is all =
    ⊎_elim
    (λ e.
    let u : View = moved v d.member.entry.name (Some d.files) in
    let later : Same n u (after_changes ds u) = after_other v1 ds u n sfile (unnamed_fate (members_in ds) n
    (subst (λ l. has_name (entries_of (members_in ds)) l ≡ false) e are.0.alone)) all.1 in
    record {
      change = d;
      name = e;
      is = same_fate d.member.entry.fate fate (sym (fate_head d.member.entry (entries_of (members_in ds)) n
          (subst (λ l. bytes_eq d.member.entry.name l ≡ true) e (same_bytes d.member.entry.name))) ∙ is);
      prepared = all.0;
      s = later.s ∙ subst (λ l. u l ≡ d.files.s) e (moved_s d.member.entry.name d.files v);
      p = later.p ∙ subst (λ l. u (p_file l) ≡ d.files.p) e (moved_p d.member.entry.name d.files v all.0.sfile);
    })
    (λ apart. at_change v1 ds (moved v d.member.entry.name (Some d.files)) n fate sfile are.1
    (sym (fate_tail d.member.entry (entries_of (members_in ds)) n apart) ∙ is) all.1)
    (name_cases d.member.entry.name n)

-- the pair of a name after its step, and behind the intent
own_after : (n : List ℕ) (w : View) (s p : Option Content) → IsSFileName n → fate_at w n ≡ None → w n ≡ s
    → w (p_file n) ≡ p → recovered_pfile s p ≡ p → pair_of (recover n w) n ≡ pair s p
own_after n w s p sfile none is_s is_p settled =
    recovered_is n w sfile
    ∙ (recovered_under n w None none
    ∙ (recovered_same (w n) s (w (p_file n)) p (is_some (w (z_file n))) (is_some (w (z_file n))) is_s is_p refl
    ∙ sound_recovered s p (is_some (w (z_file n))) settled))

own_intent : (ms : List Member) (v1 : View) (mem : Member) (n : List ℕ) (fate : Fate) → IsSFileName n
    → mem.entry.name ≡ n → mem.entry.fate ≡ fate → fate_at (announced ms v1) n ≡ Some fate
    → pair_of (recover n (announced ms v1)) n ≡ new_pair_of mem v1
own_intent ms v1 mem n fate sfile name is named =
    subst (λ l. pair_of (recover l (announced ms v1)) l ≡ new_pair_of mem v1) name
    (new_pair_is ms v1 mem (subst IsSFileName (sym name) sfile)
    (subst (λ l. fate_at (announced ms v1) l ≡ Some mem.entry.fate) (sym name) (named ∙ ap (λ (f : Fate). Some f)
    (sym is))))

by_fate : (ds : List Change) (v v1 : View) (n : List ℕ) (f : Option Fate) → IsWritten (members_in ds)
    → v intent_file ≡ None → v1 intent_file ≡ None → RecoversAs v v1 → AllByRecursion (IsPrepared v1) ds → IsSFileName n
    → fate_in (entries_of (members_in ds)) n ≡ f → pair_of (recover n (announced (members_in ds) v1)) n ≡ pair_of
    (recover n (after_changes ds v)) n
by_fate ds v v1 n None written none none1 same all sfile is =
    unnamed_same n v1 (announced (members_in ds) v1) sfile (none_left v1 n none1)
    (announced_fate (members_in ds) v1 n written ∙ is) (announced_same (members_in ds) v1 n sfile)
    ∙ (same n sfile ∙ sym (unnamed_same n v (after_changes ds v) sfile (none_left v n none)
    (none_left (after_changes ds v) n (after_intent v1 ds v all ∙ none)) (after_other v1 ds v n sfile is all)))
by_fate ds v v1 n (Some fate) written none none1 same all sfile is =
    let at : AtChange v1 n fate (after_changes ds v) = at_change v1 ds v n fate sfile written.others is all in
    own_intent (members_in ds) v1 at.change.member n fate sfile at.name at.is
    (announced_fate (members_in ds) v1 n written ∙ is)
    ∙ (at.prepared.pair ∙ sym (own_after n (after_changes ds v) at.change.files.s at.change.files.p sfile
    (none_left (after_changes ds v) n (after_intent v1 ds v all ∙ none)) at.s at.p at.prepared.settled))

pub views_recover : (ds : List Change) (v v1 : View) → IsWritten (members_in ds) → v intent_file ≡ None
    → v1 intent_file ≡ None → RecoversAs v v1 → AllByRecursion (IsPrepared v1) ds → RecoversAs (after_changes ds v)
    (announced (members_in ds) v1)
views_recover ds v v1 written none none1 same all = λ n sfile. by_fate ds v v1 n
    (fate_in (entries_of (members_in ds)) n) written none none1 same all sfile refl
