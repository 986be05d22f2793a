-- The plan becomes the intent, and the group is completed.
use Rattle.std.proofs.Common.{◌≡◌, ℕ, true, false, List, [], ◌∷◌, ◌++◌, Option, None, Some, is_some, inl, inr, refl}
use Rattle.std.proofs.Common.{sym, ap, subst, ◌∙◌, ⊎_elim, arith}
use Rattle.std.specs.Prelude.{IsSome}
use Rattle.std.specs.List.{AllByRecursion}
use Rattle.std.specs.Str.{bytes_eq}
use Rattle.sccs_base.specs.Name.{IsSFileName, p_file, q_file, x_file, z_file}
use Rattle.sccs_base.proofs.SameBytes.{same_bytes}
use Rattle.sccs_disk.specs.Calls.{Done, Half}
use Rattle.sccs_disk.specs.Effects.{pended, renamed, renaming}
use Rattle.sccs_disk.specs.Files.{Content, Model, Rename, View, view_of}
use Rattle.sccs_disk.specs.Images.{Allows, Full, IsFirm}
use Rattle.sccs_disk.specs.Told.{Told, Tells, seen}
use Rattle.sccs_disk.proofs.Puts.{name_cases}
use Rattle.sccs_name_files.specs.Touches.{newest}
use Rattle.sccs_name_files.proofs.Images.{image_pended}
use Rattle.sccs_name_files.proofs.Owned.{firm_stays}
use Rattle.sccs_name_files.proofs.Touched.{newest_more}
use Rattle.sccs_intents.specs.Intents.{entries_in, fate_in, intent_file, plan_file, well_formed}
use Rattle.sccs_intents.specs.Written.{intent_text}
use Rattle.sccs_intents.specs.declared.intents.IntentEntry.{IntentEntry}
use Rattle.sccs_intents.specs.declared.intents.Fate.{Fate}
use Rattle.sccs_intents.specs.declared.intents.Fate.TheVariants.{Replaced}
use Rattle.sccs_intents.proofs.IntentTexts.{text_again}
use Rattle.sccs_crash_points.specs.Calm.{HasFirm, IsCalm}
use Rattle.sccs_crash_points.specs.CrashPoints.{Guards, IsFrom, Went}
use Rattle.sccs_crash_points.specs.Recovery.{IsSettledPair, RecoversAs, fate_at, fated, newer, pair_of, recover}
use Rattle.sccs_crash_points.proofs.CalmDisks.{full_there, looks_firm}
use Rattle.sccs_crash_points.proofs.Joined.{numbered_zero, raised, went_then, each_then, each_by}
use Rattle.sccs_crash_points.proofs.Recovering.{SameLooks, fate_same, looks_recover, pair, pair_same, recovered_is}
use Rattle.sccs_crash_points.proofs.Recovering.{recovered_under, recovers_itself, recovers_then, newer_same}
use Rattle.sccs_crash_points.proofs.Untouched.{none_named}
use Rattle.sccs_store.specs.Commits.{Becomes}
use Rattle.sccs_store.proofs.Working.{becomes_both}
use Rattle.sccs_group.specs.Finishing.{CanFinish, Completes, CompletesBy, Finishes, FinishesBy, Follows, IsHeld}
use Rattle.sccs_group.specs.Finishing.{IsSettled}
use Rattle.sccs_group.specs.Grouping.{AnnounceEnds, AnnounceStops, CanAnnounce, CanPlace, CanPlaceAll, IsGrouped}
use Rattle.sccs_group.specs.Grouping.{OnReplaced, StayHeld, file_of}
use Rattle.sccs_group.specs.Members.{HasGroup, IsPlainG, IsWritten, completed, entries_of}
use Rattle.sccs_group.specs.declared.members.Member.{Member}
use Rattle.sccs_group.proofs.Calling.{held_alike, none_left, view_renamed}
use Rattle.sccs_group.proofs.Closing.{fate_head, fate_tail, no_fate, same_fate}
use Rattle.sccs_group.proofs.Harmless.{fated_same, renamed_other, renamed_to}
use Rattle.sccs_crash_points.proofs.Full.{full_renamed}
use Rattle.sccs_crash_points.proofs.FileNames.{plan_and_sfile, intent_and_sfile}

-- ---- names

-- ---- the view with the intent

abbrev named : View → View
named v = renamed plan_file intent_file v

pub other_s : (v : View) (n : List ℕ) → IsSFileName n → renamed plan_file intent_file v n ≡ v n
other_s v n sfile = renamed_other plan_file intent_file v n (plan_and_sfile n sfile) (intent_and_sfile n sfile)

pub other_file : (v : View) (l : List ℕ) → bytes_eq plan_file l ≡ false → bytes_eq intent_file l ≡ false
    → renamed plan_file intent_file v l ≡ v l
other_file v l a b = renamed_other plan_file intent_file v l a b

pub intent_is : (v : View) → renamed plan_file intent_file v intent_file ≡ v plan_file
intent_is v = renamed_to plan_file intent_file v

-- a member of the intent's entries
pub record Named (P : Member → Type 0) (n : List ℕ) (fate : Fate) : Type 0 where
  pub member : Member
  pub name : member.entry.name ≡ n
  pub is : member.entry.fate ≡ fate
  pub holds : P member

pub member_by : (P : Member → Type 0) (ms : List Member) (n : List ℕ) (fate : Fate) → fate_in (entries_of ms) n
    ≡ Some fate → AllByRecursion P ms → Named P n fate
member_by P [] n fate is all = absurd (no_fate n fate is)
member_by P (mem ∷ ms) n fate is all =
    ⊎_elim
    (λ e. record {
      member = mem;
      name = e;
      is = same_fate mem.entry.fate fate
          (sym (fate_head mem.entry (entries_of ms) n (same_test mem.entry.name n e)) ∙ is);
      holds = all.0;
    })
    (λ apart. member_by P ms n fate (sym (fate_tail mem.entry (entries_of ms) n apart) ∙ is) all.1)
    (name_cases mem.entry.name n)
  where
    same_test : (a n : List ℕ) → a ≡ n → bytes_eq a n ≡ true
    same_test a n e = subst (λ l. bytes_eq a l ≡ true) e (same_bytes a)

-- the entries of the intent are those that were written
pub written_entries : (ms : List Member) (v : View) → IsWritten ms
    → v plan_file ≡ Some (file_of (intent_text (entries_of ms)))
    → entries_in (renamed plan_file intent_file v intent_file) ≡ entries_of ms
written_entries ms v written plan = ap entries_in (intent_is v ∙ plan)
    ∙ ap well_formed (text_again (entries_of ms) written)

all_plain : (m : Model) (ms : List Member) → CanPlaceAll ms m → AllByRecursion IsPlainG ms
all_plain m [] all = tt
all_plain m (mem ∷ ms) all = (all.0.plain, all_plain m ms all.1)

pub has_group : (ms : List Member) (m : Model) → IsWritten ms → CanAnnounce ms m
    → HasGroup ms (renamed plan_file intent_file (view_of m))
has_group ms m written can =
    record { entries = written_entries ms (view_of m) written can.plan; plain = all_plain m ms can.group.each }

-- a name of the intent is that of a member
member_at : (ms : List Member) (m : Model) (n : List ℕ) (fate : Fate) → IsWritten ms → CanAnnounce ms m
    → fate_at (renamed plan_file intent_file (view_of m)) n ≡ Some fate → Named (CanPlace m) n fate
member_at ms m n fate written can is =
    member_by (CanPlace m) ms n fate
    (sym (ap (λ (es : List IntentEntry). fate_in es n) (has_group ms m written can).entries) ∙ is) can.group.each

with_fate : (P : Type 0) (f : Option Fate) → IsSome f → ((fate : Fate) → f ≡ Some fate → P) → P
with_fate P None some holds = absurd (cc)
with_fate P (Some fate) some holds = holds fate refl

-- ---- images

x_firm : (m : Model) (n : List ℕ) (fate : Fate) → Named (CanPlace m) n fate → IsFirm (x_file n) m
x_firm m n fate at = subst (λ l. IsFirm (x_file l) m) at.name at.holds.x_state

q_firm : (m : Model) (n : List ℕ) → Named (CanPlace m) n Replaced → IsFirm (q_file n) m
q_firm m n at = subst (λ l. IsFirm (q_file l) m) at.name
    (subst (λ (f : Fate). OnReplaced f (IsFirm (q_file at.member.entry.name) m)) at.is at.holds.q_state)

announce_looks : (ms : List Member) (m : Model) (u : View) → IsWritten ms → CanAnnounce ms m → Full m u
    → SameLooks (named (view_of m)) (named u)
announce_looks ms m u written can full = record {
  intent = intent;
  looks = λ n sfile. record {
    fate = fate_same n (named (view_of m)) (named u) intent;
    s = other_s u n sfile ∙ (firm_stays n m u (can.group.firm.s_files n sfile) full
        ∙ sym (other_s (view_of m) n sfile));
    p = other_file u (p_file n) refl refl ∙ (firm_stays (p_file n) m u (can.group.firm.p_files n sfile) full
        ∙ sym (other_file (view_of m) (p_file n) refl refl));
    z = ap is_some (other_file u (z_file n) refl refl) ∙ (full_there m u full (z_file n)
        ∙ sym (ap is_some (other_file (view_of m) (z_file n) refl refl)));
    x = λ some. with_fate (named u (x_file n) ≡ named (view_of m) (x_file n)) (fate_at (named (view_of m)) n) some
        (λ fate is. other_file u (x_file n) refl refl
        ∙ (firm_stays (x_file n) m u (x_firm m n fate (member_at ms m n fate written can is)) full
        ∙ sym (other_file (view_of m) (x_file n) refl refl)));
    q = λ is. other_file u (q_file n) refl refl
        ∙ (firm_stays (q_file n) m u (q_firm m n (member_at ms m n Replaced written can is)) full
        ∙ sym (other_file (view_of m) (q_file n) refl refl));
  };
}
  where
    intent : named u intent_file ≡ named (view_of m) intent_file
    intent = intent_is u ∙ (firm_stays plan_file m u can.plan_state full ∙ sym (intent_is (view_of m)))

-- ---- the group may be finished

-- recovery makes the new pair of a name of the intent
pub announced_pair : (v : View) (n : List ℕ) (fate : Fate) → IsSFileName n → fate_at (renamed plan_file intent_file v) n
    ≡ Some fate
    → pair_of (recover n (renamed plan_file intent_file v)) n ≡ pair (newer (v (x_file n)) (v n))
    (fated fate (v (q_file n)) (v (p_file n)))
announced_pair v n fate sfile is =
    recovered_is n (named v) sfile
    ∙ (recovered_under n (named v) (Some fate) is
    ∙ pair_same _ _ _ _ (newer_same (named v (x_file n)) (v (x_file n)) (named v n) (v n)
    (other_file v (x_file n) refl refl) (other_s v n sfile))
    (fated_same fate (v (q_file n)) (named v (q_file n)) (v (p_file n)) (named v (p_file n))
    (other_file v (q_file n) refl refl) (other_file v (p_file n) refl refl)))

new_pair_at : (m : Model) (n : List ℕ) (fate : Fate) → Named (CanPlace m) n fate
    → IsSettledPair (pair (newer (view_of m (x_file n)) (view_of m n)) (fated fate (view_of m (q_file n))
    (view_of m (p_file n))))
new_pair_at m n fate at =
    subst (λ l. IsSettledPair (pair (newer (view_of m (x_file l)) (view_of m l)) (fated fate (view_of m (q_file l))
    (view_of m (p_file l))))) at.name
    (subst (λ (f : Fate). IsSettledPair (pair (newer (view_of m (x_file at.member.entry.name))
    (view_of m at.member.entry.name)) (fated f (view_of m (q_file at.member.entry.name))
    (view_of m (p_file at.member.entry.name))))) at.is at.holds.settled)

announced_held : (ms : List Member) (m : Model) → IsWritten ms → CanAnnounce ms m → IsHeld (named (view_of m))
announced_held ms m written can = λ n sfile some.
    with_fate (IsSome (named (view_of m) (z_file n))) (fate_at (named (view_of m)) n) some
    (λ fate is. let at : Named (CanPlace m) n fate = member_at ms m n fate written can is in
    subst (λ (o : Option Content). IsSome o) (sym (other_file (view_of m) (z_file n) refl refl))
    (subst (λ l. IsSome (view_of m (z_file l))) at.name at.holds.held))

announced_settled : (ms : List Member) (m : Model) → IsWritten ms → CanAnnounce ms m → IsSettled (named (view_of m))
announced_settled ms m written can = λ n sfile some.
    with_fate (IsSettledPair (pair_of (recover n (named (view_of m))) n)) (fate_at (named (view_of m)) n) some
    (λ fate is. subst IsSettledPair (sym (announced_pair (view_of m) n fate sfile is))
    (new_pair_at m n fate (member_at ms m n fate written can is)))

abbrev next_of : Model → Model
next_of m = pended (Rename plan_file intent_file) m

pub announced_can : (ms : List Member) (m : Model) → IsWritten ms → CanAnnounce ms m → CanFinish (next_of m)
announced_can ms m written can = record {
  firm = looks_firm (next_of m) (λ w full.
      let x : (u : View) × Full m u × (w ≡ named u) = full_renamed plan_file intent_file m w full in
      subst (λ (v : View). SameLooks v w) (sym (view_renamed plan_file intent_file m))
      (subst (λ (v : View). SameLooks (named (view_of m)) v) (sym x.2) (announce_looks ms m x.0 written can x.1)));
  held = subst IsHeld (sym (view_renamed plan_file intent_file m)) (announced_held ms m written can);
  settled = subst IsSettled (sym (view_renamed plan_file intent_file m)) (announced_settled ms m written can);
}

-- before the intent is there nothing is named
pub can_begin : (m : Model) → HasFirm m → view_of m intent_file ≡ None → CanFinish m
can_begin m firm none = record {
  firm = firm;
  held = λ n sfile some. absurd (none_named (fate_at (view_of m) n) (none_left (view_of m) n none) some);
  settled = λ n sfile some. absurd (none_named (fate_at (view_of m) n) (none_left (view_of m) n none) some);
}

-- ---- the story

pub announced_image : (ms : List Member) (m : Model) → IsWritten ms → CanAnnounce ms m
    → Allows (IsGrouped m (named (view_of m)) 0) (next_of m)
announced_image ms m written can = λ w image.
    ⊎_elim (λ old. inr (refl, (w, old, recovers_itself w)))
    (λ full.
    let x : (u : View) × Full m u × (w ≡ named u) = full_renamed plan_file intent_file m w full in
    inl (subst (λ (v : View). RecoversAs (named (view_of m)) v) (sym x.2) (looks_recover (named (view_of m)) (named x.0)
    (announce_looks ms m x.0 written can x.1))))
    (image_pended (Rename plan_file intent_file) m w image)

pub announced_full : (ms : List Member) (m : Model) → IsWritten ms → CanAnnounce ms m → (w : View) → Full (next_of m) w
    → RecoversAs (named (view_of m)) w
announced_full ms m written can w full =
    let x : (u : View) × Full m u × (w ≡ named u) = full_renamed plan_file intent_file m w full in
    subst (λ (v : View). RecoversAs (named (view_of m)) v) (sym x.2) (looks_recover (named (view_of m)) (named x.0)
    (announce_looks ms m x.0 written can x.1))

pub announced_guards : (m : Model) → Guards (view_of m) (view_of (next_of m))
announced_guards m = λ n sfile. inl (subst (λ (v : View). pair_of v n ≡ pair_of (view_of m) n)
    (sym (view_renamed plan_file intent_file m))
    (pair_same _ _ _ _ (other_s (view_of m) n sfile) (other_file (view_of m) (p_file n) refl refl)))

-- the z-file of each name of the intent is there
pub announced_holds : (ms : List Member) (m : Model) → IsWritten ms → CanAnnounce ms m → Allows IsHeld m
    → Allows IsHeld (next_of m)
announced_holds ms m written can all = λ w image.
    ⊎_elim (λ old. all w old)
    (λ full.
    let x : (u : View) × Full m u × (w ≡ named u) = full_renamed plan_file intent_file m w full in
    subst IsHeld (sym x.2) (held_alike (named (view_of m)) (named x.0) (announce_looks ms m x.0 written can x.1)
    (announced_held ms m written can)))
    (image_pended (Rename plan_file intent_file) m w image)

pub finished_holds : (m : Model) (past : List Model) (d : Told) → (run : Finishes m past d) → StayHeld run.added m
finished_holds m past d run all = each_by (Follows m) (Allows IsHeld) run.added m (λ m2 follows w image n sfile some.
    follows.held n sfile (λ u there. all u there n sfile) w image some) run.each

behind_holds : (ms : List Member) (m : Model) (past : List Model) (d : Told) → IsWritten ms → CanAnnounce ms m
    → (run : Finishes (next_of m) past d) → StayHeld (run.added ++ next_of m ∷ []) m
behind_holds ms m past d written can run all =
    let now : Allows IsHeld (next_of m) = announced_holds ms m written can all in
    each_then (Allows IsHeld) run.added (next_of m ∷ []) m (now, all) (finished_holds (next_of m) past d run now)

-- nothing was made
abbrev pub stays_grouped : (m : Model) (past : List Model) (w : View) (t : Told) → t ≡ Tells m past
    → Went (IsGrouped m w) m past 0 t
stays_grouped m past w t is =
    record {
      added = [];
      is = is;
      numbers = (omega arith, λ u image. inr (refl, (u, image, recovers_itself u)));
      guarded = tt;
    }

-- the plan is the intent
abbrev pub announced_went : (ms : List Member) (m : Model) (past : List Model) (t : Told) → IsWritten ms
    → CanAnnounce ms m → t ≡ Tells (pended (Rename plan_file intent_file) m) (m ∷ past)
    → Went (IsGrouped m (renamed plan_file intent_file (view_of m))) m past 0 t
announced_went ms m past t written can is = record {
  added = next_of m ∷ [];
  is = is;
  numbers = (
    announced_image ms m written can,
    (0, omega arith, (omega arith, λ u image. inr (refl, (u, image, recovers_itself u)))),
  );
  guarded = (announced_guards m, tt);
}

-- an image behind the intent
pub grouped_from : (m m2 : Model) (w : View) → Allows (IsGrouped m w 0) m2 → (u : View) → IsFrom m2 u
    → IsGrouped m w 0 u
grouped_from m m2 w all u from =
    ⊎_elim (λ new. inl (recovers_then w from.0 u new from.2))
    (λ old. inr (refl, (old.1.0, old.1.1, recovers_then old.1.0 from.0 u old.1.2 from.2))) (all from.0 from.1)

-- a run in which the group is finished goes on behind the intent
abbrev pub finished_went : (m m2 : Model) (past2 : List Model) (w : View) (d : Told) → Allows (IsGrouped m w 0) m2
    → (run : Finishes m2 past2 d) → Went (IsGrouped m w) m2 past2 0 d
finished_went m m2 past2 w d all run = record {
  added = run.added;
  is = run.is;
  numbers = numbered_zero (Follows m2) (λ i x. Allows (IsGrouped m w i) x) run.added m2 (λ x follows u image.
      grouped_from m m2 w all u (follows.images u image)) run.each;
  guarded = run.guarded;
}

-- ---- the calls

-- the renaming failed
pub rename_half : (ms : List Member) (a b : Told) → IsWritten ms → Half (renaming plan_file intent_file) a b
    → AnnounceStops ms a b
rename_half ms a b written half = λ m past is can.
    ⊎_elim (λ same. (
      stays_grouped m past (named (view_of m)) b (same ∙ is),
      can_begin m can.group.firm can.group.none,
      λ all. all,
    ))
    (λ made. (
      announced_went ms m past b written can (subst (λ (x : Model). b ≡ Tells x (m ∷ past)) made.2 made.1),
      announced_can ms m written can,
      λ all. (announced_holds ms m written can all, all),
    )) (half.model m past is)

-- the group could not be completed
pub complete_stops : (ms : List Member) (a b d : Told) → IsWritten ms → Done (renaming plan_file intent_file) a b
    → FinishesBy (HasGroup ms) b d → AnnounceStops ms a d
complete_stops ms a b d written done story = λ m past is can.
    stops m past (done.model m past is) can
    (story (next_of m) (m ∷ past) (done.model m past is) (announced_can ms m written can)
    (subst (HasGroup ms) (sym (view_renamed plan_file intent_file m)) (has_group ms m written can)))
  where
    stops : (m : Model) (past : List Model) → b ≡ Tells (next_of m) (m ∷ past) → CanAnnounce ms m
        → Finishes (next_of m) (m ∷ past) d
        → (went : Went (IsGrouped m (renamed plan_file intent_file (view_of m))) m past 0 d)
        × CanFinish (newest went.added m) × StayHeld went.added m
    stops m past at can run = (
      went_then (IsGrouped m (named (view_of m))) m past 0 b d (announced_went ms m past b written can at)
          (finished_went m (next_of m) (m ∷ past) (named (view_of m)) d (announced_image ms m written can) run),
      subst CanFinish (sym (newest_more run.added (next_of m ∷ []) m)) run.can,
      behind_holds ms m (m ∷ past) d written can run,
    )

abbrev completed_went : (ms : List Member) (m : Model) (past2 : List Model) (d : Told) → IsWritten ms → CanAnnounce ms m
    → Completes (next_of m) past2 d → Went (IsGrouped m (named (view_of m))) (next_of m) past2 1 d
completed_went ms m past2 d written can completes = record {
  added = completes.run.added;
  is = completes.run.is;
  numbers =
      raised (λ i x. Allows (IsGrouped m (named (view_of m)) i) x) 0 completes.run.added (next_of m) 0 1 (omega arith)
      (λ u image. let x : (v : View) × Full (next_of m) v × RecoversAs v u = completes.all u image in
      inl (recovers_then (named (view_of m)) x.0 u (announced_full ms m written can x.0 x.1) x.2))
      (finished_went m (next_of m) past2 (named (view_of m)) d (announced_image ms m written can)
      completes.run).numbers;
  guarded = completes.run.guarded;
}

-- the group was completed
pub complete_ends : (ms : List Member) (a b d : Told) → IsWritten ms → Done (renaming plan_file intent_file) a b
    → CompletesBy (HasGroup ms) b d → AnnounceEnds ms a d
complete_ends ms a b d written done story = λ m past is can.
    ends m past (done.model m past is) can
    (story (next_of m) (m ∷ past) (done.model m past is) (announced_can ms m written can)
    (subst (HasGroup ms) (sym (view_renamed plan_file intent_file m)) (has_group ms m written can)))
  where
    ends : (m : Model) (past : List Model) → b ≡ Tells (next_of m) (m ∷ past) → CanAnnounce ms m
        → Completes (next_of m) (m ∷ past) d
        → (went : Went (IsGrouped m (renamed plan_file intent_file (view_of m))) m past 1 d)
        × IsCalm (newest went.added m) × StayHeld went.added m
    ends m past at can completes = (
      went_then (IsGrouped m (named (view_of m))) m past 1 b d (announced_went ms m past b written can at)
          (completed_went ms m (m ∷ past) d written can completes),
      subst IsCalm (sym (newest_more completes.run.added (next_of m ∷ []) m)) completes.calm,
      behind_holds ms m (m ∷ past) d written can completes.run,
    )

-- the names of the call's arguments
pub renamed_done : (from to : List ℕ) (a b : Told) → from ≡ plan_file → to ≡ intent_file → Done (renaming from to) a b
    → Done (renaming plan_file intent_file) a b
renamed_done from to a b plan intent done = subst (λ l. Done (renaming plan_file l) a b) intent
    (subst (λ l. Done (renaming l to) a b) plan done)

pub renamed_half : (from to : List ℕ) (a b : Told) → from ≡ plan_file → to ≡ intent_file → Half (renaming from to) a b
    → Half (renaming plan_file intent_file) a b
renamed_half from to a b plan intent half = subst (λ l. Half (renaming plan_file l) a b) intent
    (subst (λ l. Half (renaming l to) a b) plan half)

pub announced_view : (ms : List Member) (from to : List ℕ) (a b d : Told) → from ≡ plan_file → to ≡ intent_file
    → Done (renaming from to) a b → Becomes (completed ms) (seen b) (seen d)
    → Becomes (λ (v : View). completed ms (renamed plan_file intent_file v)) (seen a) (seen d)
announced_view ms from to a b d plan intent done becomes =
    becomes_both (renamed plan_file intent_file) (completed ms) (seen a) (seen b) (seen d)
    (renamed_done from to a b plan intent done).view becomes
