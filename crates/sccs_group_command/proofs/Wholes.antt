-- A group is whole or not at all, wherever it is stopped.
use Rattle.std.proofs.Common.{◌≡◌, ◌≢◌, ℕ, Bool, true, false, List, [], ◌∷◌, ◌++◌, map, is_some, Option, None, Some}
use Rattle.std.proofs.Common.{IfSome, IsSome, Result, Ok, Err, inl, inr, refl, sym, ap, subst, ◌∙◌, ⊎_elim}
use Rattle.std.specs.List.{AllByRecursion}
use Rattle.sccs_base.specs.Name.{IsSFileName, p_file, q_file, x_file}
use Rattle.sccs_sid.specs.declared.moments.Stamp.{Stamp}
use Rattle.sccs_sid.specs.declared.refusals.StepFault.{StepFault}
use Rattle.sccs_sid.specs.declared.refusals.StepFault.TheVariants.{Refused, Memory, ReadFault, WriteFault, DiskFault}
use Rattle.sccs_disk.specs.Files.{Content, Model, View, view_of}
use Rattle.sccs_disk.specs.Images.{Allows, Image, IsFirm}
use Rattle.sccs_disk.specs.Told.{Shows, Told, Tells, seen}
use Rattle.sccs_name_files.specs.StepFiles.{Files, moved}
use Rattle.sccs_name_files.specs.Touches.{Each, Leaves, Touches, Touching, TouchesOnly, earlier, newest}
use Rattle.sccs_name_files.proofs.Touched.{earlier_more, newest_more}
use Rattle.sccs_intents.specs.Intents.{intent_file}
use Rattle.sccs_crash_points.specs.Calm.{IsCalm, KeepsPairs}
use Rattle.sccs_crash_points.specs.CrashPoints.{EndsAfter, EndsBefore, EndsWithin, Stays}
use Rattle.sccs_crash_points.specs.Recovery.{IsSettledPair, IsSound, RecoversAs, fated, newer, IsHeldAt}
use Rattle.sccs_crash_points.proofs.CalmDisks.{calm_firm}
use Rattle.sccs_crash_points.proofs.Joined.{numbered_now, numbered_zero, each_then, each_by}
use Rattle.sccs_crash_points.proofs.Recovering.{p_of, pair_same, recovers_then, s_of, pair}
use Rattle.sccs_crash_points.proofs.Untouched.{calm_stayed, guards_touched}
use Rattle.sccs_steps.specs.ListStops.{KeepsSafe}
use Rattle.sccs_steps.specs.StepStops.{IsSafe}
use Rattle.sccs_steps.proofs.Carried.{moved_others, others_look}
use Rattle.sccs_steps.proofs.SafeImages.{numbered_each}
use Rattle.sccs_steps.proofs.Safety.{keeps_same, keeps_then, placed_safe, same_safe}
use Rattle.sccs_disk.proofs.Puts.{name_cases}
use Rattle.sccs_group.proofs.Calling.{none_left}
use Rattle.sccs_steps.specs.StepLists.{NamedStep, all_moved, moves_of}
use Rattle.sccs_store.specs.Commits.{Needs, chosen, files_after, replaced}
use Rattle.sccs_store.specs.Stops.{OnReplace}
use Rattle.sccs_store.specs.declared.new_files.NewFile.{NewFile}
use Rattle.sccs_store.specs.declared.new_files.NewFile.TheVariants.{Keep, Replace, Remove}
use Rattle.sccs_changes.specs.Changes.{IsReady, plan_of}
use Rattle.sccs_changes.specs.Ends.{Reports}
use Rattle.sccs_changes.specs.Stops.{IsFirmPrepared}
use Rattle.sccs_changes.specs.declared.prepared.Prepared.{Prepared}
use Rattle.sccs_steps.specs.Calls.{World}
use Rattle.sccs_changes.specs.NewEntries.{IsRenewed}
use Rattle.sccs_delta.specs.Writing.{IsDeltaPlan}
use Rattle.sccs_group.specs.Changes.{Change, IsPrepared, after_changes, members_in}
use Rattle.sccs_group.specs.Finishing.{IsHeld}
use Rattle.sccs_group.specs.Grouping.{CanGroup, CanPlace, CanPlaceAll, GroupEnds, GroupStops, OnReplaced, StayHeld}
use Rattle.sccs_group.specs.Grouping.{announced, new_pair_of}
use Rattle.sccs_group.specs.Members.{IsWritten}
use Rattle.sccs_group.specs.declared.members.Member.{Member}
use Rattle.sccs_group.proofs.Committing.{is_plan, plan_recovers}
use Rattle.sccs_group.proofs.Groups.{before_then, group_after, group_within, members_written, moved_intent}
use Rattle.sccs_group.proofs.Groups.{views_recover}
use Rattle.sccs_group_command.specs.declared.entries.GroupEntry.{GroupEntry}
use Rattle.sccs_group_command.specs.GroupStep.{entry_steps, group_step, names_of}
use Rattle.sccs_group_command.specs.Making.{CommitCrashPoints, GroupCrashPoints, HoldsFrom, HoldsNames, StopsAt}
use Rattle.sccs_group_command.specs.Making.{fate_of, member_of}
use Rattle.sccs_group_command.specs.Preparing.{AreFirm, AreGrouped, AreMade, ArePlain, Between, GivesAllBack}
use Rattle.sccs_group_command.specs.Preparing.{IsHeldEntry, IsNamed, IsPlainName, LosesNothing, LosesOfSound}
use Rattle.sccs_group_command.specs.Preparing.{PreparesAll, files_in, made_names}
use Rattle.sccs_group_command.specs.declared.prepared_entries.NamedFault.{NamedFault}
use Rattle.sccs_group_command.specs.declared.prepared_entries.PreparedEntry.{PreparedEntry}
use Rattle.sccs_group_command.proofs.Completed.{moves_in}
use Rattle.sccs_group_command.proofs.GroupEnds.{joint_is, of_group}
use Rattle.sccs_group_command.proofs.GroupNames.{can_commit, may_commit}
use Rattle.sccs_group_command.proofs.Losing.{IsFreeAt, all_sound_at, held_sound, keeps_at, one_model}
use Rattle.sccs_group_command.proofs.SoFars.{AreHeld, held_sfiles}
use Rattle.sccs_crash_points.proofs.FileNames.{plan_and_sfile}

-- ---- the plan alone is touched

plan_keeps : (m m2 : Model) → IsCalm m → Touches is_plan m m2 → Allows (KeepsPairs (view_of m)) m2
plan_keeps m m2 calm touches = λ w image.
    let x : (u : View) × Image m u × ((k : List ℕ) → is_plan k ≡ false → u k ≡ w k) = touches.images w image in
    let keeps : KeepsPairs (view_of m) x.0 = calm x.0 x.1 in
    record {
      intent = sym (x.2 intent_file refl) ∙ keeps.intent;
      pairs = λ k sfile. pair_same _ _ _ _ (sym (x.2 k (plan_and_sfile k sfile)) ∙ ap s_of (keeps.pairs k sfile))
          (sym (x.2 (p_file k) refl) ∙ ap p_of (keeps.pairs k sfile));
      recovers = recovers_then (view_of m) x.0 w keeps.recovers (plan_recovers x.0 w x.2);
    }

abbrev plan_stays : (m : Model) (past : List Model) (b : Told) → IsCalm m → Touching is_plan m past b
    → Stays (view_of m) m past b
plan_stays m past b calm run = record {
  added = run.added;
  is = run.is;
  numbers = numbered_zero (Touches is_plan m) (λ i m2. Allows (KeepsPairs (view_of m)) m2) run.added m
      (λ m2 touches. plan_keeps m m2 calm touches) run.each;
  guarded = guards_touched is_plan m run.added (λ k sfile. plan_and_sfile k sfile) (λ k sfile. refl) run.each;
}

plan_before : (a b : Told) (m : Model) (past : List Model) → a ≡ Tells m past → IsCalm m → TouchesOnly is_plan a b
    → EndsBefore (view_of m) m past b
plan_before a b m past is calm touches = let stays = plan_stays m past b calm (touches m past is) in
    (stays, calm_stayed (view_of m) m past b stays)

-- ---- committing and reporting

pub plan_loses : (names : List (List ℕ)) (a b d : Told) → AllByRecursion IsNamed names → TouchesOnly is_plan a b
    → LosesOfSound names b d → LosesOfSound names a d
plan_loses names a b d named touches back = λ m past is calm sound.
    let ends : EndsBefore (view_of m) m past b = plan_before a b m past is calm touches in
    before_then b d m past ends (λ m1 past1 is1 calm1. back m1 past1 is1 calm1
    (all_sound_at names (view_of m) m m1 past past1 b (sfiles names named) ends is1 sound))
  where
    sfiles : (ns : List (List ℕ)) → AllByRecursion IsNamed ns → AllByRecursion IsSFileName ns
    sfiles [] all = tt
    sfiles (n ∷ ns) all = (all.0.1, sfiles ns all.1)

-- memory was wanting
pub memory_crash_points : (r : StepFault) (names : List (List ℕ)) (made : List PreparedEntry) (o o2 : Option View)
    (a b : Told) → GivesAllBack r Memory names o o2 → LosesOfSound (made_names made) a b
    → CommitCrashPoints (Err r) made a b
memory_crash_points r names made o o2 a b (inl back) loses =
    subst (λ (f : StepFault). CommitCrashPoints (Err f) made a b) (sym back.0) loses
memory_crash_points r names made o o2 a b (inr broken) loses =
    subst (λ (f : StepFault). CommitCrashPoints (Err f) made a b) (sym broken.0) (inr loses)

pub ends_by : (made : List PreparedEntry) (ms : List Member) (a b : Told) → ms ≡ map member_of made → GroupEnds ms a b
    → GroupEnds (map member_of made) a b
ends_by made ms a b is ends = subst (λ (l : List Member). GroupEnds l a b) is ends

pub stops_by : (made : List PreparedEntry) (ms : List Member) (a b : Told) → ms ≡ map member_of made → GroupStops ms a b
    → CommitCrashPoints (Err DiskFault) made a b
stops_by made ms a b is stops = inl (subst (λ (l : List Member). GroupStops l a b) is stops)

pub reported_crash_points : (r : Result (Unit {0}) StepFault) (said : Prepared) (made : List PreparedEntry)
    (w w2 : World) (a b : Told) → Reports r said w w2 → GroupEnds (map member_of made) a b
    → CommitCrashPoints r made a b
reported_crash_points (Ok done) said made w w2 a b reports ends = ends
reported_crash_points (Err WriteFault) said made w w2 a b reports ends = ends
reported_crash_points (Err (Refused refusal)) said made w w2 a b reports ends = absurd reports
reported_crash_points (Err Memory) said made w w2 a b reports ends = absurd reports
reported_crash_points (Err ReadFault) said made w w2 a b reports ends = absurd reports
reported_crash_points (Err DiskFault) said made w w2 a b reports ends = absurd reports

-- ---- a prepared entry as a member

newer_there : (new old : Option Content) → IsSome new → newer new old ≡ new
newer_there None old there = absurd (cc)
newer_there (Some c) old there = refl

s_chosen : (new : Bool) (n : List ℕ) (v : View) → new ≡ true → Needs (replaced new) (x_file n) n (Shows v)
    → newer (v (x_file n)) (v n) ≡ chosen (replaced new) (v (x_file n)) (v n)
s_chosen true n v is needs = newer_there (v (x_file n)) (v n) needs
s_chosen false n v is needs = absurd (cc)

p_chosen : (new : NewFile) (n : List ℕ) (v : View) → IsRenewed new → Needs new (q_file n) (p_file n) (Shows v)
    → fated (fate_of new) (v (q_file n)) (v (p_file n)) ≡ chosen new (v (q_file n)) (v (p_file n))
p_chosen Keep n v renewed needs = absurd renewed
p_chosen Replace n v renewed needs = newer_there (v (q_file n)) (v (p_file n)) needs
p_chosen Remove n v renewed needs = refl

pair_is : (x : PreparedEntry) (v : View) → IsDeltaPlan x.prepared → IsReady x.name x.prepared (Shows v)
    → new_pair_of (member_of x) v ≡ pair (files_after x.name (plan_of x.prepared) v).s
    (files_after x.name (plan_of x.prepared) v).p
pair_is x v kind ready =
    ap (λ (o : Option Content). pair o (fated (fate_of x.prepared.new_p) (v (q_file x.name)) (v (p_file x.name))))
    (s_chosen x.prepared.new_s x.name v kind.s ready.s)
    ∙ ap (λ (o : Option Content). pair (chosen (plan_of x.prepared).s (v (x_file x.name)) (v x.name)) o)
    (p_chosen x.prepared.new_p x.name v kind.renewed ready.p_state)

s_firm : (new : Bool) (P : Type 0) → new ≡ true → OnReplace (replaced new) P → P
s_firm true P is firm = firm
s_firm false P is firm = absurd (cc)

p_firm : (new : NewFile) (P Q : Type 0) → IsRenewed new → (P → Q) → OnReplace new P → OnReplaced (fate_of new) Q
p_firm Keep P Q renewed by firm = absurd renewed
p_firm Replace P Q renewed by firm = by firm
p_firm Remove P Q renewed by firm = tt

can_place : (x : PreparedEntry) (u : View) (a b : Told) (m m1 : Model) (past past1 : List Model) → a ≡ Tells m past
    → b ≡ Tells m1 past1 → IsHeldEntry u (view_of m1) x.name x.prepared → IsPlainName x.name → IsSound x.name u
    → IsFirmPrepared x.name x.prepared a b
    → CanPlace m1 (member_of x)
can_place x u a b m m1 past past1 is is1 held plain sound firm = record {
  x_state = s_firm x.prepared.new_s (Leaves (IsFirm (x_file x.name)) a b) held.kind.s firm.x_state m past is m1 past1
      is1;
  q_state = p_firm x.prepared.new_p (Leaves (IsFirm (q_file x.name)) a b) (IsFirm (q_file x.name) m1) held.kind.renewed
      (λ leaves. leaves m past is m1 past1 is1) firm.q_state;
  held = held.ready.z;
  plain = λ removes. plain.kept;
  settled = subst IsSettledPair (sym (pair_is x (view_of m1) held.kind held.ready)) (held.settles sound).sound;
}

abbrev AreSound : View → List PreparedEntry → Type 0
AreSound u made = AllByRecursion (λ (k : List ℕ). IsSound k u) (made_names made)

all_place : (made : List PreparedEntry) (u : View) (a b : Told) (m m1 : Model) (past past1 : List Model)
    → a ≡ Tells m past → b ≡ Tells m1 past1 → AreHeld u (view_of m1) made → ArePlain (made_names made) → AreSound u made
    → AreFirm made a b
    → CanPlaceAll (map member_of made) m1
all_place [] u a b m m1 past past1 is is1 held plain sound firm = tt
all_place (x ∷ made) u a b m m1 past past1 is is1 held plain sound firm = (
  can_place x u a b m m1 past past1 is is1 held.0 plain.0 sound.0 firm.0,
  all_place made u a b m m1 past past1 is is1
      held.1 plain.1 sound.1 firm.1,
)

-- what the steps make of their files
abbrev pub changes_in : View → View → List PreparedEntry → List Change
changes_in v t [] = []
changes_in v t (x ∷ made) = record { member = member_of x; files = files_in v t x } ∷ changes_in v
    (moved t x.name (Some (files_in v t x))) made

all_changes : (made : List PreparedEntry) (u v t : View) → AreHeld u v made → ArePlain (made_names made)
    → AreSound u made → AllByRecursion (IsPrepared v) (changes_in v t made)
all_changes [] u v t held plain sound = tt
all_changes (x ∷ made) u v t held plain sound = (
  record {
    sfile = held.0.sfile;
    plain = plain.0.kept;
    pair = pair_is x v held.0.kind held.0.ready;
    settled =
        (held.0.settles sound.0).sound;
  },
  all_changes made u v (moved t x.name (Some (files_in v t x))) held.1 plain.1
      sound.1,
)

members_are : (made : List PreparedEntry) (v t : View) → members_in (changes_in v t made) ≡ map member_of made
members_are [] v t = refl
members_are (x ∷ made) v t = ap (λ (ms : List Member). member_of x ∷ ms)
    (members_are made v (moved t x.name (Some (files_in v t x))))

after_is : (made : List PreparedEntry) (v w : View) → after_changes (changes_in v w made) w ≡ all_moved w
    (moves_in v w made)
after_is [] v w = refl
after_is (x ∷ made) v w = after_is made v (moved w x.name (Some (files_in v w x)))

-- ---- names stay safe

not_none : (o : Option Content) → IsSome o → o ≡ None → ⊥
not_none None there none = absurd (cc)
not_none (Some c) there none = cc

s_there : (new : Bool) (n : List ℕ) (v : View) → new ≡ true → Needs (replaced new) (x_file n) n (Shows v)
    → chosen (replaced new) (v (x_file n)) (v n) ≡ None → ⊥
s_there true n v is needs none = not_none (v (x_file n)) needs none
s_there false n v is needs none = cc

-- new files of one name
keeps_one : (x : PreparedEntry) (u v w : View) → IsHeldEntry u v x.name x.prepared → IsPlainName x.name
    → IsSound x.name u → w intent_file ≡ None → KeepsSafe w (moved w x.name (Some (files_in v w x)))
keeps_one x u v w held plain sound none = λ k sfile safe.
    ⊎_elim (λ e. subst (λ l. IsSafe l after) e own) (λ apart. same_safe k w after sfile
    (others_look x.name k w after held.sfile sfile plain.kept apart (moved_others x.name w new)) safe)
    (name_cases x.name k)
  where
    new : Option Files
    new = Some (files_in v w x)

    after : View
    after = moved w x.name new

    own : IsSafe x.name after
    own = placed_safe x.name w (files_in v w x) held.sfile plain.kept (none_left w x.name none)
        (held.settles sound).sound (λ gone. absurd (s_there x.prepared.new_s x.name v held.kind.s held.ready.s gone))

keeps_all : (made : List PreparedEntry) (u v w : View) → AreHeld u v made → ArePlain (made_names made) → AreSound u made
    → w intent_file ≡ None → KeepsSafe w (all_moved w (moves_in v w made))
keeps_all [] u v w held plain sound none = keeps_same w
keeps_all (x ∷ made) u v w held plain sound none =
    let f : Files = files_in v w x in
    keeps_then w (moved w x.name (Some f)) (all_moved (moved w x.name (Some f))
    (moves_in v (moved w x.name (Some f)) made)) (keeps_one x u v w held.0 plain.0 sound.0 none)
    (keeps_all made u v (moved w x.name (Some f)) held.1 plain.1 sound.1
    (moved_intent x.name f w held.0.sfile plain.0.kept ∙ none))

-- ---- names of an intent stay held

-- no intent is there
none_held : (n : List ℕ) (v : View) → v intent_file ≡ None → IsHeldAt n v
none_held n v none = λ named. absurd (let e : false ≡ true = sym (ap is_some (none_left v n none)) ∙ named in cc)

before_each : (m : Model) (past : List Model) (d : Told) → view_of m intent_file ≡ None
    → (ends : EndsBefore (view_of m) m past d) → Each (Allows (HoldsFrom m)) ends.0.added m
before_each m past d none ends =
    numbered_each (λ i w. KeepsPairs (view_of m) w) (HoldsFrom m) 0 ends.0.added m 0 (λ i w keeps n sfile all.
    none_held n w (keeps.intent ∙ none)) ends.0.numbers

holds_before : (m : Model) (past : List Model) (d : Told) → view_of m intent_file ≡ None
    → EndsBefore (view_of m) m past d → HoldsNames m past d
holds_before m past d none ends = record { added = ends.0.added; is = ends.0.is; each = before_each m past d none ends }

holds_behind : (m : Model) (past : List Model) (d : Told) (added later : List Model)
    → d ≡ Tells (newest later (newest added m)) (earlier later (newest added m) (earlier added m past))
    → Each (Allows (HoldsFrom m)) added m → Each (Allows IsHeld) later (newest added m)
    → HoldsNames m past d
holds_behind m past d added later is first next = record {
  added = later ++ added;
  is =
      is
      ∙ (ap (λ (x : Model). Tells x (earlier later (newest added m) (earlier added m past)))
      (sym (newest_more later added m)) ∙ ap (λ (x : List Model). Tells (newest (later ++ added) m) x)
      (sym (earlier_more later added m past)));
  each = each_then (Allows (HoldsFrom m)) later added m first (each_by (Allows IsHeld) (Allows (HoldsFrom m)) later
      (newest added m) (λ m2 held u image n sfile all. held u image n sfile) next);
}

-- so it is from a calm disk on, where names are sound
abbrev pub HoldsBy : List (List ℕ) → Told → Told → Type 0
HoldsBy names a d = (m : Model) (past : List Model) → a ≡ Tells m past → IsCalm m → IsFreeAt (view_of m) names
    → HoldsNames m past d

pub same_holds : (a d : Told) (names : List (List ℕ)) → d ≡ a → HoldsBy names a d
same_holds a d names same = λ m past is calm free.
    record { added = []; is = same ∙ is; each = λ u image n sfile all. all u image }

pub before_holds : (a d : Told) (names : List (List ℕ)) → IfSome (seen a) (λ (v : View). v intent_file ≡ None)
    → LosesNothing names a d → HoldsBy names a d
before_holds a d names none loses = λ m past is calm free. holds_before m past d
    (subst (λ (t : Told). IfSome (seen t) (λ (v : View). v intent_file ≡ None)) is none) (loses m past is calm free)

-- ---- all entries are prepared

pub record ArePreparedAll (stamp : Stamp) (entries : List GroupEntry) (made : List PreparedEntry) (a b : Told) : Type 0
  where
    pub grouped : AreGrouped entries
    pub plain : ArePlain (names_of entries)
    pub none : IfSome (seen a) (λ (v : View). v intent_file ≡ None)
    pub told : Between (λ u v. PreparesAll (Ok made) (names_of entries) (entry_steps stamp u entries) u v) (seen a)
        (seen b)
    pub made_are : AreMade made (names_of entries) a b
    pub before : LosesNothing (names_of entries) a b

module _ (stamp : Stamp) (entries : List GroupEntry) (made : List PreparedEntry) (a b : Told)
    (x : ArePreparedAll stamp entries made a b) (m : Model) (past : List Model) (is : a ≡ Tells m past)
    (calm : IsCalm m) (free : IsFreeAt (view_of m) (names_of entries)) where
  ends : EndsBefore (view_of m) m past b
  ends = x.before m past is calm free

  prepared_at : (m1 : Model) (past1 : List Model) → b ≡ Tells m1 past1 → PreparesAll (Ok made) (names_of entries)
      (entry_steps stamp (view_of m) entries) (view_of m) (view_of m1)
  prepared_at m1 past1 is1 =
      subst (λ (t : Told). Between (λ u v. PreparesAll (Ok made) (names_of entries) (entry_steps stamp u entries) u v)
      (Some (view_of m)) (seen t)) is1
      (subst (λ (t : Told). Between (λ u v. PreparesAll (Ok made) (names_of entries) (entry_steps stamp u entries) u v)
      (seen t) (seen b)) is x.told)

  sounds : AreSound (view_of m) made
  sounds =
      held_sound made (view_of m) (view_of (newest ends.0.added m)) (prepared_at (newest ends.0.added m)
      (earlier ends.0.added m past) ends.0.is).1.held
      (subst (λ (ns : List (List ℕ)). IsFreeAt (view_of m) ns) (sym x.made_are.names_are) free)

  plains : ArePlain (made_names made)
  plains = subst ArePlain (sym x.made_are.names_are) x.plain

  none_at : view_of m intent_file ≡ None
  none_at = subst (λ (t : Told). IfSome (seen t) (λ (v : View). v intent_file ≡ None)) is x.none

  keeps : (m1 : Model) (past1 : List Model) → b ≡ Tells m1 past1 → KeepsPairs (view_of m) (view_of m1)
  keeps m1 past1 is1 = keeps_at (view_of m) m m1 past past1 b ends is1

  can : Leaves (CanGroup (map member_of made)) a b
  can = λ m0 past0 is0 m1 past1 is1. record {
    firm = calm_firm m1 (subst IsCalm (one_model b (newest ends.0.added m) m1 (earlier ends.0.added m past) past1
        ends.0.is is1) ends.1);
    none = (keeps m1 past1 is1).intent ∙ none_at;
    each = all_place made (view_of m) a b m m1 past past1 is is1 (prepared_at m1 past1 is1).1.held plains sounds
        x.made_are.firm;
  }

  written : IsWritten (map member_of made)
  written =
      let may = may_commit entries made x.grouped.different x.grouped.some x.grouped.few x.made_are.names_are
      x.made_are.named in
      let can_be = can_commit made (map member_of made) refl may in
      members_written (map member_of made) can_be.1 can_be.2 can_be.0

  recovers : (m1 : Model) (past1 : List Model) → b ≡ Tells m1 past1
      → RecoversAs (all_moved (view_of m) (moves_of (group_step stamp (view_of m) entries)))
      (announced (map member_of made) (view_of m1))
  recovers m1 past1 is1 =
      let v1 : View = view_of m1 in
      let all = prepared_at m1 past1 is1 in
      let same : members_in (changes_in v1 (view_of m) made) ≡ map member_of made = members_are made v1 (view_of m) in
      let moved_so : after_changes (changes_in v1 (view_of m) made) (view_of m) ≡ all_moved (view_of m)
      (moves_of (group_step stamp (view_of m) entries)) =
      after_is made v1 (view_of m) ∙ ap (λ (t : NamedStep). all_moved (view_of m) (moves_of t))
      (joint_is stamp entries made (view_of m) v1 none_at all.0) in
      subst (λ (w : View). RecoversAs w (announced (map member_of made) v1)) moved_so
      (subst (λ (ms : List Member). RecoversAs (after_changes (changes_in v1 (view_of m) made) (view_of m))
      (announced ms v1)) same
      (views_recover (changes_in v1 (view_of m) made) (view_of m) v1 (subst IsWritten (sym same) written) none_at
      ((keeps m1 past1 is1).intent ∙ none_at) (keeps m1 past1 is1).recovers (all_changes made (view_of m) v1
      (view_of m) all.1.held plains sounds)))

  names_kept : KeepsSafe (view_of m) (all_moved (view_of m) (moves_of (group_step stamp (view_of m) entries)))
  names_kept =
      let mid : Model = newest ends.0.added m in
      let all = prepared_at mid (earlier ends.0.added m past) ends.0.is in
      subst (λ (t : NamedStep). KeepsSafe (view_of m) (all_moved (view_of m) (moves_of t))) (joint_is stamp entries made
      (view_of m) (view_of mid) none_at all.0)
      (keeps_all made (view_of m) (view_of mid) (view_of m) all.1.held plains sounds none_at)

  after_group : (d : Told) → GroupEnds (map member_of made) b d
      → EndsAfter (view_of m) (all_moved (view_of m) (moves_of (group_step stamp (view_of m) entries))) m past d
  after_group d commit = group_after (map member_of made) a b d m past
      (all_moved (view_of m) (moves_of (group_step stamp (view_of m) entries))) is ends can recovers commit

  within_group : (d : Told) → GroupStops (map member_of made) b d
      → EndsWithin (view_of m) (all_moved (view_of m) (moves_of (group_step stamp (view_of m) entries))) m past d
  within_group d commit = group_within (map member_of made) a b d m past
      (all_moved (view_of m) (moves_of (group_step stamp (view_of m) entries))) is ends can recovers commit

  before_group : (d : Told) → LosesOfSound (made_names made) b d → EndsBefore (view_of m) m past d
  before_group d back =
      before_then b d m past ends
      (λ m1 past1 is1 calm1. back m1 past1 is1 calm1 (all_sound_at (made_names made) (view_of m) m m1 past past1 b
      (held_sfiles (view_of m) (view_of m1) made (prepared_at m1 past1 is1).1.held) ends is1 sounds))

  -- before the commit no intent is there
  held_before : Allows IsHeld (newest ends.0.added m)
  held_before = λ w image n sfile. none_held n w
      ((numbered_now (λ i m2. Allows (KeepsPairs (view_of m)) m2) 0 ends.0.added m 0 ends.0.numbers w image).intent
      ∙ none_at)

  holds_commit : (d : Told) (later : List Model) → d ≡ Tells (newest later (newest ends.0.added m))
      (earlier later (newest ends.0.added m) (earlier ends.0.added m past)) → StayHeld later (newest ends.0.added m)
      → HoldsNames m past d
  holds_commit d later at stay = holds_behind m past d ends.0.added later at (before_each m past b none_at ends)
      (stay held_before)

  holds_after : (d : Told) → GroupEnds (map member_of made) b d → HoldsNames m past d
  holds_after d commit =
      let later = commit (newest ends.0.added m) (earlier ends.0.added m past) ends.0.is
      (can m past is (newest ends.0.added m) (earlier ends.0.added m past) ends.0.is) in
      holds_commit d later.0.added later.0.is later.2

  holds_within : (d : Told) → GroupStops (map member_of made) b d → HoldsNames m past d
  holds_within d commit =
      let later = commit (newest ends.0.added m) (earlier ends.0.added m past) ends.0.is
      (can m past is (newest ends.0.added m) (earlier ends.0.added m past) ends.0.is) in
      holds_commit d later.0.added later.0.is later.2

  at_fault : (fault : StepFault) (d : Told) → CommitCrashPoints (Err fault) made b d
      → StopsAt fault (view_of m) (all_moved (view_of m) (moves_of (group_step stamp (view_of m) entries))) m past d
      × HoldsNames m past d
  at_fault (Refused refusal) d commit = absurd commit
  at_fault Memory d commit = (before_group d commit, holds_before m past d none_at (before_group d commit))
  at_fault ReadFault d commit = absurd commit
  at_fault WriteFault d commit = ((after_group d commit, names_kept), holds_after d commit)
  at_fault DiskFault d (inl stops) = (inl (within_group d stops, names_kept), holds_within d stops)
  at_fault DiskFault d (inr back) = (inr (before_group d back), holds_before m past d none_at (before_group d back))

-- committed and reported
pub done_crash_points : (stamp : Stamp) (entries : List GroupEntry) (made : List PreparedEntry) (a b d : Told)
    (done : Unit {0}) → ArePreparedAll stamp entries made a b → CommitCrashPoints (Ok done) made b d
    → GroupCrashPoints (Ok done) (names_of entries) (of_group stamp entries) a d
done_crash_points stamp entries made a b d done x commit = λ m past is calm free. (
  (
    after_group stamp entries made a b x m past is calm free d commit,
    names_kept stamp entries made a b x m past is
        calm free,
  ),
  holds_after stamp entries made a b x m past is calm free d commit,
)

-- the commit failed, or its report was cut
pub failed_crash_points : (stamp : Stamp) (entries : List GroupEntry) (made : List PreparedEntry) (a b d : Told)
    (n : List ℕ) (fault : StepFault) → ArePreparedAll stamp entries made a b → CommitCrashPoints (Err fault) made b d
    → GroupCrashPoints (Err (record { name = n; fault = fault })) (names_of entries) (of_group stamp entries) a d
failed_crash_points stamp entries made a b d n fault x commit = λ m past is calm free. at_fault stamp entries made a b x
    m past is calm free fault d commit

-- ---- nothing was committed

stopped_at : (fault : StepFault) (v w : View) (m : Model) (past : List Model) (d : Told) → fault ≢ WriteFault
    → EndsBefore v m past d → StopsAt fault v w m past d
stopped_at (Refused refusal) v w m past d write loses = loses
stopped_at Memory v w m past d write loses = loses
stopped_at ReadFault v w m past d write loses = loses
stopped_at WriteFault v w m past d write loses = absurd (write refl)
stopped_at DiskFault v w m past d write loses = inr loses

pub stopped_crash_points : (stop : NamedFault) (names : List (List ℕ)) (step : View → NamedStep) (a d : Told)
    → stop.fault ≢ WriteFault → HoldsBy names a d → LosesNothing names a d → GroupCrashPoints (Err stop) names step a d
stopped_crash_points stop names step a d write holds loses = λ m past is calm free. (
  stopped_at stop.fault (view_of m) (all_moved (view_of m) (moves_of (step (view_of m)))) m past d write
      (loses m past is calm free),
  holds m past is calm free,
)
