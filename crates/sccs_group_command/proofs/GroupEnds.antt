-- How a group ends.
use Rattle.std.proofs.Common.{◌≡◌, ◌≢◌, ◌⊎◌, ◌++◌, ℕ, suc, Bool, true, false, cond, List, [], ◌∷◌, codes, length, map}
use Rattle.std.proofs.Common.{Option, None, Some, IfSome, IsSome, Result, Ok, Err, inl, inr, refl, sym, ap, subst, ◌∙◌}
use Rattle.std.specs.Prelude.{is_some, nat_lt}
use Rattle.std.specs.Str.{bytes_eq}
use Rattle.sccs_base.specs.Stream.{GivesOk, GivesSome}
use Rattle.sccs_sid.specs.declared.moments.Stamp.{Stamp}
use Rattle.sccs_sid.specs.declared.refusals.Refusal.{Refusal}
use Rattle.sccs_sid.specs.declared.refusals.Refusal.TheVariants.{GroupPending}
use Rattle.sccs_sid.specs.declared.refusals.StepFault.{StepFault}
use Rattle.sccs_sid.specs.declared.refusals.StepFault.TheVariants.{Refused, Memory, ReadFault, WriteFault, DiskFault}
use Rattle.sccs_disk.specs.Files.{Content, View}
use Rattle.sccs_name_files.specs.StepFiles.{Alike, moved}
use Rattle.sccs_intents.specs.Intents.{intent_file, plan_file}
use Rattle.sccs_crash_points.specs.Recovery.{without_name}
use Rattle.sccs_disk.proofs.Puts.{name_cases, put_other, put_same}
use Rattle.sccs_steps.specs.Calls.{world}
use Rattle.sccs_steps.specs.StepLists.{NamedStep, err_of}
use Rattle.sccs_store.specs.Commits.{Becomes}
use Rattle.sccs_store.proofs.Working.{becomes_both}
use Rattle.sccs_changes.specs.Ends.{Reports}
use Rattle.sccs_changes.specs.declared.prepared.Prepared.{Prepared}
use Rattle.sccs_group.specs.Grouping.{announced}
use Rattle.sccs_group.specs.Members.{completed}
use Rattle.sccs_group.specs.declared.members.Member.{Member}
use Rattle.sccs_group_command.specs.declared.entries.GroupEntry.{GroupEntry}
use Rattle.sccs_group_command.specs.GroupStep.{entry_steps, group_step, headed, joined, joint_step, names_of}
use Rattle.sccs_group_command.specs.GroupStep.{refused_step, reports_of}
use Rattle.sccs_group_command.specs.Making.{ChecksNone, CommitsJoint, Finishes, IsCut, IsHalfMade, IsMade, IsSaid}
use Rattle.sccs_group_command.specs.Making.{MadeMeets, MeetsGroup, PlacesSome, StopMeets, all_made, is_group_working}
use Rattle.sccs_group_command.specs.Making.{member_of, messages_in, reports_in, several}
use Rattle.sccs_group_command.specs.Preparing.{AreAllPrepared, AreDifferent, ArePlain, Between, GivesAllBack, GivesUpAt}
use Rattle.sccs_group_command.specs.Preparing.{IsGivenBack, PreparesAll, all_abandoned, is_any_left, is_any_working}
use Rattle.sccs_group_command.specs.Preparing.{files_in, made_names, sfiles_of, steps_in}
use Rattle.sccs_group_command.specs.declared.prepared_entries.PreparedEntry.{PreparedEntry}
use Rattle.sccs_group_command.proofs.Backs.{all_gone, all_kept, z_free}
use Rattle.sccs_group_command.proofs.Cleared.{made_clears}
use Rattle.sccs_group_command.proofs.Completed.{completed_at, some_is}
use Rattle.sccs_group_command.proofs.EntryEnds.{same_back}
use Rattle.sccs_group_command.proofs.Halves.{broke_behind, broke_early, half_made, none_made}
use Rattle.sccs_base.proofs.Bools.{right_false, left_false}

-- ---- the commit

pub memory_committed : (r : StepFault) (names : List (List ℕ)) (ms : List Member) (a b c : Option View)
    → Becomes (without_name plan_file) a b → GivesAllBack r Memory names b c → CommitsJoint (Err r) names ms a c
memory_committed r names ms a b c gone (inl back) =
    subst (λ (f : StepFault). CommitsJoint (Err f) names ms a c) (sym back.0) (becomes_both (without_name plan_file)
    (all_abandoned names) a b c gone back.2)
memory_committed r names ms a b c gone (inr broken) = subst (λ (f : StepFault). CommitsJoint (Err f) names ms a c)
    (sym broken.0) (broke_behind names ms a b c gone broken.1)

pub nothing_joint : (r : StepFault) (made : List PreparedEntry) (a b : Option View) (out err : Option (List ℕ))
    → GivesAllBack r Memory (made_names made) a b → Finishes (Err r) made (world a out err) (world b out err)
nothing_joint r made a b out err (inl back) = subst (λ (f : StepFault). Finishes (Err f) made (world a out err)
    (world b out err)) (sym back.0) (inl back.2, (refl, refl))
nothing_joint r made a b out err (inr broken) = subst (λ (f : StepFault). Finishes (Err f) made (world a out err)
    (world b out err)) (sym broken.0) (broke_early (made_names made) (map member_of made) a b broken.1, (refl, refl))

pub cut_commit : (fault : StepFault) (made : List PreparedEntry) (ms : List Member) (a b : Option View)
    (out err : Option (List ℕ)) → ms ≡ map member_of made → CommitsJoint (Err fault) (made_names made) ms a b
    → Finishes (Err fault) made (world a out err) (world b out err)
cut_commit (Refused refusal) made ms a b out err are commits = absurd commits
cut_commit Memory made ms a b out err are commits = (inr commits, (refl, refl))
cut_commit ReadFault made ms a b out err are commits = absurd commits
cut_commit WriteFault made ms a b out err are commits = absurd commits
cut_commit DiskFault made ms a b out err are commits =
    (subst (λ (l : List Member). PlacesSome (made_names made) l a b) are commits, (refl, refl))

pub reported : (r : Result (Unit {0}) StepFault) (said : Prepared) (made : List PreparedEntry) (ms : List Member)
    (a b : Option View) (out out2 err err2 : Option (List ℕ)) → ms ≡ map member_of made → said.report ≡ reports_in
    (several made) made → said.message ≡ messages_in made
    → Becomes (λ v. completed ms (announced ms v)) a b → Reports r said (world b out err) (world b out2 err2)
    → Finishes r made (world a out err) (world b out2 err2)
reported (Ok done) said made ms a b out out2 err err2 are report message becomes reports = (
  subst (λ (l : List Member). Becomes (λ v. completed l (announced l v)) a b) are becomes,
  subst (λ (text : List ℕ).
      GivesOk out out2 text) report reports.out,
  subst (λ (text : List ℕ). GivesOk err err2 text) message reports.err,
)
reported (Err WriteFault) said made ms a b out out2 err err2 are report message becomes reports = (
  subst (λ (l : List Member). Becomes (λ v. completed l (announced l v)) a b) are becomes,
  subst (λ (text : List ℕ).
      GivesSome out out2 text) report reports.out,
  subst (λ (text : List ℕ). GivesSome err err2 text) message
      reports.err,
)
reported (Err (Refused refusal)) said made ms a b out out2 err err2 are report message becomes reports = absurd reports
reported (Err Memory) said made ms a b out out2 err err2 are report message becomes reports = absurd reports
reported (Err ReadFault) said made ms a b out out2 err err2 are report message becomes reports = absurd reports
reported (Err DiskFault) said made ms a b out out2 err err2 are report message becomes reports = absurd reports

-- ---- the step

-- the step of a group
abbrev pub of_group : Stamp → List GroupEntry → View → NamedStep
of_group stamp entries v = group_step stamp v entries

pending_step : (stamp : Stamp) (entries : List GroupEntry) (u : View) → IsSome (u intent_file)
    → group_step stamp u entries ≡ refused_step (names_of entries) (codes "-") GroupPending
pending_step stamp entries u there =
    ap (λ (b : Bool). cond b (refused_step (names_of entries) (codes "-") GroupPending) (joined (names_of entries)
    (entry_steps stamp u entries))) (some_is (u intent_file) there)

free_group : (stamp : Stamp) (entries : List GroupEntry) (u : View) → u intent_file ≡ None → group_step stamp u entries
    ≡ joined (names_of entries) (entry_steps stamp u entries)
free_group stamp entries u none =
    ap (λ (o : Option Content). cond (is_some o) (refused_step (names_of entries) (codes "-") GroupPending)
    (joined (names_of entries) (entry_steps stamp u entries))) none

refused_pending : (stamp : Stamp) (entries : List GroupEntry) (own : List (List ℕ)) (n : List ℕ) (refusal : Refusal)
    (o o2 : Option View) → n ≡ codes "-" → o2 ≡ o → IfSome o (λ (v : View). ChecksNone (Err (Refused refusal))
    (v intent_file))
    → Between (λ u v. (of_group stamp entries u ≡ refused_step (names_of entries) n refusal)
    × IsGivenBack (is_any_working own) u v) o o2
refused_pending stamp entries own n refusal None o2 name same checks = tt
refused_pending stamp entries own n refusal (Some u) o2 name same checks =
    subst (λ (o : Option View). Between (λ u v. (of_group stamp entries u ≡ refused_step (names_of entries) n refusal)
    × IsGivenBack (is_any_working own) u v) (Some u) o) (sym same) (
      pending_step stamp entries u checks.1 ∙ (ap (λ (r : Refusal). refused_step (names_of entries) (codes "-") r)
          (sym checks.0) ∙ ap (λ (m : List ℕ). refused_step (names_of entries) m refusal) (sym name)),
      same_back
          (is_any_working own) u,
    )

never_memory : (stamp : Stamp) (entries : List GroupEntry) (own : List (List ℕ)) (o o2 : Option View)
    → IfSome o (λ (v : View). ChecksNone (Err Memory) (v intent_file))
    → Between (λ u v. IsGivenBack (is_group_working own) u v) o o2
never_memory stamp entries own None o2 checks = tt
never_memory stamp entries own (Some u) o2 checks = absurd checks

-- the disk failed at the start
same_half : (stamp : Stamp) (entries : List GroupEntry) (own : List (List ℕ)) (o o2 : Option View) → o2 ≡ o
    → Between (λ u v. IsHalfMade own (of_group stamp entries u) u v) o o2
same_half stamp entries own None o2 same = tt
same_half stamp entries own (Some u) o2 same =
    subst (λ (o : Option View). Between (λ u v. IsHalfMade own (of_group stamp entries u) u v) (Some u) o) (sym same)
    (none_made own (of_group stamp entries u) u u (λ k h. refl))

-- a group is pending
pub pending_group : (stamp : Stamp) (entries : List GroupEntry) (own : List (List ℕ)) (n : List ℕ) (fault : StepFault)
    (o o2 : Option View) (out err : Option (List ℕ)) → n ≡ codes "-" → o2 ≡ o → fault ≢ ReadFault → fault ≢ WriteFault
    → IfSome o (λ (v : View). ChecksNone (Err fault) (v intent_file)) → StopMeets fault n (names_of entries) own
    (of_group stamp entries) (world o out err) (world o2 out err)
pending_group stamp entries own n (Refused refusal) o o2 out err name same read write checks =
    (refused_pending stamp entries own n refusal o o2 name same checks, (refl, refl))
pending_group stamp entries own n Memory o o2 out err name same read write checks =
    (never_memory stamp entries own o o2 checks, (refl, refl))
pending_group stamp entries own n ReadFault o o2 out err name same read write checks = absurd (read refl)
pending_group stamp entries own n WriteFault o o2 out err name same read write checks = absurd (write refl)
pending_group stamp entries own n DiskFault o o2 out err name same read write checks =
    (same_half stamp entries own o o2 same, (refl, refl))

-- ---- an entry ended the group

wider_back : (names : List (List ℕ)) (u v : View) → IsGivenBack (is_any_working names) u v
    → IsGivenBack (is_group_working names) u v
wider_back names u v back = record {
  view = λ k h. back.view k (left_false (is_any_working names k) _ h);
  cleared =
      λ k h. by k (is_any_working names k) refl;
}
  where
    by : (k : List ℕ) (b : Bool) → is_any_working names k ≡ b → (v k ≡ None) ⊎ (v k ≡ u k)
    by k true is = back.cleared k is
    by k false is = inr (back.view k is)

refused_entry : (stamp : Stamp) (entries : List GroupEntry) (own : List (List ℕ)) (n : List ℕ) (refusal : Refusal)
    (o o2 : Option View) → IfSome o (λ (v : View). v intent_file ≡ None)
    → Between (λ u v. GivesUpAt (Refused refusal) n own (entry_steps stamp u entries) u v) o o2
    → Between (λ u v. (of_group stamp entries u ≡ refused_step (names_of entries) n refusal)
    × IsGivenBack (is_any_working own) u v) o o2
refused_entry stamp entries own n refusal None o2 none ends = tt
refused_entry stamp entries own n refusal (Some u) None none ends = absurd ends
refused_entry stamp entries own n refusal (Some u) (Some v) none ends = (
  free_group stamp entries u none
      ∙ ap (joined (names_of entries)) ends.0,
  ends.1,
)

wanting_entry : (stamp : Stamp) (entries : List GroupEntry) (own : List (List ℕ)) (n : List ℕ) (o o2 : Option View)
    → Between (λ u v. GivesUpAt Memory n own (entry_steps stamp u entries) u v) o o2
    → Between (λ u v. IsGivenBack (is_group_working own) u v) o o2
wanting_entry stamp entries own n None o2 ends = tt
wanting_entry stamp entries own n (Some u) None ends = absurd ends
wanting_entry stamp entries own n (Some u) (Some v) ends = wider_back own u v ends

early_half : (stamp : Stamp) (entries : List GroupEntry) (own : List (List ℕ)) (n : List ℕ) (o o2 : Option View)
    → Between (λ u v. GivesUpAt DiskFault n own (entry_steps stamp u entries) u v) o o2
    → Between (λ u v. IsHalfMade own (of_group stamp entries u) u v) o o2
early_half stamp entries own n None o2 ends = tt
early_half stamp entries own n (Some u) None ends = absurd ends
early_half stamp entries own n (Some u) (Some v) ends = none_made own (of_group stamp entries u) u v ends

pub stopped_group : (stamp : Stamp) (entries : List GroupEntry) (own : List (List ℕ)) (n : List ℕ) (fault : StepFault)
    (o o2 : Option View) (out err : Option (List ℕ)) → fault ≢ ReadFault → fault ≢ WriteFault
    → IfSome o (λ (v : View). v intent_file ≡ None)
    → Between (λ u v. GivesUpAt fault n own (entry_steps stamp u entries) u v) o o2
    → StopMeets fault n (names_of entries) own (of_group stamp entries) (world o out err) (world o2 out err)
stopped_group stamp entries own n (Refused refusal) o o2 out err read write none ends =
    (refused_entry stamp entries own n refusal o o2 none ends, (refl, refl))
stopped_group stamp entries own n Memory o o2 out err read write none ends =
    (wanting_entry stamp entries own n o o2 ends, (refl, refl))
stopped_group stamp entries own n ReadFault o o2 out err read write none ends = absurd (read refl)
stopped_group stamp entries own n WriteFault o o2 out err read write none ends = absurd (write refl)
stopped_group stamp entries own n DiskFault o o2 out err read write none ends =
    (early_half stamp entries own n o o2 ends, (refl, refl))

-- ---- all are prepared

length_of : (v t : View) (made : List PreparedEntry) → length (steps_in v t made) ≡ length made
length_of v t [] = refl
length_of v t (x ∷ made) = ap suc (length_of v (moved t x.name (Some (files_in v t x))) made)

reports_are : (heading : Bool) (v t : View) (made : List PreparedEntry) → reports_of heading (steps_in v t made)
    ≡ reports_in heading made
reports_are heading v t [] = refl
reports_are heading v t (x ∷ made) = ap (λ (text : List ℕ). headed heading x.name x.prepared.report ++ text)
    (reports_are heading v (moved t x.name (Some (files_in v t x))) made)

messages_are : (v t : View) (made : List PreparedEntry) → err_of (steps_in v t made) ≡ messages_in made
messages_are v t [] = refl
messages_are v t (x ∷ made) = ap (λ (text : List ℕ). x.prepared.message ++ text)
    (messages_are v (moved t x.name (Some (files_in v t x))) made)

out_is : (v t : View) (made : List PreparedEntry) → (joint_step (steps_in v t made)).effect.out ≡ reports_in
    (several made) made
out_is v t made = ap (λ count. reports_of (nat_lt 1 count) (steps_in v t made)) (length_of v t made)
    ∙ reports_are (several made) v t made

-- the steps of all are the group's
pub joint_is : (stamp : Stamp) (entries : List GroupEntry) (made : List PreparedEntry) (u v : View)
    → u intent_file ≡ None → entry_steps stamp u entries ≡ Ok (steps_in v u made) → joint_step (steps_in v u made)
    ≡ of_group stamp entries u
joint_is stamp entries made u v none is = sym (free_group stamp entries u none ∙ ap (joined (names_of entries)) is)

is_made : (made : List PreparedEntry) (names : List (List ℕ)) (u v : View) → AreDifferent names → ArePlain names
    → AreAllPrepared u v names made → u intent_file ≡ None → IsMade names (joint_step (steps_in v u made)) u
    (all_made made v)
is_made made names u v different plain all none =
    subst (λ (ns : List (List ℕ)). IsMade ns (joint_step (steps_in v u made)) u (all_made made v)) all.names_are
    (record {
      view = λ k h. completed_at made u v (subst AreDifferent (sym all.names_are) different)
          (subst ArePlain (sym all.names_are) plain) all.held alike none k h;
      cleared = λ k h. made_clears made u v (subst AreDifferent (sym all.names_are) different)
          (subst ArePlain (sym all.names_are) plain) all.held alike k h;
    })
  where
    alike : Alike (is_any_left (made_names made)) v u
    alike = subst (λ (ns : List (List ℕ)). Alike (is_any_left ns) v u) (sym all.names_are) all.view

-- committed and reported
finished_by : (stamp : Stamp) (entries : List GroupEntry) (made : List PreparedEntry) (o o2 o3 : Option View)
    (out out2 err err2 : Option (List ℕ)) (done : Unit {0}) → AreDifferent (names_of entries)
    → ArePlain (names_of entries)
    → IfSome o (λ (v : View). v intent_file ≡ None) → Between (λ u v. PreparesAll (Ok made) (names_of entries)
    (entry_steps stamp u entries) u v) o o2 → Finishes (Ok done) made (world o2 out err) (world o3 out2 err2)
    → MadeMeets (names_of entries) (of_group stamp entries) (world o out err) (world o3 out2 err2)
finished_by stamp entries made None o2 o3 out out2 err err2 done different plain none all fin = tt
finished_by stamp entries made (Some u) None o3 out out2 err err2 done different plain none all fin = absurd all
finished_by stamp entries made (Some u) (Some v) o3 out out2 err err2 done different plain none all fin =
    subst (λ (o : Option View). MadeMeets (names_of entries) (of_group stamp entries) (world (Some u) out err)
    (world o out2 err2)) (sym fin.0)
    (subst (λ (t : NamedStep). (t.effect.status ≡ 0) × IsMade (names_of entries) t u (all_made made v) × IsSaid t.effect
    (world (Some u) out err) (world (Some (all_made made v)) out2 err2))
    (joint_is stamp entries made u v none all.0) (
      refl,
      is_made made (names_of entries) u v different plain all.1 none,
      record {
        out = subst (λ (text : List ℕ). GivesOk out out2 text) (sym (out_is v u made)) fin.1;
        err =
            subst (λ (text : List ℕ). GivesOk err err2 text) (sym (messages_are v u made)) fin.2;
      },
    ))

cut_group : (stamp : Stamp) (entries : List GroupEntry) (made : List PreparedEntry) (n : List ℕ) (o o2 o3 : Option View)
    (out out2 err err2 : Option (List ℕ)) → AreDifferent (names_of entries) → ArePlain (names_of entries)
    → IfSome o (λ (v : View). v intent_file ≡ None)
    → Between (λ u v. PreparesAll (Ok made) (names_of entries) (entry_steps stamp u entries) u v) o o2
    → Finishes (Err WriteFault) made (world o2 out err) (world o3 out2 err2)
    → StopMeets WriteFault n (names_of entries) (names_of entries) (of_group stamp entries) (world o out err)
    (world o3 out2 err2)
cut_group stamp entries made n None o2 o3 out out2 err err2 different plain none all fin = tt
cut_group stamp entries made n (Some u) None o3 out out2 err err2 different plain none all fin = absurd all
cut_group stamp entries made n (Some u) (Some v) o3 out out2 err err2 different plain none all fin =
    subst (λ (o : Option View). StopMeets WriteFault n (names_of entries) (names_of entries) (of_group stamp entries)
    (world (Some u) out err) (world o out2 err2)) (sym fin.0)
    (subst (λ (t : NamedStep). IsMade (names_of entries) t u (all_made made v) × IsCut t.effect (world (Some u) out err)
    (world (Some (all_made made v)) out2 err2)) (joint_is stamp entries made u v none all.0) (
      is_made made (names_of entries) u v different plain all.1 none,
      record {
        out = subst (λ (text : List ℕ). GivesSome out out2 text) (sym (out_is v u made)) fin.1;
        err =
            subst (λ (text : List ℕ). GivesSome err err2 text) (sym (messages_are v u made)) fin.2;
      },
    ))

-- the names are all those of s-files
pub finished_group : (stamp : Stamp) (entries : List GroupEntry) (made : List PreparedEntry) (o o2 o3 : Option View)
    (out out2 err err2 : Option (List ℕ)) (done : Unit {0}) → AreDifferent (names_of entries)
    → ArePlain (names_of entries) → sfiles_of (names_of entries) ≡ names_of entries
    → IfSome o (λ (v : View). v intent_file ≡ None) → Between (λ u v. PreparesAll (Ok made) (names_of entries)
    (entry_steps stamp u entries) u v) o o2 → Finishes (Ok done) made (world o2 out err) (world o3 out2 err2)
    → MeetsGroup (Ok done) (names_of entries) (of_group stamp entries) (world o out err) (world o3 out2 err2)
finished_group stamp entries made o o2 o3 out out2 err err2 done different plain sfiles none all fin =
    subst (λ (own : List (List ℕ)). MadeMeets own (of_group stamp entries) (world o out err) (world o3 out2 err2))
    (sym sfiles) (finished_by stamp entries made o o2 o3 out out2 err err2 done different plain none all fin)

-- all that was prepared is given up, and the plan may be gone
given_all_back : (made : List PreparedEntry) (names : List (List ℕ)) (u v w : View) → AreAllPrepared u v names made
    → ((k : List ℕ) → bytes_eq plan_file k ≡ false → w k ≡ v k) → (w plan_file ≡ None) ⊎ (w plan_file ≡ v plan_file)
    → IsGivenBack (is_group_working names) u (all_abandoned (made_names made) w)
given_all_back made names u v w all same plan =
    subst (λ (ns : List (List ℕ)). IsGivenBack (is_group_working ns) u (all_abandoned (made_names made) w))
    all.names_are
    (record {
      view = λ k h. view_at k h (is_any_left (made_names made) k) refl;
      cleared =
          λ k h. clear_at k h (is_any_left (made_names made) k) refl (is_any_working (made_names made) k) refl;
    })
  where
    alike : Alike (is_any_left (made_names made)) v u
    alike = subst (λ (ns : List (List ℕ)). Alike (is_any_left ns) v u) (sym all.names_are) all.view

    view_at : (k : List ℕ) → is_group_working (made_names made) k ≡ false → (b : Bool) → is_any_left (made_names made) k
        ≡ b → all_abandoned (made_names made) w k ≡ u k
    view_at k h true is = all_gone (made_names made) w k is
        ∙ sym (z_free made u v k all.held is (left_false (is_any_working (made_names made) k) _ h))
    view_at k h false is = all_kept (made_names made) w k is
        ∙ (same k (right_false (is_any_working (made_names made) k) _ h) ∙ alike k is)

    plan_at : (k : List ℕ) → is_any_left (made_names made) k ≡ false → (plan_file ≡ k) ⊎ (bytes_eq plan_file k ≡ false)
        → (w plan_file ≡ None) ⊎ (w plan_file ≡ v plan_file)
        → (all_abandoned (made_names made) w k ≡ None) ⊎ (all_abandoned (made_names made) w k ≡ u k)
    plan_at k is (inr other) had = inr (all_kept (made_names made) w k is ∙ (same k other ∙ alike k is))
    plan_at k is (inl here) (inl gone) = inl (all_kept (made_names made) w k is
        ∙ subst (λ (l : List ℕ). w l ≡ None) here gone)
    plan_at k is (inl here) (inr kept) = inr (all_kept (made_names made) w k is
        ∙ (subst (λ (l : List ℕ). w l ≡ v l) here kept ∙ alike k is))

    clear_at : (k : List ℕ) → is_group_working (made_names made) k ≡ true → (b : Bool) → is_any_left (made_names made) k
        ≡ b → (c : Bool) → is_any_working (made_names made) k ≡ c
        → (all_abandoned (made_names made) w k ≡ None) ⊎ (all_abandoned (made_names made) w k ≡ u k)
    clear_at k h true is c working = inl (all_gone (made_names made) w k is)
    clear_at k h false is c working = plan_at k is (name_cases plan_file k) plan

wanting_in : (entries : List GroupEntry) (made : List PreparedEntry) (u v : View) (o3 : Option View)
    → AreAllPrepared u v (names_of entries) made
    → Becomes (all_abandoned (made_names made)) (Some v) o3 ⊎ Becomes (λ x. all_abandoned (made_names made)
    (without_name plan_file x)) (Some v) o3
    → Between (λ u v. IsGivenBack (is_group_working (names_of entries)) u v) (Some u) o3
wanting_in entries made u v o3 all (inl gone) =
    subst (λ (o : Option View). Between (λ u v. IsGivenBack (is_group_working (names_of entries)) u v) (Some u) o)
    (sym gone) (given_all_back made (names_of entries) u v v all (λ k h. refl) (inr refl))
wanting_in entries made u v o3 all (inr gone) =
    subst (λ (o : Option View). Between (λ u v. IsGivenBack (is_group_working (names_of entries)) u v) (Some u) o)
    (sym gone)
    (given_all_back made (names_of entries) u v (without_name plan_file v) all (λ k h. put_other v plan_file k None h)
    (inl (put_same v plan_file None)))

wanting_group : (stamp : Stamp) (entries : List GroupEntry) (made : List PreparedEntry) (o o2 o3 : Option View)
    → Between (λ u v. PreparesAll (Ok made) (names_of entries) (entry_steps stamp u entries) u v) o o2
    → Becomes (all_abandoned (made_names made)) o2 o3 ⊎ Becomes (λ x. all_abandoned (made_names made)
    (without_name plan_file x)) o2 o3 → Between (λ u v. IsGivenBack (is_group_working (names_of entries)) u v) o o3
wanting_group stamp entries made None o2 o3 all gone = tt
wanting_group stamp entries made (Some u) None o3 all gone = absurd all
wanting_group stamp entries made (Some u) (Some v) o3 all gone = wanting_in entries made u v o3 all.1 gone

half_group : (stamp : Stamp) (entries : List GroupEntry) (made : List PreparedEntry) (o o2 o3 : Option View)
    → AreDifferent (names_of entries) → ArePlain (names_of entries) → IfSome o (λ (v : View). v intent_file ≡ None)
    → Between (λ u v. PreparesAll (Ok made) (names_of entries) (entry_steps stamp u entries) u v) o o2
    → PlacesSome (made_names made) (map member_of made) o2 o3
    → Between (λ u v. IsHalfMade (names_of entries) (of_group stamp entries u) u v) o o3
half_group stamp entries made None o2 o3 different plain none all places = tt
half_group stamp entries made (Some u) None o3 different plain none all places = absurd all
half_group stamp entries made (Some u) (Some v) o3 different plain none all places =
    let x = half_made made (names_of entries) u v o3 different plain all.1 places in
    subst (λ (o : Option View). Between (λ u w. IsHalfMade (names_of entries) (of_group stamp entries u) u w)
    (Some u) o) (sym x.1)
    (subst (λ (t : NamedStep). IsHalfMade (names_of entries) t u x.0) (joint_is stamp entries made u v none all.0) x.2)

-- the commit failed, or its report was cut
unfinished_by : (stamp : Stamp) (entries : List GroupEntry) (made : List PreparedEntry) (n : List ℕ) (fault : StepFault)
    (o o2 o3 : Option View) (out out2 err err2 : Option (List ℕ)) → AreDifferent (names_of entries)
    → ArePlain (names_of entries)
    → IfSome o (λ (v : View). v intent_file ≡ None) → Between (λ u v. PreparesAll (Ok made) (names_of entries)
    (entry_steps stamp u entries) u v) o o2 → Finishes (Err fault) made (world o2 out err) (world o3 out2 err2)
    → StopMeets fault n (names_of entries) (names_of entries) (of_group stamp entries) (world o out err)
    (world o3 out2 err2)
unfinished_by stamp entries made n (Refused refusal) o o2 o3 out out2 err err2 different plain none all fin = absurd fin
unfinished_by stamp entries made n Memory o o2 o3 out out2 err err2 different plain none all fin =
    (wanting_group stamp entries made o o2 o3 all fin.0, fin.1)
unfinished_by stamp entries made n ReadFault o o2 o3 out out2 err err2 different plain none all fin = absurd fin
unfinished_by stamp entries made n WriteFault o o2 o3 out out2 err err2 different plain none all fin =
    cut_group stamp entries made n o o2 o3 out out2 err err2 different plain none all fin
unfinished_by stamp entries made n DiskFault o o2 o3 out out2 err err2 different plain none all fin =
    (half_group stamp entries made o o2 o3 different plain none all fin.0, fin.1)

pub unfinished_group : (stamp : Stamp) (entries : List GroupEntry) (made : List PreparedEntry) (n : List ℕ)
    (fault : StepFault) (o o2 o3 : Option View) (out out2 err err2 : Option (List ℕ)) → AreDifferent (names_of entries)
    → ArePlain (names_of entries) → sfiles_of (names_of entries) ≡ names_of entries
    → IfSome o (λ (v : View). v intent_file ≡ None) → Between (λ u v. PreparesAll (Ok made) (names_of entries)
    (entry_steps stamp u entries) u v) o o2 → Finishes (Err fault) made (world o2 out err) (world o3 out2 err2)
    → StopMeets fault n (names_of entries) (sfiles_of (names_of entries)) (of_group stamp entries) (world o out err)
    (world o3 out2 err2)
unfinished_group stamp entries made n fault o o2 o3 out out2 err err2 different plain sfiles none all fin =
    subst (λ (own : List (List ℕ)). StopMeets fault n (names_of entries) own (of_group stamp entries) (world o out err)
    (world o3 out2 err2)) (sym sfiles)
    (unfinished_by stamp entries made n fault o o2 o3 out out2 err err2 different plain none all fin)
