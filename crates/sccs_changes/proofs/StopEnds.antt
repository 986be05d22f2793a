-- What a stop leaves of a change, at each of its ends.
use Rattle.std.proofs.Common.{◌≡◌, ℕ, Bool, true, false, List, [], map, drop, Option, None, Some, option_map, IfSome}
use Rattle.std.proofs.Common.{Result, Ok, Err, is_some, inl, inr, refl, sym, ap, subst, ◌∙◌, ⊎_elim}
use Rattle.std.specs.Prelude.{IsSome}
use Rattle.std.specs.Str.{bytes_eq}
use Rattle.sccs_base.specs.Name.{IsSFileName, p_file, q_file, x_file, z_file}
use Rattle.sccs_sid.specs.declared.refusals.Refusal.{Refusal}
use Rattle.sccs_sid.specs.declared.refusals.Refusal.TheVariants as refusals
use Rattle.sccs_sid.specs.declared.refusals.StepFault.{StepFault}
use Rattle.sccs_sid.specs.declared.refusals.StepFault.TheVariants.{Refused, Memory, ReadFault, WriteFault, DiskFault}
use Rattle.sccs_disk.specs.Effects.{empty_file}
use Rattle.sccs_disk.specs.Files.{Content, Model, View, view_of}
use Rattle.sccs_disk.specs.Images.{IsFirm}
use Rattle.sccs_disk.specs.Told.{Told, Tells, seen}
use Rattle.sccs_disk.proofs.Puts.{name_cases, put_other}
use Rattle.sccs_name_files.specs.StepFiles.{Files, Moves, early_moved, is_early, is_left, is_working, l_file, look}
use Rattle.sccs_name_files.specs.StepFiles.{moved, placed}
use Rattle.sccs_name_files.specs.Touches.{Leaves, TouchesOnly, earlier, newest}
use Rattle.sccs_intents.specs.Intents.{intent_file}
use Rattle.sccs_intents.specs.declared.intents.Fate.{Fate}
use Rattle.sccs_crash_points.specs.Calm.{IsCalm}
use Rattle.sccs_crash_points.specs.CrashPoints.{EndsAfter, EndsBefore}
use Rattle.sccs_pfile.specs.Recovered.{recovered_pfile}
use Rattle.sccs_crash_points.specs.Recovery.{IsSound, RecoversAs, fate_at, is_kept}
use Rattle.sccs_crash_points.specs.Unlocked.{KeptOthers}
use Rattle.sccs_crash_points.proofs.FileNames.{from_s, working_q, working_s, working_x}
use Rattle.sccs_crash_points.proofs.Recovering.{fate_same, same_recovers}
use Rattle.sccs_crash_points.proofs.Untouched.{before_after, before_within, same_before}
use Rattle.sccs_steps.specs.StepEffects.{Outcome, effect_of}
use Rattle.sccs_steps.specs.Calls.{Meets, World, scene, world}
use Rattle.sccs_steps.specs.Actions.{Action, IsHeard}
use Rattle.sccs_steps.specs.StepStops.{ArePaired, Ends, IsPaired, IsSafe, IsSafeFor, MeetsAt, meeting_place}
use Rattle.sccs_steps.proofs.SafeImages.{recovers_before}
use Rattle.sccs_steps.proofs.Carried.{moved_others, others_fate}
use Rattle.sccs_steps.proofs.Safety.{paired_now, placed_safe}
use Rattle.sccs_store.specs.Commits.{Becomes, Plan, abandoned, committed, files_after, locked}
use Rattle.sccs_store.specs.Stops.{CommitEnds, HasPrepared, IsPlainPlan, KeepsEntries, KeepsHeld, OnChange, OnReplace}
use Rattle.sccs_store.specs.declared.new_files.NewFile.{NewFile}
use Rattle.sccs_store.specs.declared.new_files.NewFile.TheVariants.{Keep, Replace, Remove}
use Rattle.sccs_store.proofs.Committed.{committed_at}
use Rattle.sccs_store.proofs.WholeSteps.{ends_after, ends_before, ends_within}
use Rattle.sccs_store.proofs.Working.{leaves_from}
use Rattle.sccs_changes.specs.Changes.{Changing, Drafts, IsPreparedBy, PreparesBy, PreparesChange, PreparesEarly}
use Rattle.sccs_changes.specs.Changes.{locking, locking_step, plan_of}
use Rattle.sccs_changes.specs.Ends.{FinishesCommit, GivesUp, Reports}
use Rattle.sccs_changes.specs.Stops.{Commits, IsFirmPrepared, SettlesEntries}
use Rattle.sccs_changes.specs.declared.prepared.Prepared.{Prepared}
use Rattle.sccs_changes.proofs.UnlockedChanges.{given_early, lock_early, prepared_early}
use Rattle.sccs_changes.proofs.ChangeEnds.{as_early, before_lock, broken_off, cut_finished, early_off, ends_finished}
use Rattle.sccs_changes.proofs.ChangeEnds.{failed_steps, free_step, given_up, gone_left, locked_steps, memory_steps}
use Rattle.sccs_changes.proofs.ChangeEnds.{unmade_of}

-- ---- ends

-- a refusal changes nothing, and may count as made
refused_after : (x : Action) (n : List ℕ) (o : Outcome) (refusal : Refusal) (v : View) (m : Model) (past : List Model)
    (t : Told) → o ≡ Err refusal → IsSafeFor x n v → EndsBefore v m past t → EndsAfter v (moved v n (effect_of n o).new)
    m past t × IsSafeFor x n (moved v n (effect_of n o).new)
refused_after x n o refusal v m past t is safe ends =
    subst (λ (q : Outcome). EndsAfter v (moved v n (effect_of n q).new) m past t
    × IsSafeFor x n (moved v n (effect_of n q).new)) (sym is) (before_after v m past t ends, safe)

-- ---- at the lock

pub at_memory : (x : Changing) (n : List ℕ) (left : Option (List ℕ)) (ta td : Told) (out err : Option (List ℕ))
    (m : Model) (past : List Model) (i : List ℕ) → td ≡ ta → ta ≡ Tells m past → IsHeard x.takes left i → IsCalm m
    → MeetsAt (locking x) (Err Memory) n (locking_step x.outcome n i (map (view_of m) (x.named n)) (look (view_of m) n))
    (view_of m) m past (scene ta out err) (scene td out err)
at_memory x n left ta td out err m past i same is heard calm =
    subst (λ (t : Told). MeetsAt (locking x) (Err Memory) n (locking_step x.outcome n i (map (view_of m) (x.named n))
    (look (view_of m) n)) (view_of m) m past (scene t out err) (scene td out err)) (sym is) (
      memory_steps x n left (Some (view_of m)) (seen td) out err (ap seen (same ∙ is)) i heard,
      same_before m past td calm (same ∙ is),
    )

pub at_locked : (x : Changing) (n : List ℕ) (left : Option (List ℕ)) (ta td : Told) (out err : Option (List ℕ))
    (m : Model) (past : List Model) (i : List ℕ) → td ≡ ta → IfSome (seen ta) (λ (v : View). is_some (v (z_file n))
    ≡ true) → ta ≡ Tells m past → IsHeard x.takes left i → IsCalm m → IsSafeFor (locking x) n (view_of m)
    → MeetsAt (locking x) (Err (Refused refusals.Locked)) n (locking_step x.outcome n i (map (view_of m) (x.named n))
    (look (view_of m) n)) (view_of m) m past (scene ta out err) (scene td out err)
at_locked x n left ta td out err m past i same taken is heard calm safe =
    let there : is_some (view_of m (z_file n)) ≡ true =
    subst (λ (t : Told). IfSome (seen t) (λ (v : View). is_some (v (z_file n)) ≡ true)) is taken in
    subst (λ (t : Told). MeetsAt (locking x) (Err (Refused refusals.Locked)) n (locking_step x.outcome n i
    (map (view_of m) (x.named n)) (look (view_of m) n)) (view_of m) m past (scene t out err) (scene td out err))
    (sym is) (
      locked_steps x n left (Some (view_of m)) (seen td) out err (ap seen (same ∙ is)) there i heard,
      refused_after (locking x) n (locking_step x.outcome n i (map (view_of m) (x.named n)) (look (view_of m) n))
          refusals.Locked (view_of m) m past td (locked_steps x n left (Some (view_of m)) (seen td) out err
          (ap seen (same ∙ is)) there i heard).0 safe (same_before m past td calm (same ∙ is)),
    )

-- a lock that failed, whether the name was locked or not
failed_before : (n : List ℕ) (ta td : Told) (m : Model) (past : List Model) (z : Option Content)
    → view_of m (z_file n) ≡ z → IsSFileName n → TouchesOnly (bytes_eq (z_file n)) ta td → KeepsHeld n ta td
    → ta ≡ Tells m past → IsCalm m → (view_of m (z_file n) ≡ None → IsSound n (view_of m))
    → EndsBefore (view_of m) m past td
failed_before n ta td m past None z sfile touches held is calm sound = ends_before n ta td m past sfile is calm
    (sound z) (lock_early n ta td touches)
failed_before n ta td m past (Some c) z sfile touches held is calm sound = held m past is calm (ap is_some z)

pub at_failed : (x : Changing) (n : List ℕ) (left : Option (List ℕ)) (ta td : Told) (out err : Option (List ℕ))
    (m : Model) (past : List Model) (i : List ℕ) → IsSFileName n → Moves (bytes_eq (z_file n)) (λ v. v) (seen ta)
    (seen td) → TouchesOnly (bytes_eq (z_file n)) ta td → KeepsHeld n ta td → ta ≡ Tells m past → IsHeard x.takes left i
    → IsCalm m → (view_of m (z_file n) ≡ None → IsSound n (view_of m))
    → MeetsAt (locking x) (Err DiskFault) n (locking_step x.outcome n i (map (view_of m) (x.named n))
    (look (view_of m) n)) (view_of m) m past (scene ta out err) (scene td out err)
at_failed x n left ta td out err m past i sfile moves touches held is heard calm sound =
    let kept : EndsBefore (view_of m) m past td = failed_before n ta td m past (view_of m (z_file n)) refl sfile touches
    held is calm sound in
    let here : Moves (bytes_eq (z_file n)) (λ v. v) (Some (view_of m)) (seen td) =
    subst (λ (t : Told). Moves (bytes_eq (z_file n)) (λ v. v) (seen t) (seen td)) is moves in
    subst (λ (t : Told). MeetsAt (locking x) (Err DiskFault) n (locking_step x.outcome n i (map (view_of m) (x.named n))
    (look (view_of m) n)) (view_of m) m past (scene t out err) (scene td out err)) (sym is) (
      failed_steps x n left (Some (view_of m)) (seen td) out err here i heard,
      (
        before_within (view_of m)
            (moved (view_of m) n (effect_of n (locking_step x.outcome n i (map (view_of m) (x.named n))
            (look (view_of m) n))).new) m past td kept,
        inr (recovers_before (view_of m) m past td kept),
      ),
    )

-- ---- behind the lock

-- what an end behind the lock says of the outcome, where the view is told
abbrev EndsSo : Action → Result (Unit {0}) StepFault → List ℕ → View → Model → List Model → Told → Option (List ℕ)
    → Option (List ℕ) → Option (List ℕ) → Option (List ℕ) → Outcome → Type 0
EndsSo y r n v m past td out err out3 err3 o = (met : Meets (λ (done : Unit {0}). 0) r n o (world (Some v) out err)
    (world (seen td) out3 err3)) × Ends (meeting_place r n o (world (Some v) out err) (world (seen td) out3 err3) met) y
    n v (moved v n (effect_of n o).new) m past td

behind : (x : Changing) (r : Result (Unit {0}) StepFault) (q : Result Prepared StepFault) (n : List ℕ)
    (left : Option (List ℕ)) (ta tb tb2 td : Told) (out out2 out3 err err3 : Option (List ℕ)) (m : Model)
    (past : List Model) (i : List ℕ) → ta ≡ Tells m past → IsHeard x.takes left i
    → Becomes (locked n) (seen ta) (seen tb) → IfSome (seen ta) (λ (v : View). v (z_file n) ≡ None)
    → PreparesChange x q n left (world (seen tb) out err) (world (seen tb2) out2 err)
    → ((o : Outcome) → view_of m (z_file n) ≡ None → PreparesEarly q n o (world (Some (locked n (view_of m))) out err)
    (world (seen tb2) out2 err) → EndsSo (locking x) r n (view_of m) m past td out err out3 err3 o)
    → MeetsAt (locking x) r n (locking_step x.outcome n i (map (view_of m) (x.named n)) (look (view_of m) n))
    (view_of m) m past (scene ta out err) (scene td out3 err3)
behind x r q n left ta tb tb2 td out out2 out3 err err3 m past i is heard lock free prepares ends =
    let v : View = view_of m in
    let unheld : v (z_file n) ≡ None = subst (λ (t : Told). IfSome (seen t) (λ (u : View). u (z_file n) ≡ None)) is
    free in
    let told : seen tb ≡ Some (locked n v) = lock ∙ ap (λ (t : Told). option_map (locked n) (seen t)) is in
    let here = subst (λ (o : Option View). PreparesChange x q n left (world o out err) (world (seen tb2) out2 err)) told
    prepares i heard in
    let seen_so : PreparesBy x.early q n (x.outcome n i (map v (x.named n)) (look v n))
    (world (Some (locked n v)) out err) (world (seen tb2) out2 err) =
    subst (λ (u : View). PreparesBy x.early q n (x.outcome n i (map u (x.named n)) (look u n))
    (world (Some (locked n v)) out err) (world (seen tb2) out2 err)) (before_lock n v unheld) here in
    subst (λ (t : Told). MeetsAt (locking x) r n (locking_step x.outcome n i (map v (x.named n)) (look v n)) v m past
    (scene t out err) (scene td out3 err3)) (sym is)
    (subst (λ (o : Outcome). EndsSo (locking x) r n v m past td out err out3 err3 o)
    (sym (free_step x n i (map v (x.named n)) (look v n) unheld))
    (ends (x.outcome n i (map v (x.named n)) (look v n)) unheld
    (as_early x.early q n (x.outcome n i (map v (x.named n)) (look v n)) (world (Some (locked n v)) out err)
    (world (seen tb2) out2 err) seen_so)))

-- ---- giving up

given_so : (y : Action) (fault : StepFault) (n : List ℕ) (o : Outcome) (v : View) (m : Model) (past : List Model)
    (ob2 : Option View) (td : Told) (out out2 err : Option (List ℕ)) → v (z_file n) ≡ None
    → PreparesEarly (Err fault) n o (world (Some (locked n v)) out err) (world ob2 out2 err)
    → Becomes (abandoned n) ob2 (seen td) → IsSafeFor y n v → EndsBefore v m past td
    → EndsSo y (Err fault) n v m past td out err out2 err o
given_so y (Refused refusal) n o v m past ob2 td out out2 err free prepares gone safe kept = (
  (prepares.0, given_up false n None [] v ob2 (seen td) out out2 err free prepares.1.view gone prepares.1.out),
  refused_after y n o refusal v m past td prepares.0 safe kept,
)
given_so y Memory n o v m past ob2 td out out2 err free prepares gone safe kept =
    (given_up prepares.0 n _ _ v ob2 (seen td) out out2 err free prepares.1.view gone prepares.1.out, kept)
given_so y ReadFault n o v m past ob2 td out out2 err free prepares gone safe kept =
    (given_up prepares.0 n _ _ v ob2 (seen td) out out2 err free prepares.1.view gone prepares.1.out, kept)
given_so y WriteFault n o v m past ob2 td out out2 err free prepares gone safe kept =
    (inl (given_up prepares.0 n _ _ v ob2 (seen td) out out2 err free prepares.1.view gone prepares.1.out), kept)
given_so y DiskFault n o v m past ob2 td out out2 err free prepares gone safe kept = (
  broken_off prepares.0 n o v ob2 (seen td) out out2 err prepares.1.view (gone_left n ob2 (seen td) gone)
      prepares.1.out,
  (
    before_within v (moved v n (effect_of n o).new) m past td kept,
    inr (recovers_before v m past td kept),
  ),
)

gives_so : (y : Action) (fault : StepFault) (r : Result (Unit {0}) StepFault) (n : List ℕ) (o : Outcome) (v : View)
    (m : Model) (past : List Model) (ob2 : Option View) (td : Told) (out out2 err : Option (List ℕ))
    → v (z_file n) ≡ None → PreparesEarly (Err fault) n o (world (Some (locked n v)) out err) (world ob2 out2 err)
    → GivesUp r fault n (world ob2 out2 err) (world (seen td) out2 err) → IsSafeFor y n v → EndsBefore v m past td
    → EndsSo y r n v m past td out err out2 err o
gives_so y fault r n o v m past ob2 td out out2 err free prepares (inl gone) safe kept =
    subst (λ (s : Result (Unit {0}) StepFault). EndsSo y s n v m past td out err out2 err o) (sym gone.0)
    (given_so y fault n o v m past ob2 td out out2 err free prepares gone.1 safe kept)
gives_so y fault r n o v m past ob2 td out out2 err free prepares (inr broken) safe kept =
    let unmade = unmade_of fault n o (world (Some (locked n v)) out err) (world ob2 out2 err) prepares in
    subst (λ (s : Result (Unit {0}) StepFault). EndsSo y s n v m past td out err out2 err o) (sym broken.0) (
      broken_off unmade.0 n o v ob2 (seen td) out out2 err unmade.1.view broken.1 unmade.1.out,
      (before_within v (moved v n (effect_of n o).new) m past td kept, inr (recovers_before v m past td kept)),
    )

pub at_given_up : (x : Changing) (fault : StepFault) (r : Result (Unit {0}) StepFault) (q : Result Prepared StepFault)
    (n : List ℕ) (left : Option (List ℕ)) (ta tb tb2 td : Told) (out out2 err : Option (List ℕ)) (m : Model)
    (past : List Model) (i : List ℕ) → IsSFileName n → q ≡ Err fault
    → Becomes (locked n) (seen ta) (seen tb) → IfSome (seen ta) (λ (v : View). v (z_file n) ≡ None)
    → PreparesChange x q n left (world (seen tb) out err) (world (seen tb2) out2 err)
    → GivesUp r fault n (world (seen tb2) out2 err) (world (seen td) out2 err)
    → TouchesOnly (bytes_eq (z_file n)) ta tb → Drafts x.early n tb tb2 → TouchesOnly (is_left n) tb2 td
    → ta ≡ Tells m past → IsHeard x.takes left i → IsCalm m → IsSafe n (view_of m)
    → MeetsAt (locking x) r n (locking_step x.outcome n i (map (view_of m) (x.named n)) (look (view_of m) n))
    (view_of m) m past (scene ta out err) (scene td out2 err)
at_given_up x fault r q n left ta tb tb2 td out out2 err m past i sfile failed lock free prepares gives locks working
    leaving is heard calm safe =
    let kept : EndsBefore (view_of m) m past td = ends_before n ta td m past sfile is calm
    (safe.sound (subst (λ (t : Told). IfSome (seen t) (λ (u : View). u (z_file n) ≡ None)) is free))
    (given_early x.early n ta tb tb2 td locks working leaving) in
    behind x r (Err fault) n left ta tb tb2 td out out2 out2 err err m past i is heard lock free
    (subst (λ (p : Result Prepared StepFault). PreparesChange x p n left (world (seen tb) out err)
    (world (seen tb2) out2 err)) failed prepares)
    (λ o unheld prep. gives_so (locking x) fault r n o (view_of m) m past (seen tb2) td out out2 err unheld prep gives
    (λ changes. safe) kept)

-- ---- the commit

-- what is prepared has all files as the locked view has them, but for working files and the l-file
abbrev Follows : List ℕ → View → View → Type 0
Follows n v u = (k : List ℕ) → is_working n k ≡ false → bytes_eq (l_file n) k ≡ false → u k ≡ locked n v k

-- the view after the commit, and after the step
view_at : (n : List ℕ) (c : Plan) (v u : View) (k : List ℕ) → IsSFileName n → Follows n v u → is_working n k ≡ false
    → committed n c u k ≡ placed v n (files_after n c u) k
view_at n c v u k sfile moves h = committed_at n c u v k sfile h (λ off other. moves k h off ∙ put_other v (z_file n) k
    (Some empty_file) other)

named_not : (f : Option Fate) → f ≡ None → IsSome f → ⊥
named_not None is named = cc
named_not (Some fate) is named = cc

-- a name that an intent names is another one than a name that none names
named_apart : (n k : List ℕ) (w : View) → fate_at w n ≡ None → IsSome (fate_at w k) → bytes_eq n k ≡ false
named_apart n k w free named =
    ⊎_elim (λ e. absurd (named_not (fate_at w k) (subst (λ l. fate_at w l ≡ None) e free) named)) (λ apart. apart)
    (name_cases n k)

recovers_moved : (n : List ℕ) (c : Plan) (v u : View) (new : Option Files) → IsSFileName n → is_kept (drop 2 n) ≡ false
    → fate_at v n ≡ None → Follows n v u → new ≡ Some (files_after n c u) → RecoversAs (moved v n new) (committed n c u)
recovers_moved n c v u new sfile plain free moves is =
    let w : View = placed v n (files_after n c u) in
    let unnamed : fate_at w n ≡ None = others_fate n n v w sfile plain (moved_others n v (Some (files_after n c u)))
    ∙ free in
    subst (λ (o : Option Files). RecoversAs (moved v n o) (committed n c u)) (sym is)
    (same_recovers w (committed n c u) (view_at n c v u intent_file sfile moves refl)
    (λ k other. view_at n c v u k sfile moves (working_s n k other)) (λ k other. view_at n c v u
    (p_file k) sfile moves refl)
    (λ k other. ap is_some (view_at n c v u (z_file k) sfile moves refl))
    (λ k other named. view_at n c v u (x_file k) sfile moves (working_x n k sfile other
    (named_apart n k w unnamed named)))
    (λ k other named. view_at n c v u (q_file k) sfile moves (working_q n k sfile other (named_apart n k w unnamed
    (ap is_some named)))))

moves_now : (first : Bool) (n : List ℕ) (new : Option Files) (v : View) (tb2 : Told) (m1 : Model) (past1 : List Model)
    → Moves (is_working n) (λ u. early_moved first u n new) (Some (locked n v)) (seen tb2) → tb2 ≡ Tells m1 past1
    → Follows n v (view_of m1)
moves_now first n new v tb2 m1 past1 moves is = λ k h off.
    subst (λ (t : Told). Moves (is_working n) (λ u. early_moved first u n new) (Some (locked n v)) (seen t)) is moves k
    h ∙ early_off first n new (locked n v) k off

-- whether there is a p-file without an s-file doesn't depend on working files
still_paired : (n : List ℕ) (v u : View) → IsSFileName n → IsPaired n v → Follows n v u → IsPaired n u
still_paired n v u sfile paired moves = λ none. same (p_file n) refl refl refl
    ∙ paired (sym (same n (working_s n n sfile) (from_s 108 n sfile refl) (from_s 122 n sfile refl)) ∙ none)
  where
    same : (k : List ℕ) → is_working n k ≡ false → bytes_eq (l_file n) k ≡ false → bytes_eq (z_file n) k ≡ false
        → u k ≡ v k
    same k h off other = moves k h off ∙ put_other v (z_file n) k (Some empty_file) other

-- nor does whether an entry of the p-file has its delta in the s-file
still_sound : (n : List ℕ) (v u : View) → IsSFileName n → IsSound n v → Follows n v u → IsSound n u
still_sound n v u sfile sound moves =
    let s : u n ≡ v n = moves n (working_s n n sfile) (from_s 108 n sfile refl) ∙ put_other v (z_file n) n
    (Some empty_file) (from_s 122 n sfile refl) in
    let p : u (p_file n) ≡ v (p_file n) = moves (p_file n) refl refl ∙ put_other v (z_file n) (p_file n)
    (Some empty_file) refl in
    record {
      entries = ap (λ (o : Option Content). recovered_pfile o (u (p_file n))) s ∙ (ap (recovered_pfile (v n)) p
          ∙ (sound.entries ∙ sym p));
      unnamed = fate_same n v u (moves intent_file refl refl ∙ put_other v (z_file n) intent_file
          (Some empty_file) refl) ∙ sound.unnamed;
    }

pub firm_from : (new : NewFile) (k : List ℕ) (mine : List ℕ → Bool) (a b d : Told) → TouchesOnly mine a b
    → OnReplace new (Leaves (IsFirm k) b d) → OnReplace new (Leaves (IsFirm k) a d)
firm_from Keep k mine a b d touches firm = tt
firm_from Replace k mine a b d touches firm = leaves_from (IsFirm k) mine a b d touches firm
firm_from Remove k mine a b d touches firm = tt

pub plain_where : (new : NewFile) (P : Type 0) → P → OnChange new P
plain_where Keep P plain = tt
plain_where Replace P plain = plain
plain_where Remove P plain = plain

-- what becomes of the entries, where the model is told
settled_now : (first : Bool) (n : List ℕ) (p : Prepared) (new : Option Files) (v : View) (tb2 : Told) (m1 : Model)
    (past1 : List Model) → IsSFileName n → IsPaired n v → IsSound n v
    → Moves (is_working n) (λ u. early_moved first u n new) (Some (locked n v)) (seen tb2) → SettlesEntries n p tb2
    → tb2 ≡ Tells m1 past1
    → KeepsEntries n (plan_of p) (view_of m1) × ArePaired (files_after n (plan_of p) (view_of m1)).s
    (files_after n (plan_of p) (view_of m1)).p
settled_now first n p new v tb2 m1 past1 sfile paired sound moves entries is =
    (subst (λ (t : Told). IfSome (seen t) (λ u. IsPaired n u → IsSound n u → KeepsEntries n (plan_of p) u
    × ArePaired (files_after n (plan_of p) u).s (files_after n (plan_of p) u).p)) is entries)
    (still_paired n v (view_of m1) sfile paired (moves_now first n new v tb2 m1 past1 moves is))
    (still_sound n v (view_of m1) sfile sound (moves_now first n new v tb2 m1 past1 moves is))

has_prepared : (first early : Bool) (n : List ℕ) (p : Prepared) (new : Option Files) (v : View) (ta tb tb2 : Told)
    → IsSFileName n → IsPaired n v → IsSound n v → Moves (is_working n) (λ u. early_moved first u n new)
    (Some (locked n v)) (seen tb2) → TouchesOnly (bytes_eq (z_file n)) ta tb → Drafts early n tb tb2
    → IsFirmPrepared n p tb tb2 → SettlesEntries n p tb2 → HasPrepared n (plan_of p) ta tb2
has_prepared first early n p new v ta tb tb2 sfile paired sound moves locks working firm entries = record {
  others = prepared_early early n ta tb tb2 locks working;
  x_state = firm_from (plan_of p).s (x_file n) (bytes_eq (z_file n)) ta tb tb2 locks firm.x_state;
  q_state = firm_from (plan_of p).p (q_file n) (bytes_eq (z_file n)) ta tb tb2 locks firm.q_state;
  entries = λ m past is m1 past1 is1.
      (settled_now first n p new v tb2 m1 past1 sfile paired sound moves entries is1).0;
}

finished_so : (early first : Bool) (y : Action) (r : Result (Unit {0}) StepFault) (n : List ℕ) (p : Prepared)
    (o : Outcome) (m : Model) (past : List Model) (ta tb tb2 td : Told) (out out2 out3 err err3 : Option (List ℕ))
    → IsSFileName n → ta ≡ Tells m past → IsCalm m → IsSafe n (view_of m) → view_of m (z_file n) ≡ None
    → IsPreparedBy first n p o (world (Some (locked n (view_of m))) out err) (world (seen tb2) out2 err)
    → FinishesCommit r n p (world (seen tb2) out2 err) (world (seen td) out3 err3) → Commits r n p tb2 td
    → TouchesOnly (bytes_eq (z_file n)) ta tb → Drafts early n tb tb2 → IsFirmPrepared n p tb tb2
    → SettlesEntries n p tb2 → EndsSo y r n (view_of m) m past td out err out3 err3 o
finished_so early first y r n p o m past ta tb tb2 td out out2 out3 err err3 sfile is calm safe free prepared finishes
    commits locks working firm entries = by r finishes commits
  where
    has : HasPrepared n (plan_of p) ta tb2
    has = has_prepared first early n p prepared.effect.new (view_of m) ta tb tb2 sfile
        (paired_now n (view_of m) sfile free safe) (safe.sound free) prepared.view locks working firm entries

    plain : IsPlainPlan n (plan_of p)
    plain = plain_where (plan_of p).g (is_kept (drop 2 n) ≡ false) safe.plain

    new : (effect_of n o).new ≡ prepared.effect.new
    new = ap (λ (q : Outcome). (effect_of n q).new) prepared.is

    same : (m1 : Model) (past1 : List Model) → tb2 ≡ Tells m1 past1
        → RecoversAs (moved (view_of m) n (effect_of n o).new) (committed n (plan_of p) (view_of m1))
    same m1 past1 is1 =
        recovers_moved n (plan_of p) (view_of m) (view_of m1) (effect_of n o).new sfile safe.plain
        (safe.sound free).unnamed (moves_now first n prepared.effect.new (view_of m) tb2 m1 past1 prepared.view is1)
        (new ∙ subst (λ (t : Told). IfSome (seen t) (λ u. prepared.effect.new ≡ Some (files_after n (plan_of p) u))) is1
        prepared.files)

    -- the files that the commit placed are safe
    again : (m1 : Model) (past1 : List Model) → tb2 ≡ Tells m1 past1
        → IsSafe n (moved (view_of m) n (effect_of n o).new)
    again m1 past1 is1 =
        let settled = settled_now first n p prepared.effect.new (view_of m) tb2 m1 past1 sfile
        (paired_now n (view_of m) sfile free safe) (safe.sound free) prepared.view entries is1 in
        subst (λ (f : Option Files). IsSafe n (moved (view_of m) n f))
        (sym (new ∙ subst (λ (t : Told). IfSome (seen t) (λ u. prepared.effect.new ≡ Some
        (files_after n (plan_of p) u))) is1 prepared.files))
        (placed_safe n (view_of m) (files_after n (plan_of p) (view_of m1)) sfile safe.plain (safe.sound free).unnamed
        settled.0.sound settled.1)

    safe_again : IsSafeFor y n (moved (view_of m) n (effect_of n o).new)
    safe_again =
        let run : KeptOthers (is_early n) m past tb2 = prepared_early early n ta tb tb2 locks working m past is in
        λ changes. again (newest run.added m) (earlier run.added m past) run.is

    by : (s : Result (Unit {0}) StepFault) → FinishesCommit s n p (world (seen tb2) out2 err)
        (world (seen td) out3 err3) → Commits s n p tb2 td → EndsSo y s n (view_of m) m past td out err out3 err3 o
    by (Ok done) finished committed_so = (
      ends_finished first (Ok done) n p o (view_of m) (seen tb2) (seen td) out out2 out3 err err3 sfile free prepared
          finished,
      (
        ends_after n (plan_of p) ta tb2 td m past (moved (view_of m) n (effect_of n o).new) sfile is calm
            (safe.sound free) plain has same committed_so,
        safe_again,
      ),
    )
    by (Err WriteFault) finished committed_so = (
      inr (cut_finished first n p o (view_of m) (seen tb2) (seen td) out out2 out3 err err3 sfile free prepared
          finished),
      (
        ends_after n (plan_of p) ta tb2 td m past (moved (view_of m) n (effect_of n o).new) sfile is calm
            (safe.sound free) plain has same committed_so,
        safe_again,
      ),
    )
    by (Err DiskFault) finished committed_so = (
      ends_finished first (Err DiskFault) n p o (view_of m) (seen tb2) (seen td) out out2 out3 err err3 sfile free
          prepared finished,
      (
        ends_within n (plan_of p) ta tb2 td m past (moved (view_of m) n (effect_of n o).new) sfile is calm
            (safe.sound free) plain has same committed_so,
        inl safe_again,
      ),
    )
    by (Err (Refused refusal)) finished committed_so = absurd finished
    by (Err Memory) finished committed_so = absurd finished
    by (Err ReadFault) finished committed_so = absurd finished

pub at_finished : (x : Changing) (p : Prepared) (r : Result (Unit {0}) StepFault) (q : Result Prepared StepFault)
    (n : List ℕ) (left : Option (List ℕ)) (ta tb tb2 td : Told) (out out2 out3 err err3 : Option (List ℕ)) (m : Model)
    (past : List Model) (i : List ℕ) → IsSFileName n → q ≡ Ok p
    → Becomes (locked n) (seen ta) (seen tb) → IfSome (seen ta) (λ (v : View). v (z_file n) ≡ None)
    → PreparesChange x q n left (world (seen tb) out err) (world (seen tb2) out2 err)
    → FinishesCommit r n p (world (seen tb2) out2 err) (world (seen td) out3 err3) → Commits r n p tb2 td
    → TouchesOnly (bytes_eq (z_file n)) ta tb → Drafts x.early n tb tb2 → IsFirmPrepared n p tb tb2
    → SettlesEntries n p tb2 → ta ≡ Tells m past → IsHeard x.takes left i → IsCalm m → IsSafe n (view_of m)
    → MeetsAt (locking x) r n (locking_step x.outcome n i (map (view_of m) (x.named n)) (look (view_of m) n))
    (view_of m) m past (scene ta out err) (scene td out3 err3)
at_finished x p r q n left ta tb tb2 td out out2 out3 err err3 m past i sfile made lock free prepares finishes commits
    locks working firm entries is heard calm safe =
    behind x r (Ok p) n left ta tb tb2 td out out2 out3 err err3 m past i is heard lock free
    (subst (λ (s : Result Prepared StepFault). PreparesChange x s n left (world (seen tb) out err)
    (world (seen tb2) out2 err)) made prepares)
    (λ o unheld prep. finished_so x.early prep.0 (locking x) r n p o m past ta tb tb2 td out out2 out3 err err3 sfile is
    calm safe unheld prep.1 finishes commits locks working firm entries)

-- ---- parts of the call

-- a commit that is reported
pub commits_reported : (r : Result (Unit {0}) StepFault) (n : List ℕ) (p : Prepared) (w w2 : World) (a b : Told)
    → Reports r p w w2 → CommitEnds n (plan_of p) a b → Commits r n p a b
commits_reported (Ok done) n p w w2 a b reports ends = ends
commits_reported (Err WriteFault) n p w w2 a b reports ends = ends
commits_reported (Err DiskFault) n p w w2 a b reports ends = absurd reports
commits_reported (Err (Refused refusal)) n p w w2 a b reports ends = absurd reports
commits_reported (Err Memory) n p w w2 a b reports ends = absurd reports
commits_reported (Err ReadFault) n p w w2 a b reports ends = absurd reports
