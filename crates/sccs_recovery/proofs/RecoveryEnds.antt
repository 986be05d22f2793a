-- How the call of the command recover ends: the files of the name, and what is said.
use Rattle.std.proofs.Common.{arith, ◌≡◌, ◌≢◌, ◌↔◌, ◌⊎◌, ⊎_elim, ℕ, ◌≤◌, Bool, true, false, cond, ◌||◌, List, [], ◌∷◌}
use Rattle.std.proofs.Common.{drop, Option, None, Some, option_map, IfSome, IsErrOf, IsSome, is_some, Result, Ok, Err}
use Rattle.std.proofs.Common.{inl, inr, refl, sym, ap, subst, ◌∙◌}
use Rattle.std.specs.Str.{bytes_eq}
use Rattle.sccs_base.specs.Name.{IsSFileName, is_sfile_name, sfile_name_decides, p_file, q_file, x_file, y_file, z_file}
use Rattle.sccs_base.specs.Stream.{Rose}
use Rattle.sccs_base.proofs.Gifts.{gives_none, some_none}
use Rattle.sccs_disk.specs.Files.{Content, View, put}
use Rattle.sccs_disk.specs.Calls.{Half, IsThere}
use Rattle.sccs_disk.specs.Effects.{syncing_names}
use Rattle.sccs_disk.specs.Told.{Told, seen}
use Rattle.sccs_disk.proofs.Puts.{name_cases, put_other, put_same}
use Rattle.sccs_sid.specs.Reading.{◌>>=◌}
use Rattle.sccs_sid.specs.declared.refusals.Refusal.{Refusal}
use Rattle.sccs_sid.specs.declared.refusals.StepFault.{StepFault}
use Rattle.sccs_sid.specs.declared.refusals.StepFault.TheVariants.{Refused, Memory, ReadFault, WriteFault, DiskFault}
use Rattle.sccs_pfile.specs.Recovered.{recovered_pfile}
use Rattle.sccs_name_files.specs.StepFiles.{AreCleared, Files, Moves, MovesPartly, is_left, is_working, l_file, look}
use Rattle.sccs_name_files.specs.StepFiles.{moved, placed}
use Rattle.sccs_intents.specs.Intents.{intent_file}
use Rattle.sccs_crash_points.specs.Recovery.{cleaned, cleared, recover_alone, without_name}
use Rattle.sccs_crash_points.proofs.FileNames.{from_g, from_sfile, no_q, no_working, no_y, no_z, working_s}
use Rattle.sccs_crash_points.proofs.Recovering.{alone_by, cleared_other}
use Rattle.sccs_steps.specs.StepEffects.{Outcome, StepEffect}
use Rattle.sccs_steps.specs.Calls.{Meets, ReportCut, scene, world}
use Rattle.sccs_steps.specs.FirstFiles.{MovesInOrder}
use Rattle.sccs_steps.specs.Causes.{StepCauses, WriteCauses, counts}
use Rattle.sccs_steps.specs.Actions.{IsHeard, RefusesWithin, SpeaksBy, Stepped, quiet_checks}
use Rattle.sccs_steps.proofs.ReadingSteps.{ends_silent}
use Rattle.sccs_store.specs.Commits.{Becomes, IsPart, Plan, committed, files_after, part_of, plan}
use Rattle.sccs_store.specs.declared.new_files.NewFile.TheVariants.{Keep, Replace}
use Rattle.sccs_store.proofs.Committed.{committed_at, part_at}
use Rattle.sccs_store.proofs.Working.{becomes_moves}
use Rattle.sccs_recovery.specs.Checks.{IsWithin, PassesChecks, checked, free_checked, none_pending, readable}
use Rattle.sccs_recovery.specs.Checks.{recover_checks, recovers_if}
use Rattle.sccs_recovery.specs.Ends.{RecoversName}
use Rattle.sccs_recovery.specs.Entries.{Finds}
use Rattle.sccs_recovery.specs.Commands.{Says, is_locked}
use Rattle.sccs_recovery.specs.RecoverStep.{files_checked, found_text, recover_action, recover_outcome, recover_step}
use Rattle.sccs_recovery.specs.RecoverStep.{recovers, recovered_files}
use Rattle.sccs_recovery.specs.declared.recoveries.Recovered.{Recovered}
use Rattle.sccs_recovery.specs.declared.recoveries.Recovered.TheVariants as ways
use Rattle.sccs_recovery.specs.declared.entries_left.PfileLeft.{PfileLeft}
use Rattle.sccs_recovery.proofs.RecoveryLaws.{cleared_q, q_placed}
use Rattle.sccs_base.proofs.Rises.{rose_later}

-- ---- what a call that failed leaves

pub partly : (n : List ℕ) (f : View → View) (o o2 : Option View) → Moves (is_working n) (λ v. v) o o2
    → MovesPartly (is_left n) f o o2
partly n f None o2 moves = moves
partly n f (Some u) None moves = absurd moves
partly n f (Some u) (Some v) moves = λ k h. inl (moves k (no_working n k h))

unsome : (u v : View) → Some u ≡ Some v → u ≡ v
unsome u v e = cc

-- a commit that failed
pub part_partly : (n : List ℕ) (c : Plan) (o om od : Option View) → IsSFileName n → Moves (is_working n) (λ v. v) o om
    → option_map (committed n c) om ≡ option_map (recover_alone n) o → IsPart n c om od → MovesPartly (is_left n)
    (recover_alone n) o od
part_partly n c None om od sfile moves is part = part.1 ∙ ap (option_map (part_of n c part.0)) moves
part_partly n c (Some v) None od sfile moves is part = absurd moves
part_partly n c (Some v) (Some u) od sfile moves is part =
    subst (λ (o : Option View). MovesPartly (is_left n) (recover_alone n) (Some v) o) (sym part.1) (λ k h.
    ended k h (part_at n c u v k part.0 sfile (no_working n k h) (no_z n k h) (moves k (no_working n k h))))
  where
    ended : (k : List ℕ) → is_left n k ≡ false → (part_of n c part.0 u k ≡ v k)
        ⊎ (part_of n c part.0 u k ≡ placed v n (files_after n c u) k) → (part_of n c part.0 u k ≡ v k)
        ⊎ (part_of n c part.0 u k ≡ recover_alone n v k)
    ended k h (inl e) = inl e
    ended k h (inr e) =
        inr (e ∙ (sym (committed_at n c u v k sfile (no_working n k h) (λ off other. moves k (no_working n k h)))
        ∙ ap (λ (w : View). w k) (unsome (committed n c u) (recover_alone n v) is)))

gone_by : (x q y : Bool) (o : Option Content) → (x || (q || y)) ≡ true → cond y None (cond q None (cond x None o))
    ≡ None
gone_by true q true o is = refl
gone_by true true false o is = refl
gone_by true false false o is = refl
gone_by false true true o is = refl
gone_by false true false o is = refl
gone_by false false true o is = refl
gone_by false false false o is = cc

-- the working files are taken away
pub cleared_gone : (n : List ℕ) (o om od : Option View) → Moves (is_working n) (λ v. v) o om → Becomes (cleared n) om od
    → AreCleared n o od
cleared_gone n None om od moves gone = tt
cleared_gone n (Some v) None od moves gone = absurd moves
cleared_gone n (Some v) (Some u) od moves gone =
    subst (λ (o : Option View). AreCleared n (Some v) o) (sym gone)
    (λ k h. inl (gone_by (bytes_eq (x_file n) k) (bytes_eq (q_file n) k) (bytes_eq (y_file n) k) (u k) h))

-- nothing changed
pub same_cleared : (n : List ℕ) (a b : Told) → b ≡ a → AreCleared n (seen a) (seen b)
same_cleared n a b same = subst (λ (t : Told). AreCleared n (seen a) (seen t)) (sym same) (by (seen a))
  where
    by : (o : Option View) → AreCleared n o o
    by None = tt
    by (Some v) = λ k h. inr refl

pub same_moves : (n : List ℕ) (a b : Told) → b ≡ a → Moves (is_working n) (λ v. v) (seen a) (seen b)
same_moves n a b same = subst (λ (t : Told). Moves (is_working n) (λ v. v) (seen a) (seen t)) (sym same) (by (seen a))
  where
    by : (o : Option View) → Moves (is_working n) (λ v. v) o o
    by None = refl
    by (Some v) = λ k h. refl

-- ---- recovery, file by file

working_g : (n : List ℕ) → IsSFileName n → is_working n (drop 2 n) ≡ false
working_g n sfile = rw (from_g 120 n sfile) rw (from_g 113 n sfile) rw (from_g 121 n sfile) refl

-- a p-file without the entries whose delta is made, as a q-file in its place
abbrev with_q : List ℕ → View → View
with_q n v = put (cleared n v) (q_file n) (recovered_pfile (v n) (v (p_file n)))

abbrev as_plan : Plan
as_plan = plan false Replace Keep

as_commit : (n : List ℕ) (v : View) → is_some (v (z_file n)) ≡ true → recover_alone n v ≡ committed n as_plan
    (with_q n v)
as_commit n v there = ap (alone_by n v) there
    ∙ sym (ap (without_name (z_file n)) (q_placed n (cleared n v) (recovered_pfile (v n) (v (p_file n)))
    (cleared_q n v)))

abbrev files : Option Content → Option Content → Option Content → Option Content → Files
files s p g l = record { s = s; p = p; z = None; g = g; l = l }

files_are : (n : List ℕ) (v : View) → IsSFileName n → files_after n as_plan (with_q n v) ≡ recovered_files (look v n)
files_are n v sfile =
    let p : Option Content = recovered_pfile (v n) (v (p_file n)) in
    let s_is : with_q n v n ≡ v n = put_other (cleared n v) (q_file n) n p (from_sfile 113 n n sfile refl)
    ∙ cleared_other n v n (working_s n n sfile) in
    let p_is : with_q n v (q_file n) ≡ p = put_same (cleared n v) (q_file n) p in
    let g_is : with_q n v (drop 2 n) ≡ v (drop 2 n) = put_other (cleared n v) (q_file n) (drop 2 n) p
    (from_g 113 n sfile) ∙ cleared_other n v (drop 2 n) (working_g n sfile) in
    let l_is : with_q n v (l_file n) ≡ v (l_file n) = put_other (cleared n v) (q_file n) (l_file n) p refl
    ∙ cleared_other n v (l_file n) refl in
    ap (λ (o : Option Content). files o (with_q n v (q_file n)) (with_q n v (drop 2 n)) (with_q n v (l_file n))) s_is
    ∙ (ap (λ (o : Option Content). files (v n) o (with_q n v (drop 2 n)) (with_q n v (l_file n))) p_is
    ∙ (ap (λ (o : Option Content). files (v n) p o (with_q n v (l_file n))) g_is
    ∙ ap (λ (o : Option Content). files (v n) p (v (drop 2 n)) o) l_is))

unlocked_at : (n : List ℕ) (v : View) (k : List ℕ) → IsSFileName n → is_some (v (z_file n)) ≡ true
    → is_working n k ≡ false → recover_alone n v k ≡ placed v n (recovered_files (look v n)) k
unlocked_at n v k sfile there h =
    ap (λ (u : View). u k) (as_commit n v there)
    ∙ (committed_at n as_plan (with_q n v) v k sfile h (λ off other. put_other (cleared n v) (q_file n) k
    (recovered_pfile (v n) (v (p_file n))) (no_q n k h) ∙ cleared_other n v k h)
    ∙ ap (λ (f : Files). placed v n f k) (files_are n v sfile))

-- what recovery makes of the files is what the step says
moved_by : (n : List ℕ) (v : View) (k : List ℕ) (z : Bool) → is_some (v (z_file n)) ≡ z → IsSFileName n
    → is_working n k ≡ false → recover_alone n v k ≡ moved v n (cond z (Some (recovered_files (look v n))) None) k
moved_by n v k true is sfile h = unlocked_at n v k sfile is h
moved_by n v k false is sfile h = ap (λ (u : View). u k) (ap (alone_by n v) is) ∙ put_other v (y_file n) k None
    (no_y n k h)

pub recovers_at : (freed : List ℕ → Bool) (n : List ℕ) (v : View) (k : List ℕ) → IsSFileName n → is_working n k ≡ false
    → recover_alone n v k ≡ moved v n (recovers freed n (look v n)).new k
recovers_at freed n v k sfile h = moved_by n v k (is_some (v (z_file n))) refl sfile h

-- the working files are gone, or but for the y-file as they were
working_p : (n k : List ℕ) → is_working n k ≡ true → bytes_eq (p_file n) k ≡ false
working_p n k h = ⊎_elim (λ e. absurd (let never : is_working n (p_file n) ≡ true = subst (λ l. is_working n l ≡ true)
    (sym e) h in cc)) (λ other. other) (name_cases (p_file n) k)

recovered_clears : (n : List ℕ) (v : View) (k : List ℕ) → is_working n k ≡ true → (recover_alone n v k ≡ None)
    ⊎ (recover_alone n v k ≡ v k)
recovered_clears n v k h = by (is_some (v (z_file n)))
  where
    without_z : (z : Bool) → cond z None (put (cleared n v) (p_file n) (recovered_pfile (v n) (v (p_file n))) k) ≡ None
    without_z true = refl
    without_z false =
        put_other (cleared n v) (p_file n) k (recovered_pfile (v n) (v (p_file n))) (working_p n k h)
        ∙ gone_by (bytes_eq (x_file n) k) (bytes_eq (q_file n) k) (bytes_eq (y_file n) k) (v k) h

    by : (z : Bool) → (cond z (without_name (z_file n) (cleaned n v)) (without_name (y_file n) v) k ≡ None)
        ⊎ (cond z (without_name (z_file n) (cleaned n v)) (without_name (y_file n) v) k ≡ v k)
    by true = inl (without_z (bytes_eq (z_file n) k))
    by false = ⊎_elim (λ e. inl (subst (λ l. without_name (y_file n) v l ≡ None) e (put_same v (y_file n) None)))
        (λ other. inr (put_other v (y_file n) k None other)) (name_cases (y_file n) k)

-- ---- how the call ends

step_by : (freed : List ℕ → Bool) (n : List ℕ) (f : Files) (p : Result Bool Refusal)
    → (p >>= λ free. recover_step freed n f) ≡ ((p >>= λ free. files_checked f) >>= λ done. Ok (recovers freed n f))
unfolding recover_step
step_by freed n f (Ok free) = refl
step_by freed n f (Err refusal) = refl

-- the step by its checks
pub step_of : (freed : List ℕ → Bool) (n : List ℕ) (v : View) (r : Result Bool Refusal) → free_checked n v ≡ r
    → recover_outcome freed n (v intent_file ∷ []) (look v n) ≡ (r >>= λ done. Ok (recovers freed n (look v n)))
unfolding recover_outcome
step_of freed n v r is = step_by freed n (look v n) (none_pending (v intent_file)) ∙ ap (λ (x : Result Bool Refusal). x
    >>= λ done. Ok (recovers freed n (look v n))) is

-- what is said is whether the z-file was there
pub is_said : (found : Recovered) (o : Option Content) → (found ≡ ways.Clean) ↔ (o ≡ None) → is_locked found ≡ is_some o
is_said ways.Clean o same = sym (ap is_some (same.0 refl))
is_said ways.Recovered None same = absurd (let e = same.1 refl in cc)
is_said ways.Recovered (Some c) same = refl

abbrev pub is_recovered : (freed : List ℕ → Bool) → List ℕ → View → Outcome
is_recovered freed n v = Ok (recovers freed n (look v n))

-- it is recovered, and what is said of it is cut
pub cut_ends : (freed : List ℕ → Bool) (n : List ℕ) (v : View) (o2 : Option View) (out out2 err : Option (List ℕ))
    → IsSFileName n → o2 ≡ Some (recover_alone n v) → Says (Err WriteFault) (recovers freed n (look v n)).out out out2
    → (d : StepEffect) × (is_recovered freed n v ≡ Ok d) × ReportCut n d (world (Some v) out err) (world o2 out2 err)
cut_ends freed n v o2 out out2 err sfile is says = (
  recovers freed n (look v n),
  refl,
  record {
    status = refl;
    view = subst (λ (t : Option View). Moves (is_working n) (λ u. moved u n (recovers freed n (look v n)).new)
        (Some v) t) (sym is) (λ k h. recovers_at freed n v k sfile h);
    cleared = subst (λ (t : Option View). AreCleared n (Some v) t) (sym is) (recovered_clears n v);
    out = says;
    err = some_none err [];
  },
)

pub made_ends : (freed : List ℕ → Bool) (n : List ℕ) (v : View) (r : Result (Unit {0}) StepFault) (o2 : Option View)
    (out out2 err : Option (List ℕ)) → IsSFileName n → o2 ≡ Some (recover_alone n v)
    → Says r (recovers freed n (look v n)).out out out2
    → Meets (λ (done : Unit {0}). 0) r n (Ok (recovers freed n (look v n))) (world (Some v) out err) (world o2 out2 err)
made_ends freed n v (Ok done) o2 out out2 err sfile is says = (
  recovers freed n (look v n),
  refl,
  refl,
  record {
    view = subst (λ (t : Option View). Moves (is_working n) (λ u. moved u n (recovers freed n (look v n)).new)
        (Some v) t) (sym is) (λ k h. recovers_at freed n v k sfile h);
    cleared = subst (λ (t : Option View). AreCleared n (Some v) t) (sym is) (recovered_clears n v);
    out = says;
    err = gives_none err;
  },
)
made_ends freed n v (Err WriteFault) o2 out out2 err sfile is says =
    inr (cut_ends freed n v o2 out out2 err sfile is says)
made_ends freed n v (Err Memory) o2 out out2 err sfile is says = absurd says
made_ends freed n v (Err ReadFault) o2 out out2 err sfile is says = absurd says
made_ends freed n v (Err DiskFault) o2 out out2 err sfile is says = absurd says
made_ends freed n v (Err (Refused refusal)) o2 out out2 err sfile is says = absurd says

pub made_steps : (freed : List ℕ → Bool) (n : List ℕ) (found : Recovered) (r : Result (Unit {0}) StepFault) (a b : Told)
    (left out out2 err : Option (List ℕ)) → IsSFileName n → Becomes (recover_alone n) (seen a) (seen b)
    → IfSome (seen a) (λ (v : View). (found ≡ ways.Clean) ↔ (v (z_file n) ≡ None))
    → IfSome (seen a) (λ (v : View). PassesChecks (free_checked n v) (Ok found))
    → Says r (found_text n (is_locked found || freed n)) out out2
    → Stepped (recover_action freed) r n left (scene a out err) (scene b out2 err)
made_steps freed n found r a b left out out2 err sfile view clean checks says = by (seen a) view clean checks
  where
    by : (o : Option View) → Becomes (recover_alone n) o (seen b) → IfSome o (λ (v : View). (found ≡ ways.Clean)
        ↔ (v (z_file n) ≡ None)) → IfSome o (λ (v : View). PassesChecks (free_checked n v) (Ok found))
        → IfSome o (λ (v : View). (i : List ℕ) → IsHeard false left i → Meets (λ (done : Unit {0}). 0) r n
        (recover_outcome freed n (v intent_file ∷ []) (look v n)) (world o out err) (world (seen b) out2 err))
    by None view clean checks = tt
    by (Some v) view clean checks = λ i heard.
        subst (λ o. Meets (λ (done : Unit {0}). 0) r n o (world (Some v) out err) (world (seen b) out2 err))
        (sym (step_of freed n v (Ok true) checks))
        (made_ends freed n v r (seen b) out out2 err sfile view
        (subst (λ (z : Bool). Says r (found_text n (z || freed n)) out out2) (is_said found (v (z_file n)) clean)
        says))

-- what is asked of a call that answers a fault
pub record Faults (n : List ℕ) (fault : StepFault) (a b : Told) : Type 0 where
  pub checks : IfSome (seen a) (λ (v : View). PassesChecks {A = Recovered} (free_checked n v) (Err fault))
  pub pending : IfSome (seen a) (λ (v : View). IsSome (v intent_file) → b ≡ a)
  pub refused : (refusal : Refusal) → fault ≡ Refused refusal → b ≡ a
  pub memory : fault ≡ Memory → Moves (is_working n) (λ v. v) (seen a) (seen b)
  pub cleared : fault ≡ Memory → AreCleared n (seen a) (seen b)
  pub partly : fault ≡ DiskFault → MovesPartly (is_left n) (λ (v : View). recovers_if (free_checked n v) n v) (seen a)
      (seen b)
  pub read : fault ≢ ReadFault
  pub write : fault ≢ WriteFault

-- each file is as it was, or as the step would make it
partly_by : (n : List ℕ) (v : View) (o2 : Option View) (r : Result Bool Refusal) → free_checked n v ≡ r
    → MovesPartly (is_left n) (λ (u : View). recovers_if (free_checked n u) n u) (Some v) o2 → MovesPartly (is_left n)
    (λ (u : View). recovers_if r n u) (Some v) o2
partly_by n v None r is parts = absurd parts
partly_by n v (Some w) r is parts = λ k h. subst (λ (x : Result Bool Refusal). (w k ≡ v k)
    ⊎ (w k ≡ recovers_if x n v k)) is (parts k h)

-- recovery changes no file but working files, the p-file and the z-file
recover_other : (n : List ℕ) (v : View) (k : List ℕ) → is_left n k ≡ false → bytes_eq (p_file n) k ≡ false
    → recover_alone n v k ≡ v k
recover_other n v k h other = by (is_some (v (z_file n)))
  where
    by : (z : Bool) → cond z (without_name (z_file n) (cleaned n v)) (without_name (y_file n) v) k ≡ v k
    by true = put_other (cleaned n v) (z_file n) k None (no_z n k h)
        ∙ (put_other (cleared n v) (p_file n) k (recovered_pfile (v n) (v (p_file n))) other
        ∙ cleared_other n v k (no_working n k h))
    by false = put_other v (y_file n) k None (no_y n k (no_working n k h))

-- with the old p-file all files are as they were, with the new one as the step makes them
recovered_or_not : (n : List ℕ) (v w f : View) → ((k : List ℕ) → is_left n k ≡ false → recover_alone n v k ≡ f k)
    → ((k : List ℕ) → is_left n k ≡ false → (w k ≡ v k) ⊎ (w k ≡ recover_alone n v k))
    → ((k : List ℕ) → is_left n k ≡ false → w k ≡ v k) ⊎ ((k : List ℕ) → is_left n k ≡ false → w k ≡ f k)
recovered_or_not n v w f same parts = ⊎_elim old_one new_one (parts (p_file n) refl)
  where
    at_other : (k : List ℕ) → is_left n k ≡ false → bytes_eq (p_file n) k ≡ false → w k ≡ v k
    at_other k h other = ⊎_elim (λ e. e) (λ e. e ∙ recover_other n v k h other) (parts k h)

    old_one : w (p_file n) ≡ v (p_file n) → ((k : List ℕ) → is_left n k ≡ false → w k ≡ v k)
        ⊎ ((k : List ℕ) → is_left n k ≡ false → w k ≡ f k)
    old_one e = inl (λ k h. ⊎_elim (λ is. subst (λ m. w m ≡ v m) is e) (at_other k h) (name_cases (p_file n) k))

    new_one : w (p_file n) ≡ recover_alone n v (p_file n) → ((k : List ℕ) → is_left n k ≡ false → w k ≡ v k)
        ⊎ ((k : List ℕ) → is_left n k ≡ false → w k ≡ f k)
    new_one e = inr (λ k h.
        ⊎_elim (λ is. subst (λ m. w m ≡ recover_alone n v m) is e) (λ other. at_other k h other
        ∙ sym (recover_other n v k h other)) (name_cases (p_file n) k) ∙ same k h)

in_order : (n : List ℕ) (v : View) (o2 : Option View) (new : Option Files) → ((k : List ℕ) → is_left n k ≡ false
    → recover_alone n v k ≡ moved v n new k) → MovesPartly (is_left n) (recover_alone n) (Some v) o2
    → MovesInOrder n new (Some v) o2
in_order n v None new same parts = absurd parts
in_order n v (Some w) new same parts = ⊎_elim (λ old. (0, old)) (λ made. (4, made))
    (recovered_or_not n v w (moved v n new) same parts)

all_kept : (n : List ℕ) (v : View) (o2 : Option View) → MovesPartly (is_left n) (λ (u : View). u) (Some v) o2
    → Moves (is_left n) (λ u. u) (Some v) o2
all_kept n v None parts = absurd parts
all_kept n v (Some w) parts = λ k h. ⊎_elim (λ e. e) (λ e. e) (parts k h)

interrupted : (freed : List ℕ → Bool) (n : List ℕ) (v : View) (o2 : Option View) (r : Result Bool Refusal)
    (out err : Option (List ℕ)) → IsSFileName n → MovesPartly (is_left n) (λ (u : View). recovers_if r n u) (Some v) o2
    → Meets (λ (done : Unit {0}). 0) (Err DiskFault) n (r >>= λ done. Ok (recovers freed n (look v n)))
    (world (Some v) out err) (world o2 out err)
interrupted freed n v o2 (Ok done) out err sfile parts =
    record {
      view = in_order n v o2 (recovers freed n (look v n)).new (λ k h. recovers_at freed n v k sfile
          (no_working n k h)) parts;
      out = some_none out [];
      err = refl;
    }
interrupted freed n v o2 (Err refusal) out err sfile parts =
    record { view = (0, all_kept n v o2 parts); out = some_none out []; err = refl }

fault_ends : (freed : List ℕ → Bool) (n : List ℕ) (v : View) (fault : StepFault) (r : Result Bool Refusal) (a b : Told)
    (out err : Option (List ℕ)) → IsSFileName n → seen a ≡ Some v → free_checked n v ≡ r → Faults n fault a b
    → Meets (λ (done : Unit {0}). 0) (Err fault) n (r >>= λ done. Ok (recovers freed n (look v n)))
    (world (Some v) out err) (world (seen b) out err)
fault_ends freed n v (Refused refusal) r a b out err sfile told is faults =
    ends_silent v (seen b) n (r >>= λ done. Ok (recovers freed n (look v n))) (Refused refusal) out err
    (ap seen (faults.refused refusal refl) ∙ told)
    (ap (λ (x : Result Bool Refusal). x >>= λ done. Ok (recovers freed n (look v n))) (sym is
    ∙ subst (λ (o : Option View). IfSome o (λ (u : View). PassesChecks {A = Recovered} (free_checked n u)
    (Err (Refused refusal)))) told faults.checks))
fault_ends freed n v Memory r a b out err sfile told is faults = record {
  view = (false, subst (λ (o : Option View). Moves (is_working n) (λ u. u) o (seen b)) told (faults.memory refl));
  cleared = subst (λ (o : Option View). AreCleared n o (seen b)) told (faults.cleared refl);
  out = some_none out _;
  err = refl;
}
fault_ends freed n v DiskFault r a b out err sfile told is faults =
    interrupted freed n v (seen b) r out err sfile (partly_by n v (seen b) r is
    (subst (λ (o : Option View). MovesPartly (is_left n) (λ (u : View). recovers_if (free_checked n u) n u) o
    (seen b)) told (faults.partly refl)))
fault_ends freed n v ReadFault r a b out err sfile told is faults = absurd (faults.read refl)
fault_ends freed n v WriteFault r a b out err sfile told is faults = absurd (faults.write refl)

pub fault_steps : (freed : List ℕ → Bool) (n : List ℕ) (fault : StepFault) (a b : Told) (left out err : Option (List ℕ))
    → IsSFileName n → Faults n fault a b → Stepped (recover_action freed) (Err fault) n left (scene a out err)
    (scene b out err)
fault_steps freed n fault a b left out err sfile faults = by (seen a) refl
  where
    by : (o : Option View) → seen a ≡ o → IfSome o (λ (v : View). (i : List ℕ) → IsHeard false left i
        → Meets (λ (done : Unit {0}). 0) (Err fault) n (recover_outcome freed n (v intent_file ∷ []) (look v n))
        (world o out err) (world (seen b) out err))
    by None told = tt
    by (Some v) told = λ i heard.
        subst (λ o. Meets (λ (done : Unit {0}). 0) (Err fault) n o (world (Some v) out err) (world (seen b) out err))
        (sym (step_of freed n v (free_checked n v) refl)) (fault_ends freed n v fault (free_checked n v) a b out err
        sfile told refl faults)

-- ---- what is said, over any disk

abbrev said : List ℕ → StepEffect
said n = record { new = None; text = []; out = n; err = []; status = 0 }

pub fault_speaks : (fault : StepFault) (n : List ℕ) (err : Option (List ℕ))
    → RefusesWithin {X = Recovered} recover_checks (Err fault) → SpeaksBy (quiet_checks recover_checks)
    (Err fault) n err err
fault_speaks (Refused refusal) n err within = (Err refusal, within refusal refl, (refl, refl))
fault_speaks Memory n err within = (Ok (said n), refl, some_none err _)
fault_speaks ReadFault n err within = (Ok (said n), refl, some_none err _)
fault_speaks WriteFault n err within = (Ok (said n), refl, some_none err _)
fault_speaks DiskFault n err within = (Ok (said n), refl, some_none err _)

pub say_speaks : (n text : List ℕ) (r : Result (Unit {0}) StepFault) (out out2 err : Option (List ℕ))
    → Says r text out out2 → SpeaksBy (quiet_checks recover_checks) r n err err
say_speaks n text (Ok done) out out2 err says = (Ok (said n), refl, (said n, refl, refl, gives_none err))
say_speaks n text (Err WriteFault) out out2 err says = (Ok (said n), refl, some_none err _)
say_speaks n text (Err Memory) out out2 err says = absurd says
say_speaks n text (Err ReadFault) out out2 err says = absurd says
say_speaks n text (Err DiskFault) out out2 err says = absurd says
say_speaks n text (Err (Refused refusal)) out out2 err says = absurd says

-- ---- the parts of the call

passed_partly : (n : List ℕ) (f : View → Result Bool Refusal) (o o2 : Option View)
    → IfSome o (λ (v : View). f v ≡ Ok true) → MovesPartly (is_left n) (recover_alone n) o o2 → MovesPartly (is_left n)
    (λ (v : View). recovers_if (f v) n v) o o2
passed_partly n f None o2 passed parts = parts
passed_partly n f (Some v) None passed parts = absurd parts
passed_partly n f (Some v) (Some w) passed parts = λ k h. subst (λ (x : Result Bool Refusal). (w k ≡ v k)
    ⊎ (w k ≡ recovers_if x n v k)) (sym passed) (parts k h)

found_passed : (n : List ℕ) (left : PfileLeft) (o : Option View) → IfSome o (λ (v : View). IsSome (v (z_file n)))
    → IfSome o (λ (v : View). Finds (v n) (v (p_file n)) (Ok left)) → IfSome o (λ (v : View). checked n v ≡ Ok true)
found_passed n left None there finds = tt
found_passed n left (Some v) there finds = ap (λ (z : Bool). cond z (readable (v n) (v (p_file n))) (Ok true)) there
    ∙ finds.0

pub finished_partly : (n : List ℕ) (left : PfileLeft) (a a1 b : Told) → a1 ≡ a → IsThere (z_file n) a
    → IfSome (seen a) (λ (v : View). Finds (v n) (v (p_file n)) (Ok left)) → MovesPartly (is_left n) (recover_alone n)
    (seen a1) (seen b)
    → MovesPartly (is_left n) (λ (v : View). recovers_if (checked n v) n v) (seen a) (seen b)
finished_partly n left a a1 b same there finds parts =
    passed_partly n (checked n) (seen a) (seen b) (found_passed n left (seen a) there finds)
    (subst (λ (t : Told). MovesPartly (is_left n) (recover_alone n) (seen t) (seen b)) same parts)

-- nothing changed
pub same_partly : (n : List ℕ) (f : View → View) (a b : Told) → b ≡ a → MovesPartly (is_left n) f (seen a) (seen b)
same_partly n f a b same = partly n f (seen a) (seen b) (same_moves n a b same)

pub partly_from : (n : List ℕ) (f : View → View) (a a1 b : Told) → a1 ≡ a → MovesPartly (is_left n) f (seen a1) (seen b)
    → MovesPartly (is_left n) f (seen a) (seen b)
partly_from n f a a1 b same parts = subst (λ (t : Told). MovesPartly (is_left n) f (seen t) (seen b)) same parts

pub err_is : {T : Type 0} (e fault : StepFault) → IsErrOf {T = T} (Err e) fault → e ≡ fault
err_is e fault is = cc

pub is_sfile : (n : List ℕ) → is_sfile_name n ≡ true → IsSFileName n
is_sfile n fits = ((sfile_name_decides n).0 fits).1

pub say_causes : (r : Result (Unit {0}) StepFault) (i o o2 e d d2 : ℕ) → d ≤ d2 → WriteCauses r o o2
    → StepCauses r (counts i o e d) (counts i o2 e d2)
say_causes r i o o2 e d d2 later causes = record {
  input_later = omega (arith);
  out_later = causes.later;
  err_later = omega (arith);
  disk_later = later;
  read = λ is. absurd (causes.read is);
  write = λ is. inl (causes.write is);
  broke = λ is. absurd (causes.broke is);
}

pub fault_causes : (fault : StepFault) (i o e d d2 : ℕ) → d ≤ d2 → IsWithin {T = Recovered} (Err fault)
    → (IsErrOf {T = Recovered} (Err fault) DiskFault → Rose d d2) → StepCauses {X = Unit {0}} (Err fault)
    (counts i o e d) (counts i o e d2)
fault_causes fault i o e d d2 later within cause = record {
  input_later = omega (arith);
  out_later = omega (arith);
  err_later = omega (arith);
  disk_later = later;
  read = λ is. absurd (within.read (let same : fault ≡ ReadFault = cc in ap Err same));
  write = λ is. absurd (within.write (let same : fault ≡ WriteFault = cc in ap Err same));
  broke = λ is. cause (let same : fault ≡ DiskFault = cc in ap Err same);
}

-- each file is as it was while an intent is there
free_partly : (n : List ℕ) (a b : Told) → IfSome (seen a) (λ (v : View). IsSome (v intent_file) → b ≡ a)
    → MovesPartly (is_left n) (λ (v : View). recovers_if (checked n v) n v) (seen a) (seen b) → MovesPartly (is_left n)
    (λ (v : View). recovers_if (free_checked n v) n v) (seen a) (seen b)
free_partly n a b pending parts = by (seen a) refl pending parts
  where
    by_intent : (v : View) (intent : Option Content) → seen a ≡ Some v → v intent_file ≡ intent
        → (IsSome intent → b ≡ a) → MovesPartly (is_left n) (λ (u : View). recovers_if (checked n u) n u) (Some v)
        (seen b)
        → MovesPartly (is_left n) (λ (u : View). recovers_if (free_checked n u) n u) (Some v) (seen b)
    by_intent v None told is same moved = with_none (seen b) moved
      where
        with_none : (o2 : Option View) → MovesPartly (is_left n) (λ (u : View). recovers_if (checked n u) n u)
            (Some v) o2 → MovesPartly (is_left n) (λ (u : View). recovers_if (free_checked n u) n u) (Some v) o2
        with_none None moved = absurd moved
        with_none (Some w) moved = λ k h. subst (λ (r : Result Bool Refusal). (w k ≡ v k) ⊎ (w k ≡ recovers_if r n v k))
            (sym (ap (λ (o : Option Content). none_pending o >>= λ free. checked n v) is)) (moved k h)
    by_intent v (Some c) told is same moved = subst (λ (o : Option View). MovesPartly (is_left n)
        (λ (u : View). recovers_if (free_checked n u) n u) (Some v) o) (sym (ap seen (same refl) ∙ told))
        (λ k h. inl refl)

    by : (o : Option View) → seen a ≡ o → IfSome o (λ (v : View). IsSome (v intent_file) → b ≡ a)
        → MovesPartly (is_left n) (λ (v : View). recovers_if (checked n v) n v) o (seen b) → MovesPartly (is_left n)
        (λ (v : View). recovers_if (free_checked n v) n v) o (seen b)
    by None told pending moved = moved
    by (Some v) told pending moved = by_intent v (v intent_file) told refl pending moved

-- what the call says where it answers a fault
pub faults_of : (n : List ℕ) (fault : StepFault) (a b : Told) (f f2 : ℕ)
    → IfSome (seen a) (λ (v : View). PassesChecks {A = Recovered} (free_checked n v) (Err fault))
    → IfSome (seen a) (λ (v : View). IsSome (v intent_file) → b ≡ a) → RecoversName {T = Recovered} n a b f f2
    (Err fault)
    → Faults n fault a b
faults_of n fault a b f f2 checks pending ends = record {
  checks = checks;
  pending = pending;
  refused = λ refusal is. ends.refused refusal (ap Err is);
  memory = λ is. ends.memory (ap Err is);
  cleared = λ is. ends.cleared (ap Err is);
  partly = λ is. free_partly n a b pending (ends.partly (ap Err is));
  read = λ is. ends.within.read (ap Err is);
  write = λ is. ends.within.write (ap Err is);
}

-- ---- what the parts leave of the files

pub q_moves : (n : List ℕ) (x : Option Content) (o o2 : Option View) → Becomes (λ v. put v (q_file n) x) o o2
    → Moves (is_working n) (λ v. v) o o2
q_moves n x o o2 is = becomes_moves (is_working n) (λ v. put v (q_file n) x) o o2 (λ v k h. put_other v (q_file n) k x
    (no_q n k h)) is

half_same : (o o2 : Option View) → (o2 ≡ o) ⊎ ((v w : View) × (o ≡ Some v) × (o2 ≡ Some w) × (w ≡ v)) → o2 ≡ o
half_same o o2 (inl same) = same
half_same o o2 (inr (v, w, old, new, is)) = new ∙ (ap (λ (u : View). Some u) is ∙ sym old)

-- the y-file is gone, and the names couldn't be synced
pub tidied_moves : (n : List ℕ) (a b d : Told) → Becomes (without_name (y_file n)) (seen a) (seen b)
    → Half syncing_names b d → Moves (is_working n) (λ v. v) (seen a) (seen d)
tidied_moves n a b d is half =
    subst (λ (o : Option View). Moves (is_working n) (λ v. v) (seen a) o) (sym (half_same (seen b) (seen d) half.view))
    (becomes_moves (is_working n) (without_name (y_file n)) (seen a) (seen b) (λ v k h. put_other v (y_file n) k None
    (no_y n k h)) is)

pub retyped : {S T : Type 0} (e fault : StepFault) → IsErrOf {T = S} (Err e) fault → IsErrOf {T = T} (Err e) fault
retyped e fault is = let same : e ≡ fault = cc in ap Err same

-- ---- a call behind another one that left the disk as it was

pub ended : {S T : Type 0} (n : List ℕ) (a b d : Told) (f g h : ℕ) (x : S) (y : T) → b ≡ a → f ≤ g
    → RecoversName n b d g h (Ok x) → RecoversName n a d f h (Ok y)
ended {S} {T} n a b d f g h x y same rises ends =
    subst (λ (t : Told). RecoversName {T = T} n t d f h (Ok y)) same
    (record {
      view = ends.view;
      refused = λ refusal is. absurd cc;
      memory = λ is. absurd cc;
      cleared = λ is. absurd cc;
      touches = λ is. absurd cc;
      others = ends.others;
      partly = λ is. absurd cc;
      story = ends.story;
      calm = ends.calm;
      firm = ends.firm;
      later = omega (arith, rises, ends.later);
      cause = λ is. absurd cc;
      within = record { checks = λ refusal is. absurd cc; read = λ is. absurd cc; write = λ is. absurd cc };
    })

pub failed : {S T : Type 0} (n : List ℕ) (a b d : Told) (f g h : ℕ) (fault : StepFault) → b ≡ a → f ≤ g
    → RecoversName {T = S} n b d g h (Err fault) → RecoversName {T = T} n a d f h (Err fault)
failed {S} {T} n a b d f g h fault same rises ends =
    subst (λ (t : Told). RecoversName {T = T} n t d f h (Err fault)) same
    (record {
      view = tt;
      refused = λ refusal is. ends.refused refusal (retyped fault (Refused refusal) is);
      memory = λ is. ends.memory (retyped fault Memory is);
      cleared = λ is. ends.cleared (retyped fault Memory is);
      touches = λ is. ends.touches (retyped fault Memory is);
      others = ends.others;
      partly = λ is. ends.partly (retyped fault DiskFault is);
      story = ends.story;
      calm = tt;
      firm = ends.firm;
      later = omega (arith, rises, ends.later);
      cause = λ is. rose_later f g h rises (ends.cause (retyped fault DiskFault is));
      within = record {
        checks = λ refusal is. ends.within.checks refusal (retyped fault (Refused refusal) is);
        read = λ is. ends.within.read (retyped fault ReadFault is);
        write = λ is. ends.within.write (retyped fault WriteFault is);
      };
    })
