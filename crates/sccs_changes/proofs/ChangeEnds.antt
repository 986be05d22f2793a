-- What the parts of a change make of its step.
use Rattle.std.proofs.Common.{◌≡◌, ◌⊎◌, ℕ, zero, suc, Bool, true, false, ◌||◌, cond, List, [], ◌++◌, map, Option, None}
use Rattle.std.proofs.Common.{Some, IfSome, IsSome, Result, Ok, Err, inl, inr, refl, sym, ap, subst, ◌∙◌}
use Rattle.std.specs.Prelude.{is_none}
use Rattle.std.specs.Str.{bytes_eq}
use Rattle.sccs_base.specs.Name.{IsSFileName, p_file, q_file, x_file, y_file, z_file}
use Rattle.sccs_base.specs.Stream.{GivesOk, GivesSome}
use Rattle.sccs_base.proofs.Gifts.{gives_both, gives_then, some_longer, some_none, some_of_whole}
use Rattle.sccs_sid.specs.declared.refusals.Refusal.TheVariants as refusals
use Rattle.sccs_sid.specs.declared.refusals.StepFault.{StepFault}
use Rattle.sccs_sid.specs.declared.refusals.StepFault.TheVariants.{Refused, Memory, ReadFault, WriteFault, DiskFault}
use Rattle.sccs_disk.specs.Files.{Content, View, put}
use Rattle.sccs_disk.proofs.Puts.{name_cases, put_again, put_back, put_other, put_same}
use Rattle.sccs_disk.specs.Effects.{empty_file}
use Rattle.sccs_name_files.specs.StepFiles.{AreCleared, Files, Moves, early_moved, is_left, is_working, l_file, look}
use Rattle.sccs_name_files.specs.StepFiles.{moved, placed}
use Rattle.sccs_steps.specs.StepEffects.{Outcome, StepEffect, effect_of}
use Rattle.sccs_steps.specs.Calls.{Fails, Interrupted, Meets, ReportCut, Uncommitted, World, world}
use Rattle.sccs_steps.specs.Actions.{IsHeard}
use Rattle.sccs_steps.specs.FirstFiles.{MovesInOrder, first_moved}
use Rattle.sccs_store.specs.Commits.{Becomes, IsPart, Plan, abandoned, committed, files_after, g_swapped, locked}
use Rattle.sccs_store.specs.Commits.{p_swapped, part_of, s_swapped}
use Rattle.sccs_crash_points.specs.Recovery.{cleared, without_name}
use Rattle.sccs_store.proofs.Committed.{committed_at, first_is, l_taken, second_is}
use Rattle.sccs_crash_points.proofs.FileNames.{no_q, no_working, no_x, no_y, no_z}
use Rattle.sccs_changes.specs.Changes.{Changing, IsPreparedBy, IsUnmadeBy, PreparesBy, PreparesChange, PreparesEarly}
use Rattle.sccs_changes.specs.Changes.{locking_step, plan_of, unlocked}
use Rattle.sccs_changes.proofs.Taken.{committed_clears}
use Rattle.sccs_changes.specs.Ends.{FinishesCommit, GivesUp}
use Rattle.sccs_changes.specs.declared.prepared.Prepared.{Prepared}

-- ---- the lock

-- the view before the lock
pub before_lock : (n : List ℕ) (v : View) → v (z_file n) ≡ None → unlocked n (locked n v) ≡ v
before_lock n v free =
    put_again v (z_file n) (Some empty_file) None ∙ (ap (λ (o : Option Content). put v (z_file n) o) (sym free)
    ∙ put_back v (z_file n))

pub free_step : (x : Changing) (n i : List ℕ) (named : List (Option Content)) (f : Files) → f.z ≡ None
    → locking_step x.outcome n i named f ≡ x.outcome n i named f
unfolding locking_step
free_step x n i named f free = rw free refl

locked_by : (o : Option Content) → IsSome o → is_none o ≡ false
locked_by None is = absurd (cc)
locked_by (Some c) is = refl

taken_step : (x : Changing) (n i : List ℕ) (named : List (Option Content)) (f : Files) → IsSome f.z
    → locking_step x.outcome n i named f ≡ Err refusals.Locked
unfolding locking_step
taken_step x n i named f taken = rw (locked_by f.z taken) refl

-- ---- what was told and what is told

-- what the call answers and leaves, where a view is told
abbrev pub Steps : Changing → Result (Unit {0}) StepFault → List ℕ → Option (List ℕ) → World → World → Type 0
Steps x r n left a d = IfSome a.view (λ v. (i : List ℕ) → IsHeard x.takes left i
    → Meets (λ done. 0) r n (locking_step x.outcome n i (map v (x.named n)) (look v n)) a d)

same_unmade : (n : List ℕ) (new : Option Files) (text : List ℕ) (v : View) (od : Option View)
    (out err : Option (List ℕ)) → od ≡ Some v → Uncommitted n new text (world (Some v) out err) (world od out err)
same_unmade n new text v od out err is = record {
  view = (false, subst (λ (o : Option View). Moves (is_working n) (λ u. u) (Some v) o) (sym is) (λ k h. refl));
  cleared = subst (λ (o : Option View). AreCleared n (Some v) o) (sym is) (λ k h. inr refl);
  out = some_none out text;
  err = refl;
}

pub locked_steps : (x : Changing) (n : List ℕ) (left : Option (List ℕ)) (oa od : Option View)
    (out err : Option (List ℕ)) → od ≡ oa → IfSome oa (λ (v : View). IsSome (v (z_file n)))
    → Steps x (Err (Refused refusals.Locked)) n left (world oa out err) (world od out err)
locked_steps x n left None od out err same taken = tt
locked_steps x n left (Some v) od out err same taken = λ i heard.
    (taken_step x n i (map v (x.named n)) (look v n) taken, same_unmade n None [] v od out err same)

pub memory_steps : (x : Changing) (n : List ℕ) (left : Option (List ℕ)) (oa od : Option View)
    (out err : Option (List ℕ)) → od ≡ oa → Steps x (Err Memory) n left (world oa out err) (world od out err)
memory_steps x n left None od out err same = tt
memory_steps x n left (Some v) od out err same = λ i heard. same_unmade n _ _ v od out err same

pub failed_steps : (x : Changing) (n : List ℕ) (left : Option (List ℕ)) (oa od : Option View)
    (out err : Option (List ℕ)) → Moves (bytes_eq (z_file n)) (λ v. v) oa od
    → Steps x (Err DiskFault) n left (world oa out err) (world od out err)
failed_steps x n left None od out err moves = tt
failed_steps x n left (Some v) None out err moves = absurd moves
failed_steps x n left (Some v) (Some w) out err moves = λ i heard.
    record { view = (0, λ k h. moves k (no_z n k h)); out = some_none out _; err = refl }

-- ---- the l-file, where it is new already

-- it is none that the lock makes
early_unlocked : (first : Bool) (n : List ℕ) (new : Option Files) (v : View) (k : List ℕ)
    → bytes_eq (z_file n) k ≡ false → early_moved first (locked n v) n new k ≡ early_moved first v n new k
early_unlocked false n new v k other = put_other v (z_file n) k (Some empty_file) other
early_unlocked true n None v k other = put_other v (z_file n) k (Some empty_file) other
early_unlocked true n (Some f) v k other = ap (λ (o : Option Content). cond (bytes_eq (l_file n) k) f.l o)
    (put_other v (z_file n) k (Some empty_file) other)

early_z : (first : Bool) (n : List ℕ) (new : Option Files) (v : View) → early_moved first v n new (z_file n) ≡ v
    (z_file n)
early_z false n new v = refl
early_z true n None v = refl
early_z true n (Some f) v = put_other v (l_file n) (z_file n) f.l refl

-- other files are as they were
pub early_off : (first : Bool) (n : List ℕ) (new : Option Files) (v : View) (k : List ℕ) → bytes_eq (l_file n) k ≡ false
    → early_moved first v n new k ≡ v k
early_off false n new v k off = refl
early_off true n None v k off = refl
early_off true n (Some f) v k off = put_other v (l_file n) k f.l off

in_order : (first : Bool) (n : List ℕ) (new : Option Files) (a b : Option View)
    → Moves (is_left n) (λ u. early_moved first u n new) a b → MovesInOrder n new a b
in_order false n new a b moves = (0, moves)
in_order true n new a b moves = (1, moves)

-- a change by which it isn't new early
pub as_early : (early : Bool) (q : Result Prepared StepFault) (n : List ℕ) (o : Outcome) (w w2 : World)
    → PreparesBy early q n o w w2 → PreparesEarly q n o w w2
as_early true q n o w w2 prepares = prepares
as_early false (Ok p) n o w w2 prepares = (false, prepares)
as_early false (Err (Refused refusal)) n o w w2 prepares = prepares
as_early false (Err Memory) n o w w2 prepares = (false, record { view = prepares.view; out = prepares.out })
as_early false (Err ReadFault) n o w w2 prepares = (false, record { view = prepares.view; out = prepares.out })
as_early false (Err WriteFault) n o w w2 prepares = (false, record { view = prepares.view; out = prepares.out })
as_early false (Err DiskFault) n o w w2 prepares = (false, record { view = prepares.view; out = prepares.out })

-- ---- giving up

-- the views before the lock, after preparing and at the end: only working files have changed
kept_at : (first : Bool) (n : List ℕ) (new : Option Files) (v u : View) → v (z_file n) ≡ None
    → ((k : List ℕ) → is_working n k ≡ false → u k ≡ early_moved first (locked n v) n new k) → (k : List ℕ)
    → is_working n k ≡ false
    → abandoned n u k ≡ early_moved first v n new k
kept_at first n new v u free prepared k h = by (name_cases (z_file n) k)
  where
    cleared_at : (k : List ℕ) → is_working n k ≡ false → cleared n u k ≡ u k
    cleared_at k h =
        put_other (without_name (q_file n) (without_name (x_file n) u)) (y_file n) k None (no_y n k h)
        ∙ (put_other (without_name (x_file n) u) (q_file n) k None (no_q n k h) ∙ put_other u (x_file n) k None
        (no_x n k h))

    by : (z_file n ≡ k) ⊎ (bytes_eq (z_file n) k ≡ false) → abandoned n u k ≡ early_moved first v n new k
    by (inl is) = subst (λ m. abandoned n u m ≡ early_moved first v n new m) is (put_same (cleared n u) (z_file n) None
        ∙ (sym free ∙ sym (early_z first n new v)))
    by (inr other) = put_other (cleared n u) (z_file n) k None other
        ∙ (cleared_at k h ∙ (prepared k h ∙ early_unlocked first n new v k other))

gone_by : (x q y z : Bool) (o : Option Content) → (x || (q || y)) ≡ true
    → cond z None (cond y None (cond q None (cond x None o))) ≡ None
gone_by x q y true o is = refl
gone_by x q true false o is = refl
gone_by x true false false o is = refl
gone_by true false false false o is = refl
gone_by false false false false o is = cc

gone_at : (n : List ℕ) (u : View) (k : List ℕ) → is_working n k ≡ true → abandoned n u k ≡ None
gone_at n u k h = gone_by (bytes_eq (x_file n) k) (bytes_eq (q_file n) k) (bytes_eq (y_file n) k)
    (bytes_eq (z_file n) k) (u k) h

-- nothing is committed, and working files are gone
pub given_up : (first : Bool) (n : List ℕ) (new : Option Files) (text : List ℕ) (v : View) (ob2 od : Option View)
    (out out2 err : Option (List ℕ)) → v (z_file n) ≡ None → Moves (is_working n) (λ u. early_moved first u n new)
    (Some (locked n v)) ob2
    → Becomes (abandoned n) ob2 od → GivesSome out out2 text → Uncommitted n new text (world (Some v) out err)
    (world od out2 err)
given_up first n new text v None od out out2 err free moves gone gives = absurd moves
given_up first n new text v (Some u) od out out2 err free moves gone gives = record {
  view = (
    first,
    subst (λ (o : Option View). Moves (is_working n) (λ w. early_moved first w n new) (Some v) o)
        (sym gone) (kept_at first n new v u free moves),
  );
  cleared = subst (λ (o : Option View). AreCleared n (Some v) o) (sym gone) (λ k h. inl (gone_at n u k h));
  out = gives;
  err = refl;
}

left_alone : (first : Bool) (n : List ℕ) (new : Option Files) (v : View) (ob2 od : Option View)
    → Moves (is_working n) (λ u. early_moved first u n new) (Some (locked n v)) ob2 → Moves (is_left n) (λ u. u) ob2 od
    → Moves (is_left n) (λ u. early_moved first u n new) (Some v) od
left_alone first n new v None od moves broken = absurd moves
left_alone first n new v (Some u) None moves broken = absurd broken
left_alone first n new v (Some u) (Some w) moves broken = λ k h. broken k h ∙ (moves k (no_working n k h)
    ∙ early_unlocked first n new v k (no_z n k h))

pub broken_off : (first : Bool) (n : List ℕ) (o : Outcome) (v : View) (ob2 od : Option View)
    (out out2 err : Option (List ℕ)) → Moves (is_working n) (λ u. early_moved first u n (effect_of n o).new)
    (Some (locked n v)) ob2 → Moves (is_left n) (λ u. u) ob2 od
    → GivesSome out out2 (effect_of n o).text → Interrupted n o (world (Some v) out err) (world od out2 err)
broken_off first n o v ob2 od out out2 err moves broken gives =
    record {
      view = in_order first n (effect_of n o).new (Some v) od (left_alone first n (effect_of n o).new v ob2 od
          moves broken);
      out = gives;
      err = refl;
    }

pub gone_left : (n : List ℕ) (ob2 od : Option View) → Becomes (abandoned n) ob2 od → Moves (is_left n) (λ u. u) ob2 od
gone_left n None od is = is
gone_left n (Some u) od is = subst (λ (o : Option View). Moves (is_left n) (λ w. w) (Some u) o) (sym is) (λ k h.
    put_other (cleared n u) (z_file n) k None (no_z n k h)
    ∙ (put_other (without_name (q_file n) (without_name (x_file n) u)) (y_file n) k None (no_y n k (no_working n k h))
    ∙ (put_other (without_name (x_file n) u) (q_file n) k None (no_q n k (no_working n k h))
    ∙ put_other u (x_file n) k None (no_x n k (no_working n k h)))))

-- how it ends whose preparing failed so
gave_up : (fault : StepFault) (n : List ℕ) (o : Outcome) (v : View) (ob2 od : Option View)
    (out out2 err : Option (List ℕ)) → v (z_file n) ≡ None → PreparesEarly (Err fault) n o
    (world (Some (locked n v)) out err) (world ob2 out2 err) → Becomes (abandoned n) ob2 od
    → Fails fault n o (world (Some v) out err) (world od out2 err)
gave_up (Refused refusal) n o v ob2 od out out2 err free prepares gone =
    (prepares.0, given_up false n None [] v ob2 od out out2 err free prepares.1.view gone prepares.1.out)
gave_up Memory n o v ob2 od out out2 err free prepares gone = given_up prepares.0 n _ _ v ob2 od out out2 err free
    prepares.1.view gone prepares.1.out
gave_up ReadFault n o v ob2 od out out2 err free prepares gone = given_up prepares.0 n _ _ v ob2 od out out2 err free
    prepares.1.view gone prepares.1.out
gave_up WriteFault n o v ob2 od out out2 err free prepares gone =
    inl (given_up prepares.0 n _ _ v ob2 od out out2 err free prepares.1.view gone prepares.1.out)
gave_up DiskFault n o v ob2 od out out2 err free prepares gone = broken_off prepares.0 n o v ob2 od out out2 err
    prepares.1.view (gone_left n ob2 od gone) prepares.1.out

pub unmade_of : (fault : StepFault) (n : List ℕ) (o : Outcome) (w w2 : World) → PreparesEarly (Err fault) n o w w2
    → (first : Bool) × IsUnmadeBy first n (effect_of n o).new (effect_of n o).text w w2
unmade_of (Refused refusal) n o w w2 prepares =
    (false, record { view = prepares.1.view; out = some_longer w.out w2.out [] (effect_of n o).text prepares.1.out })
unmade_of Memory n o w w2 prepares = prepares
unmade_of ReadFault n o w w2 prepares = prepares
unmade_of WriteFault n o w w2 prepares = prepares
unmade_of DiskFault n o w w2 prepares = prepares

ends_given_up : (fault : StepFault) (r : Result (Unit {0}) StepFault) (n : List ℕ) (o : Outcome) (v : View)
    (ob2 od : Option View) (out out2 err : Option (List ℕ)) → v (z_file n) ≡ None → PreparesEarly (Err fault) n o
    (world (Some (locked n v)) out err) (world ob2 out2 err)
    → GivesUp r fault n (world ob2 out2 err) (world od out2 err) → Meets (λ (done : Unit {0}). 0) r n o
    (world (Some v) out err) (world od out2 err)
ends_given_up fault r n o v ob2 od out out2 err free prepares (inl gone) =
    subst (λ (s : Result (Unit {0}) StepFault). Meets (λ (done : Unit {0}). 0) s n o (world (Some v) out err)
    (world od out2 err)) (sym gone.0) (gave_up fault n o v ob2 od out out2 err free prepares gone.1)
ends_given_up fault r n o v ob2 od out out2 err free prepares (inr broken) =
    let unmade = unmade_of fault n o (world (Some (locked n v)) out err) (world ob2 out2 err) prepares in
    subst (λ (s : Result (Unit {0}) StepFault). Meets (λ (done : Unit {0}). 0) s n o (world (Some v) out err)
    (world od out2 err)) (sym broken.0) (broken_off unmade.0 n o v ob2 od out out2 err unmade.1.view broken.1
    unmade.1.out)

-- ---- a commit

moved_as : (v : View) (n : List ℕ) (new : Option Files) (f : Files) → new ≡ Some f → moved v n new ≡ placed v n f
moved_as v n new f is = ap (λ (o : Option Files). moved v n o) is

-- the views before the lock, at the commit and at the end
pub committed_moves : (first : Bool) (n : List ℕ) (c : Plan) (new : Option Files) (v : View) (ob2 od : Option View)
    → IsSFileName n → v (z_file n) ≡ None → Moves (is_working n) (λ u. early_moved first u n new)
    (Some (locked n v)) ob2 → IfSome ob2 (λ u. new ≡ Some (files_after n c u)) → Becomes (committed n c) ob2 od
    → Moves (is_working n) (λ u. moved u n new) (Some v) od
committed_moves first n c new v None od sfile free moves files done = absurd moves
committed_moves first n c new v (Some u) od sfile free moves files done =
    subst (λ (o : Option View). Moves (is_working n) (λ w. moved w n new) (Some v) o) (sym done) (λ k h.
    committed_at n c u v k sfile h (λ off other. moves k h ∙ (early_unlocked first n new v k other
    ∙ early_off first n new v k off)) ∙ sym (ap (λ (w : View). w k) (moved_as v n new (files_after n c u) files)))

-- the view after some of a commit's changes, as that after some first files
part_first : (i : ℕ) (n : List ℕ) (c : Plan) (u v : View) (k : List ℕ) → IsSFileName n → is_left n k ≡ false
    → (bytes_eq (l_file n) k ≡ false → u k ≡ v k) → part_of n c i u k ≡ first_moved (suc i) v n
    (Some (files_after n c u)) k
part_first zero n c u v k sfile h same = l_taken n u v k same
part_first (suc zero) n c u v k sfile h same = first_is n c u k (no_working n k h)
    ∙ ap (λ (o : Option Content). cond (bytes_eq n k) (files_after n c u).s o) (l_taken n u v k same)
part_first (suc (suc zero)) n c u v k sfile h same =
    second_is n c u k sfile (no_working n k h) ∙ ap (λ (o : Option Content). cond (bytes_eq (p_file n) k)
    (files_after n c u).p (cond (bytes_eq n k) (files_after n c u).s o)) (l_taken n u v k same)
part_first (suc (suc (suc zero))) n c u v k sfile h same =
    sym (put_other (g_swapped n c (p_swapped n c (s_swapped n c u))) (z_file n) k None (no_z n k h))
    ∙ committed_at n c u v k sfile (no_working n k h) (λ off other. same off)
part_first (suc (suc (suc (suc i)))) n c u v k sfile h same = committed_at n c u v k sfile (no_working n k h)
    (λ off other. same off)

part_moves : (first : Bool) (n : List ℕ) (c : Plan) (new : Option Files) (v : View) (ob2 od : Option View)
    → IsSFileName n → Moves (is_working n) (λ u. early_moved first u n new) (Some (locked n v)) ob2
    → IfSome ob2 (λ u. new ≡ Some (files_after n c u)) → IsPart n c ob2 od
    → MovesInOrder n new (Some v) od
part_moves first n c new v None od sfile moves files part = absurd moves
part_moves first n c new v (Some u) od sfile moves files part = (
  suc part.0,
  subst (λ (o : Option View). Moves (is_left n) (λ w. first_moved (suc part.0) w n new) (Some v) o) (sym part.1) (λ k h.
      part_first part.0 n c u v k sfile h (λ off. moves k (no_working n k h)
      ∙ (early_unlocked first n new v k (no_z n k h) ∙ early_off first n new v k off))
      ∙ sym (ap (λ (f : Option Files). first_moved (suc part.0) v n f k) files)),
)

text_gives : (a b c : Option (List ℕ)) (text out report : List ℕ) → GivesOk a b text → GivesOk b c report → out ≡ report
    → GivesOk a c (text ++ out)
text_gives a b c text out report first second is = subst (λ r. GivesOk a c (text ++ r)) (sym is)
    (gives_both a b c text report first second)

text_cut : (a b c : Option (List ℕ)) (text out report : List ℕ) → GivesOk a b text → GivesSome b c report → out ≡ report
    → GivesSome a c (text ++ out)
text_cut a b c text out report first second is = subst (λ r. GivesSome a c (text ++ r)) (sym is)
    (gives_then a b c text report first second)

-- the report of a commit was cut
pub cut_finished : (first : Bool) (n : List ℕ) (p : Prepared) (o : Outcome) (v : View) (ob2 od : Option View)
    (out out2 out3 err err3 : Option (List ℕ)) → IsSFileName n → v (z_file n) ≡ None → IsPreparedBy first n p o
    (world (Some (locked n v)) out err) (world ob2 out2 err)
    → FinishesCommit (Err WriteFault) n p (world ob2 out2 err) (world od out3 err3) → (d : StepEffect) × (o ≡ Ok d)
    × ReportCut n d (world (Some v) out err) (world od out3 err3)
cut_finished first n p o v ob2 od out out2 out3 err err3 sfile free prepared finishes = (
  prepared.effect,
  prepared.is,
  record {
    status = prepared.status;
    view = committed_moves first n (plan_of p) prepared.effect.new v ob2 od sfile free prepared.view prepared.files
        finishes.0;
    cleared = committed_clears n (plan_of p) (λ u. early_moved first u n prepared.effect.new) v ob2 od sfile
        prepared.view prepared.working finishes.0;
    out = text_cut out out2 out3 prepared.effect.text prepared.effect.out p.report prepared.out finishes.1.out
        prepared.report;
    err = subst (λ m. GivesSome err err3 m) (sym prepared.message) finishes.1.err;
  },
)

-- how it ends whose files were prepared
pub ends_finished : (first : Bool) (r : Result (Unit {0}) StepFault) (n : List ℕ) (p : Prepared) (o : Outcome)
    (v : View) (ob2 od : Option View) (out out2 out3 err err3 : Option (List ℕ)) → IsSFileName n → v (z_file n) ≡ None
    → IsPreparedBy first n p o (world (Some (locked n v)) out err) (world ob2 out2 err)
    → FinishesCommit r n p (world ob2 out2 err) (world od out3 err3) → Meets (λ (done : Unit {0}). 0) r n o
    (world (Some v) out err) (world od out3 err3)
ends_finished first (Ok done) n p o v ob2 od out out2 out3 err err3 sfile free prepared finishes = (
  prepared.effect,
  prepared.is,
  prepared.status,
  record {
    view = committed_moves first n (plan_of p) prepared.effect.new v ob2 od sfile free prepared.view prepared.files
        finishes.0;
    cleared = committed_clears n (plan_of p) (λ u. early_moved first u n prepared.effect.new) v ob2 od sfile
        prepared.view prepared.working finishes.0;
    out = text_gives out out2 out3 prepared.effect.text prepared.effect.out p.report prepared.out finishes.1.out
        prepared.report;
    err = subst (λ m. GivesOk err err3 m) (sym prepared.message) finishes.1.err;
  },
)
ends_finished first (Err WriteFault) n p o v ob2 od out out2 out3 err err3 sfile free prepared finishes =
    inr (cut_finished first n p o v ob2 od out out2 out3 err err3 sfile free prepared finishes)
ends_finished first (Err DiskFault) n p o v ob2 od out out2 out3 err err3 sfile free prepared finishes =
    subst (λ (q : Outcome). Interrupted n q (world (Some v) out err) (world od out3 err3)) (sym prepared.is) (record {
      view = part_moves first n (plan_of p) prepared.effect.new v ob2 od sfile prepared.view prepared.files finishes.0;
      out = some_of_whole out out3 prepared.effect.text (subst (λ t. GivesOk out t prepared.effect.text)
          (sym finishes.1) prepared.out);
      err = finishes.2;
    })
ends_finished first (Err (Refused refusal)) n p o v ob2 od out out2 out3 err err3 sfile free prepared finishes =
    absurd finishes
ends_finished first (Err Memory) n p o v ob2 od out out2 out3 err err3 sfile free prepared finishes = absurd finishes
ends_finished first (Err ReadFault) n p o v ob2 od out out2 out3 err err3 sfile free prepared finishes = absurd finishes

-- ---- the whole call

-- a part of the call behind the lock, as the step sees it
behind_lock : (x : Changing) (r : Result (Unit {0}) StepFault) (q : Result Prepared StepFault) (n : List ℕ)
    (left : Option (List ℕ)) (oa ob ob2 od : Option View) (out out2 out3 err err3 : Option (List ℕ))
    → Becomes (locked n) oa ob → IfSome oa (λ (v : View). v (z_file n) ≡ None)
    → PreparesChange x q n left (world ob out err) (world ob2 out2 err)
    → ((v : View) (o : Outcome) → v (z_file n) ≡ None → PreparesEarly q n o (world (Some (locked n v)) out err)
    (world ob2 out2 err) → Meets (λ (done : Unit {0}). 0) r n o (world (Some v) out err) (world od out3 err3))
    → Steps x r n left (world oa out err) (world od out3 err3)
behind_lock x r q n left None ob ob2 od out out2 out3 err err3 lock free prepares ends = tt
behind_lock x r q n left (Some v) ob ob2 od out out2 out3 err err3 lock free prepares ends = λ i heard.
    let here = subst (λ (o : Option View). PreparesChange x q n left (world o out err) (world ob2 out2 err)) lock
    prepares i heard in
    let seen_so : PreparesBy x.early q n (x.outcome n i (map v (x.named n)) (look v n))
    (world (Some (locked n v)) out err) (world ob2 out2 err) =
    subst (λ (u : View). PreparesBy x.early q n (x.outcome n i (map u (x.named n)) (look u n))
    (world (Some (locked n v)) out err) (world ob2 out2 err)) (before_lock n v free) here in
    subst (λ (o : Outcome). Meets (λ (done : Unit {0}). 0) r n o (world (Some v) out err) (world od out3 err3))
    (sym (free_step x n i (map v (x.named n)) (look v n) free))
    (ends v (x.outcome n i (map v (x.named n)) (look v n)) free
    (as_early x.early q n (x.outcome n i (map v (x.named n)) (look v n)) (world (Some (locked n v)) out err)
    (world ob2 out2 err) seen_so))

pub given_up_steps : (x : Changing) (fault : StepFault) (r : Result (Unit {0}) StepFault)
    (q : Result Prepared StepFault) (n : List ℕ) (left : Option (List ℕ)) (oa ob ob2 od : Option View)
    (out out2 err : Option (List ℕ)) → q ≡ Err fault → Becomes (locked n) oa ob
    → IfSome oa (λ (v : View). v (z_file n) ≡ None)
    → PreparesChange x q n left (world ob out err) (world ob2 out2 err) → GivesUp r fault n (world ob2 out2 err)
    (world od out2 err) → Steps x r n left (world oa out err) (world od out2 err)
given_up_steps x fault r q n left oa ob ob2 od out out2 err is lock free prepares gives_up =
    behind_lock x r (Err fault) n left oa ob ob2 od out out2 out2 err err lock free
    (subst (λ (p : Result Prepared StepFault). PreparesChange x p n left (world ob out err) (world ob2 out2 err)) is
    prepares)
    (λ v o unheld prep. ends_given_up fault r n o v ob2 od out out2 err unheld prep gives_up)

pub finished_steps : (x : Changing) (p : Prepared) (r : Result (Unit {0}) StepFault) (q : Result Prepared StepFault)
    (n : List ℕ) (left : Option (List ℕ)) (oa ob ob2 od : Option View) (out out2 out3 err err3 : Option (List ℕ))
    → IsSFileName n → q ≡ Ok p → Becomes (locked n) oa ob → IfSome oa (λ (v : View). v (z_file n) ≡ None)
    → PreparesChange x q n left (world ob out err) (world ob2 out2 err) → FinishesCommit r n p (world ob2 out2 err)
    (world od out3 err3) → Steps x r n left (world oa out err) (world od out3 err3)
finished_steps x p r q n left oa ob ob2 od out out2 out3 err err3 sfile is lock free prepares finishes =
    behind_lock x r (Ok p) n left oa ob ob2 od out out2 out3 err err3 lock free
    (subst (λ (s : Result Prepared StepFault). PreparesChange x s n left (world ob out err) (world ob2 out2 err)) is
    prepares)
    (λ v o unheld prep. ends_finished prep.0 r n p o v ob2 od out out2 out3 err err3 sfile unheld prep.1 finishes)
