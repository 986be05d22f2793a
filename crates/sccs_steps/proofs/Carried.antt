-- Steps carry what a folder recovers as: views that are alike but for working files recover alike after a step too.
use Rattle.std.proofs.Common.{◌≡◌, ◌||◌, ℕ, Bool, true, false, List, drop, map, Option, None, Some, Ok, Err, is_some}
use Rattle.std.proofs.Common.{refl, sym, ap, subst, ◌∙◌, ⊎_elim, [], ◌∷◌}
use Rattle.std.specs.Prelude.{IsSome}
use Rattle.std.specs.Str.{bytes_eq}
use Rattle.sccs_base.specs.Name.{IsSFileName, p_file, q_file, x_file, z_file}
use Rattle.sccs_disk.specs.Files.{Content, View, put, Folder, view_in}
use Rattle.sccs_disk.proofs.Puts.{name_cases, put_other, put_same}
use Rattle.sccs_name_files.specs.StepFiles.{Alike, Files, is_early, l_file, look, moved, placed, moved_in}
use Rattle.sccs_intents.specs.Intents.{entries_in, fate_in, intent_file}
use Rattle.sccs_intents.specs.declared.intents.Fate.{Fate}
use Rattle.sccs_crash_points.specs.Recovery.{RecoversAs, fate_at, is_kept}
use Rattle.sccs_crash_points.specs.Unlocked.{SameOthers, is_own}
use Rattle.sccs_crash_points.proofs.FileNames.{kept_intent, kept_q, kept_x, left_q, left_x, no_l, no_z}
use Rattle.sccs_crash_points.proofs.FileNames.{sfile_and_intent, to_g, to_s, to_sfile}
use Rattle.sccs_crash_points.proofs.Recovering.{LooksAlike, fate_same, recovered_alike, recovered_at, recovered_same}
use Rattle.sccs_crash_points.proofs.Recovering.{recovered_under, recovers_from, recovers_to}
use Rattle.sccs_crash_points.proofs.Unlocked.{own_early, own_left, own_p, own_s, own_z}
use Rattle.sccs_steps.specs.Actions.{Action, KeepsFiles, LeavesLocked}
use Rattle.sccs_steps.specs.StepEffects.{Outcome, effect_of}
use Rattle.sccs_steps.specs.StepStops.{IsSafe, IsSafeFor}
use Rattle.sccs_steps.specs.ListStops.{Spares}
use Rattle.std.proofs.lemmas.Bool.{or_from}
use Rattle.sccs_base.proofs.Bools.{right_false, left_false}
use Rattle.sccs_steps.specs.StepLists.{Move, all_moved, all_moved_in}
use Rattle.sccs_name_files.proofs.Folders.{moved_view}

-- ---- the files of other names

no_s : (n k : List ℕ) → is_own n k ≡ false → bytes_eq n k ≡ false
no_s n k h = left_false (bytes_eq n k) (bytes_eq (p_file n) k || (bytes_eq (drop 2 n) k || is_early n k)) h

behind_s : (n k : List ℕ) → is_own n k ≡ false → (bytes_eq (p_file n) k || (bytes_eq (drop 2 n) k || is_early n k))
    ≡ false
behind_s n k h = right_false (bytes_eq n k) (bytes_eq (p_file n) k || (bytes_eq (drop 2 n) k || is_early n k)) h

no_p : (n k : List ℕ) → is_own n k ≡ false → bytes_eq (p_file n) k ≡ false
no_p n k h = left_false (bytes_eq (p_file n) k) (bytes_eq (drop 2 n) k || is_early n k) (behind_s n k h)

no_g : (n k : List ℕ) → is_own n k ≡ false → bytes_eq (drop 2 n) k ≡ false
no_g n k h = left_false (bytes_eq (drop 2 n) k) (is_early n k) (right_false (bytes_eq (p_file n) k)
    (bytes_eq (drop 2 n) k || is_early n k) (behind_s n k h))

placed_other : (n k : List ℕ) (v : View) (f : Files) → is_own n k ≡ false → placed v n f k ≡ v k
placed_other n k v f h =
    let l : View = put v (l_file n) f.l in
    let z : View = put l (z_file n) f.z in
    let g : View = put z (drop 2 n) f.g in
    put_other (put g (p_file n) f.p) n k f.s (no_s n k h)
    ∙ (put_other g (p_file n) k f.p (no_p n k h) ∙ (put_other z (drop 2 n) k f.g (no_g n k h)
    ∙ (put_other l (z_file n) k f.z (no_z n k (own_left n k h)) ∙ put_other v (l_file n) k f.l
    (no_l n k (own_early n k h)))))

-- a step leaves the files of other names
pub moved_others : (n : List ℕ) (v : View) (new : Option Files) → SameOthers (is_own n) v (moved v n new)
moved_others n v None k h = refl
moved_others n v (Some f) k h = placed_other n k v f h

own_x : (n k : List ℕ) → IsSFileName n → IsSFileName k → is_kept (drop 2 n) ≡ false → bytes_eq n k ≡ false
    → is_own n (x_file k) ≡ false
own_x n k sfile other plain apart =
    or_from (bytes_eq n (x_file k)) (bytes_eq (p_file n) (x_file k) || (bytes_eq (drop 2 n) (x_file k) || is_early n
    (x_file k))) (to_sfile 120 n k sfile refl)
    (or_from (bytes_eq (p_file n) (x_file k)) (bytes_eq (drop 2 n) (x_file k) || is_early n (x_file k)) refl
    (or_from (bytes_eq (drop 2 n) (x_file k)) (is_early n (x_file k)) (kept_x (drop 2 n) k plain other)
    (left_x n k sfile other apart)))

own_q : (n k : List ℕ) → IsSFileName n → IsSFileName k → is_kept (drop 2 n) ≡ false → bytes_eq n k ≡ false
    → is_own n (q_file k) ≡ false
own_q n k sfile other plain apart =
    or_from (bytes_eq n (q_file k)) (bytes_eq (p_file n) (q_file k) || (bytes_eq (drop 2 n) (q_file k) || is_early n
    (q_file k))) (to_sfile 113 n k sfile refl)
    (or_from (bytes_eq (p_file n) (q_file k)) (bytes_eq (drop 2 n) (q_file k) || is_early n (q_file k)) refl
    (or_from (bytes_eq (drop 2 n) (q_file k)) (is_early n (q_file k)) (kept_q (drop 2 n) k plain other)
    (left_q n k sfile other apart)))

own_intent : (n : List ℕ) → IsSFileName n → is_kept (drop 2 n) ≡ false → is_own n intent_file ≡ false
own_intent n sfile plain =
    or_from (bytes_eq n intent_file) (bytes_eq (p_file n) intent_file || (bytes_eq (drop 2 n) intent_file || is_early n
    intent_file)) (sfile_and_intent n sfile)
    (or_from (bytes_eq (p_file n) intent_file) (bytes_eq (drop 2 n) intent_file || is_early n intent_file) refl
    (or_from (bytes_eq (drop 2 n) intent_file) (is_early n intent_file) (kept_intent (drop 2 n) plain) refl))

-- the intent is among the files of other names
pub others_fate : (n k : List ℕ) (u v : View) → IsSFileName n → is_kept (drop 2 n) ≡ false → SameOthers (is_own n) u v
    → fate_at v k ≡ fate_at u k
others_fate n k u v sfile plain same = fate_same k u v (same intent_file (own_intent n sfile plain))

-- of another name recovery looks at the same files
pub others_look : (n k : List ℕ) (u v : View) → IsSFileName n → IsSFileName k → is_kept (drop 2 n) ≡ false
    → bytes_eq n k ≡ false → SameOthers (is_own n) u v → LooksAlike k u v
others_look n k u v sfile other plain apart same = record {
  fate = others_fate n k u v sfile plain same;
  s = same k (own_s n k other plain apart);
  p = same (p_file k) (own_p n k sfile other plain apart);
  z = ap is_some (same (z_file k) (own_z n k sfile other plain apart));
  x = λ named. same (x_file k) (own_x n k sfile other plain apart);
  q = λ named. same (q_file k) (own_q n k sfile other plain apart);
}

-- ---- the files of the step's name

pub moved_s : (n : List ℕ) (f : Files) (v : View) → moved v n (Some f) n ≡ f.s
moved_s n f v = put_same (put (put (put (put v (l_file n) f.l) (z_file n) f.z) (drop 2 n) f.g) (p_file n) f.p) n f.s

pub moved_p : (n : List ℕ) (f : Files) (v : View) → IsSFileName n → moved v n (Some f) (p_file n) ≡ f.p
moved_p n f v sfile = put_other (put (put (put (put v (l_file n) f.l) (z_file n) f.z) (drop 2 n) f.g) (p_file n) f.p) n
    (p_file n) f.s (to_s 112 n sfile refl) ∙ put_same (put (put (put v (l_file n) f.l) (z_file n) f.z) (drop 2 n) f.g)
    (p_file n) f.p

moved_z : (n : List ℕ) (f : Files) (v : View) → IsSFileName n → moved v n (Some f) (z_file n) ≡ f.z
moved_z n f v sfile =
    let l : View = put v (l_file n) f.l in
    let z : View = put l (z_file n) f.z in
    let g : View = put z (drop 2 n) f.g in
    put_other (put g (p_file n) f.p) n (z_file n) f.s (to_s 122 n sfile refl)
    ∙ (put_other g (p_file n) (z_file n) f.p refl ∙ (put_other z (drop 2 n) (z_file n) f.g (to_g 122 n sfile)
    ∙ put_same l (z_file n) f.z))

moved_new : (n k : List ℕ) (f : Files) (v : View) → bytes_eq n k ≡ false → bytes_eq (p_file n) k ≡ false
    → bytes_eq (drop 2 n) k ≡ false → bytes_eq (z_file n) k ≡ false → bytes_eq (l_file n) k ≡ false
    → moved v n (Some f) k ≡ v k
moved_new n k f v s p g z l =
    let d : View = put v (l_file n) f.l in
    let a : View = put d (z_file n) f.z in
    let b : View = put a (drop 2 n) f.g in
    put_other (put b (p_file n) f.p) n k f.s s ∙ (put_other b (p_file n) k f.p p ∙ (put_other a (drop 2 n) k f.g g
    ∙ (put_other d (z_file n) k f.z z ∙ put_other v (l_file n) k f.l l)))

-- a name whose files a step leaves looks as before
pending_looks : (n : List ℕ) (f : Files) (v : View) → IsSFileName n → is_kept (drop 2 n) ≡ false → f.s ≡ v n
    → f.p ≡ v (p_file n) → f.z ≡ v (z_file n) → LooksAlike n v (moved v n (Some f))
pending_looks n f v sfile plain s p z = record {
  fate = others_fate n n v (moved v n (Some f)) sfile plain (moved_others n v (Some f));
  s = moved_s n f v ∙ s;
  p = moved_p n f v sfile ∙ p;
  z = ap is_some (moved_z n f v sfile ∙ z);
  x = λ named. moved_new n (x_file n) f v (to_sfile 120 n n sfile refl) refl (kept_x (drop 2 n) n plain sfile) refl
      refl;
  q = λ named. moved_new n (q_file n) f v (to_sfile 113 n n sfile refl) refl (kept_q (drop 2 n) n plain sfile) refl
      refl;
}

-- ---- a step

-- u is the folder's view, and v the one that is told
own_by : (w : List ℕ → Bool) (n : List ℕ) (u v : View) (f : Files) (fate : Option Fate) → Spares w → IsSFileName n
    → is_kept (drop 2 n) ≡ false → Alike w v u → RecoversAs u v → (IsSome fate → LeavesLocked (look u n) f)
    → fate_at u n ≡ fate
    → recovered_at (moved v n (Some f)) n ≡ recovered_at (moved u n (Some f)) n
own_by w n u v f None spares sfile plain alike recovers locked is =
    recovered_under n (moved v n (Some f)) None (others_fate n n v (moved v n (Some f)) sfile plain
    (moved_others n v (Some f)) ∙ (fate_same n u v (alike intent_file spares.intent) ∙ is))
    ∙ (recovered_same _ _ _ _ _ _ (moved_s n f v ∙ sym (moved_s n f u)) (moved_p n f v sfile
    ∙ sym (moved_p n f u sfile)) (ap is_some (moved_z n f v sfile ∙ sym (moved_z n f u sfile)))
    ∙ sym (recovered_under n (moved u n (Some f)) None (others_fate n n u (moved u n (Some f)) sfile plain
    (moved_others n u (Some f)) ∙ is)))
own_by w n u v f (Some fate) spares sfile plain alike recovers locked is =
    let left : LeavesLocked (look u n) f = locked refl in
    recovered_alike n v (moved v n (Some f))
    (pending_looks n f v sfile plain (left.s ∙ sym (alike n (spares.s n sfile))) (left.p
    ∙ sym (alike (p_file n) (spares.p n sfile))) (left.z ∙ sym (alike (z_file n) (spares.z n sfile))))
    ∙ (recovers_to u v recovers n sfile
    ∙ sym (recovered_alike n u (moved u n (Some f)) (pending_looks n f u sfile plain left.s left.p left.z)))

other_by : (n k : List ℕ) (u v : View) (f : Files) → IsSFileName n → IsSFileName k → is_kept (drop 2 n) ≡ false
    → bytes_eq n k ≡ false → RecoversAs u v → recovered_at (moved v n (Some f)) k ≡ recovered_at (moved u n (Some f)) k
other_by n k u v f sfile other plain apart recovers =
    recovered_alike k v (moved v n (Some f)) (others_look n k v (moved v n (Some f)) sfile other plain apart
    (moved_others n v (Some f)))
    ∙ (recovers_to u v recovers k other
    ∙ sym (recovered_alike k u (moved u n (Some f)) (others_look n k u (moved u n (Some f)) sfile other plain apart
    (moved_others n u (Some f)))))

pub carried : (w : List ℕ → Bool) (n : List ℕ) (u v : View) (new : Option Files) → Spares w → IsSFileName n
    → is_kept (drop 2 n) ≡ false → Alike w v u → RecoversAs u v → (IsSome (fate_at u n) → (f : Files) → new ≡ Some f
    → LeavesLocked (look u n) f) → RecoversAs (moved u n new) (moved v n new)
carried w n u v None spares sfile plain alike recovers locked = recovers
carried w n u v (Some f) spares sfile plain alike recovers locked =
    recovers_from (moved u n (Some f)) (moved v n (Some f)) (λ k other. ⊎_elim
    (λ e. subst (λ l. recovered_at (moved v n (Some f)) l ≡ recovered_at (moved u n (Some f)) l) e
    (own_by w n u v f (fate_at u n) spares sfile plain alike recovers (λ named. locked named f refl) refl))
    (λ apart. other_by n k u v f sfile other plain apart recovers) (name_cases n k))

-- ---- the step of an action

-- a safe name that an intent names is locked
pub named_held : (n : List ℕ) (v : View) → IsSafe n v → IsSome (fate_at v n) → IsSome (v (z_file n))
named_held n v safe named = by (v (z_file n)) refl
  where
    by : (o : Option Content) → v (z_file n) ≡ o → IsSome o
    by None is = absurd (let none = (safe.sound is).unnamed in let e : false ≡ true = sym (ap is_some none) ∙ named in
        cc)
    by (Some c) is = refl

-- an intent that names a name is there
pub intent_there : (n : List ℕ) (v : View) → IsSome (fate_at v n) → IsSome (v intent_file)
intent_there n v named = by (v intent_file) named
  where
    by : (o : Option Content) → IsSome (fate_in (entries_in o) n) → IsSome o
    by None some = absurd cc
    by (Some c) some = refl

leaves_by : (x : Action) (n i : List ℕ) (v : View) (o : Outcome) (locks : Bool) → KeepsFiles x → IsSFileName n
    → x.reads ≡ false → x.locks ≡ locks → IsSafeFor x n v → x.step n i (map v (x.named n)) (look v n) ≡ o
    → IsSome (fate_at v n) → (f : Files) → (effect_of n o).new ≡ Some f → LeavesLocked (look v n) f
leaves_by x n i v (Err refusal) locks keeps sfile changes l may is named f new = absurd (cc)
leaves_by x n i v (Ok d) true keeps sfile changes l may is named f new = keeps.locked changes l n i (map v (x.named n))
    (look v n) d is (named_held n v (may changes) named) f new
leaves_by x n i v (Ok d) false keeps sfile changes l may is named f new =
    absurd (let none = keeps.pending changes l n i v (look v n) d (intent_there n v named) is in cc)

-- after the step of an action the view that is told recovers as the folder's
pub step_carried : (x : Action) (w : List ℕ → Bool) (n i : List ℕ) (u v : View) (o : Outcome) → KeepsFiles x
    → x.fits n ≡ true → Spares w → IsSafeFor x n u → (x.reads ≡ true → (effect_of n o).new ≡ None)
    → x.step n i (map u (x.named n)) (look u n) ≡ o → Alike w v u → RecoversAs u v
    → RecoversAs (moved u n (effect_of n o).new) (moved v n (effect_of n o).new)
step_carried x w n i u v o keeps fits spares may quiet is alike recovers = by x.reads refl
  where
    by : (b : Bool) → x.reads ≡ b → RecoversAs (moved u n (effect_of n o).new) (moved v n (effect_of n o).new)
    by true reads = subst (λ (f : Option Files). RecoversAs (moved u n f) (moved v n f)) (sym (quiet reads)) recovers
    by false changes =
        carried w n u v (effect_of n o).new spares (keeps.names changes n fits) (may changes).plain alike recovers
        (λ named f new. leaves_by x n i u o x.locks keeps (keeps.names changes n fits) changes refl may is named f new)

-- ---- views after moves

pub all_view : (m : Folder) (xs : List Move) → view_in (all_moved_in m xs) ≡ all_moved (view_in m) xs
all_view m [] = refl
all_view m (x ∷ xs) = all_view (moved_in m x.name x.new) xs ∙ ap (λ (v : View). all_moved v xs)
    (moved_view m x.name x.new)
