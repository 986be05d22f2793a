-- A whole step: what is prepared under its lock, and the commit.
use Rattle.std.proofs.Common.{◌≡◌, ℕ, List, None, inl, inr, refl, sym, subst, ◌∙◌, ⊎_elim}
use Rattle.sccs_base.specs.Name.{IsSFileName, q_file, x_file}
use Rattle.sccs_disk.specs.Files.{Model, View, view_of}
use Rattle.sccs_disk.specs.Images.{Allows, IsFirm}
use Rattle.sccs_disk.specs.Told.{Told, Tells}
use Rattle.sccs_disk.proofs.Puts.{name_cases}
use Rattle.sccs_name_files.specs.StepFiles.{is_early}
use Rattle.sccs_intents.specs.Intents.{intent_file}
use Rattle.sccs_name_files.specs.Touches.{Leaves, earlier, newest}
use Rattle.sccs_name_files.proofs.Touched.{each_newest, newest_more}
use Rattle.sccs_crash_points.specs.Calm.{HasFirm, IsCalm, KeepsPairs}
use Rattle.sccs_crash_points.specs.CrashPoints.{EndsAfter, EndsBefore, EndsWithin, IsAt, IsNew, Stays, Went}
use Rattle.sccs_crash_points.specs.Recovery.{IsSound, RecoversAs, fate_at}
use Rattle.sccs_crash_points.specs.Unlocked.{KeepsOthers, KeptOthers, LeavesOthers}
use Rattle.sccs_crash_points.proofs.CalmDisks.{calm_firm, firms_left}
use Rattle.sccs_crash_points.proofs.FileNames.{early_s, left_q, left_x}
use Rattle.sccs_crash_points.proofs.Joined.{numbered_as, numbered_now, went_then}
use Rattle.sccs_crash_points.proofs.Recovering.{fate_same, recovers_then}
use Rattle.sccs_crash_points.proofs.Untouched.{calm_stayed, none_named, none_replaced, stays_left, view_left, went_at}
use Rattle.sccs_store.specs.Commits.{Plan, committed}
use Rattle.sccs_store.specs.Stops.{CanCommit, CommitEnds, CommitStops, HasPrepared, IsPlainPlan, OnReplace}
use Rattle.sccs_store.specs.declared.new_files.NewFile.{NewFile}
use Rattle.sccs_store.specs.declared.new_files.NewFile.TheVariants.{Keep, Replace, Remove}

-- ---- up to the commit

-- a step that has changed at most what it changes before its commit ends before it
pub ends_before : (n : List ℕ) (a b : Told) (m : Model) (past : List Model) → IsSFileName n → a ≡ Tells m past
    → IsCalm m → IsSound n (view_of m) → KeepsOthers (is_early n) a b → EndsBefore (view_of m) m past b
ends_before n a b m past sfile is calm sound others = (
  stays_left n m past b sfile calm sound (others m past is),
  calm_stayed (view_of m) m past b
      (stays_left n m past b sfile calm sound (others m past is)),
)

-- ---- the commit

firm_where : (new : NewFile) (k : List ℕ) (a b : Told) (m m1 : Model) (past past1 : List Model) → a ≡ Tells m past
    → b ≡ Tells m1 past1 → OnReplace new (Leaves (IsFirm k) a b) → OnReplace new (IsFirm k m1)
firm_where Keep k a b m m1 past past1 is is1 firm = tt
firm_where Replace k a b m m1 past past1 is is1 firm = firm m past is m1 past1 is1
firm_where Remove k a b m m1 past past1 is is1 firm = tt

-- what the commit needs
can_commit : (n : List ℕ) (c : Plan) (a b : Told) (m : Model) (past : List Model) → IsSFileName n → a ≡ Tells m past
    → IsCalm m → IsSound n (view_of m) → (run : KeptOthers (is_early n) m past b) → IsPlainPlan n c
    → HasPrepared n c a b → CanCommit n c (newest run.added m)
can_commit n c a b m past sfile is calm sound run plain prepared = record {
  firm = firms_left (is_early n) m (newest run.added m) (λ k other. early_s n k other) (λ k other. refl) refl
      (λ k other named. ⊎_elim
      (λ e. absurd (none_named (fate_at (view_of m) k) (subst (λ l. fate_at (view_of m) l ≡ None) e sound.unnamed)
      named)) (λ apart. left_x n k sfile other apart) (name_cases n k))
      (λ k other named. ⊎_elim (λ e. absurd (none_replaced (fate_at (view_of m) k)
      (subst (λ l. fate_at (view_of m) l ≡ None) e sound.unnamed) named)) (λ apart. left_q n k sfile other apart)
      (name_cases n k))
      (each_newest (LeavesOthers (is_early n) m) run.added m run.each).files (calm_firm m calm);
  x_state = firm_where c.s (x_file n) a b m (newest run.added m) past (earlier run.added m past) is run.is
      prepared.x_state;
  q_state = firm_where c.p (q_file n) a b m (newest run.added m) past (earlier run.added m past) is run.is
      prepared.q_state;
  plain = plain;
  entries = prepared.entries m past is (newest run.added m) (earlier run.added m past) run.is;
  unnamed =
      fate_same n (view_of m) (view_of (newest run.added m))
      (view_left (is_early n) m (newest run.added m) intent_file (each_newest (LeavesOthers (is_early n) m) run.added m
      run.each) refl)
      ∙ sound.unnamed;
}

-- an image of the commit is at the old view or at the new one
at_new : (v w : View) (m1 : Model) (w1 : View) (i : ℕ) (u : View) → Allows (KeepsPairs v) m1 → RecoversAs w w1
    → IsNew m1 w1 i u → IsAt v w i u
at_new v w m1 w1 i u keeps same (inl new) = inl (recovers_then w w1 u same new.recovers)
at_new v w m1 w1 i u keeps same (inr old) = inr (old.0, (keeps u old.1).recovers)

abbrev as_step : (v w : View) (m1 : Model) (w1 : View) (past1 : List Model) (j : ℕ) (t : Told)
    → Allows (KeepsPairs v) m1 → RecoversAs w w1 → Went (IsNew m1 w1) m1 past1 j t → Went (IsAt v w) m1 past1 j t
as_step v w m1 w1 past1 j t keeps same went = record {
  added = went.added;
  is = went.is;
  numbers = numbered_as (λ i m2. Allows (IsNew m1 w1 i) m2) (λ i m2. Allows (IsAt v w i) m2) 0 went.added m1 j
      (λ i low m2 new u image. at_new v w m1 w1 i u keeps same (new u image)) went.numbers;
  guarded = went.guarded;
}

abbrev whole_run : (v w : View) (m : Model) (past : List Model) (j : ℕ) (b d : Told) (w1 : View)
    → (stays : Stays v m past b) → RecoversAs w w1 → Went (IsNew (newest stays.added m) w1) (newest stays.added m)
    (earlier stays.added m past) j d → Went (IsAt v w) m past j d
whole_run v w m past j b d w1 stays same went =
    went_then (IsAt v w) m past j b d
    (record {
      added = stays.added;
      is = stays.is;
      numbers = (went_at v w m past b stays).numbers;
      guarded =
          stays.guarded;
    })
    (as_step v w (newest stays.added m) w1 (earlier stays.added m past) j d
    (numbered_now (λ i m2. Allows (KeepsPairs v) m2) 0 stays.added m 0 stays.numbers) same went)

-- the commit was made
pub ends_after : (n : List ℕ) (c : Plan) (a b d : Told) (m : Model) (past : List Model) (w : View) → IsSFileName n
    → a ≡ Tells m past → IsCalm m → IsSound n (view_of m) → IsPlainPlan n c → HasPrepared n c a b
    → ((m1 : Model) (past1 : List Model) → b ≡ Tells m1 past1 → RecoversAs w (committed n c (view_of m1)))
    → CommitEnds n c b d → EndsAfter (view_of m) w m past d
ends_after n c a b d m past w sfile is calm sound plain prepared same commit =
    let stays : Stays (view_of m) m past b = stays_left n m past b sfile calm sound (prepared.others m past is) in
    after stays (can_commit n c a b m past sfile is calm sound
    (record { added = stays.added; is = stays.is; each = (prepared.others m past is).each }) plain prepared)
  where
    after : (stays : Stays (view_of m) m past b) → CanCommit n c (newest stays.added m)
        → EndsAfter (view_of m) w m past d
    after stays can =
        let end : (went : Went (IsNew (newest stays.added m) (committed n c (view_of (newest stays.added m))))
        (newest stays.added m) (earlier stays.added m past) 1 d) × IsCalm (newest went.added (newest stays.added m))
        = commit (newest stays.added m) (earlier stays.added m past) stays.is can in (
          whole_run (view_of m) w m past 1 b d (committed n c (view_of (newest stays.added m))) stays
              (same (newest stays.added m) (earlier stays.added m past) stays.is) end.0,
          subst IsCalm
              (sym (newest_more end.0.added stays.added m)) end.1,
        )

-- the commit was stopped, or failed
pub ends_within : (n : List ℕ) (c : Plan) (a b d : Told) (m : Model) (past : List Model) (w : View) → IsSFileName n
    → a ≡ Tells m past → IsCalm m → IsSound n (view_of m) → IsPlainPlan n c → HasPrepared n c a b
    → ((m1 : Model) (past1 : List Model) → b ≡ Tells m1 past1 → RecoversAs w (committed n c (view_of m1)))
    → CommitStops n c b d → EndsWithin (view_of m) w m past d
ends_within n c a b d m past w sfile is calm sound plain prepared same commit =
    let stays : Stays (view_of m) m past b = stays_left n m past b sfile calm sound (prepared.others m past is) in
    within stays (can_commit n c a b m past sfile is calm sound
    (record { added = stays.added; is = stays.is; each = (prepared.others m past is).each }) plain prepared)
  where
    within : (stays : Stays (view_of m) m past b) → CanCommit n c (newest stays.added m)
        → EndsWithin (view_of m) w m past d
    within stays can =
        let end : (went : Went (IsNew (newest stays.added m) (committed n c (view_of (newest stays.added m))))
        (newest stays.added m) (earlier stays.added m past) 0 d)
        × HasFirm (newest went.added (newest stays.added m))
        = commit (newest stays.added m) (earlier stays.added m past) stays.is can in (
          whole_run (view_of m) w m past 0 b d (committed n c (view_of (newest stays.added m))) stays
              (same (newest stays.added m) (earlier stays.added m past) stays.is) end.0,
          subst HasFirm
              (sym (newest_more end.0.added stays.added m)) end.1,
        )
