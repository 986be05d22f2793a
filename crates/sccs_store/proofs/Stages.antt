-- How far a commit has come, and what a stop leaves of it.
use Rattle.std.proofs.Common.{◌≡◌, ℕ, suc, List, [], ◌∷◌, drop, inl, inr, refl, sym, ap, subst, ◌∙◌, ⊎_elim, arith}
use Rattle.std.specs.Prelude.{IfSome, IsSome}
use Rattle.sccs_base.specs.Name.{IsSFileName, p_file, q_file, x_file, y_file, z_file}
use Rattle.sccs_disk.specs.Calls.{Done, Half, IsThere}
use Rattle.sccs_disk.specs.Effects.{pended, renamed, settled, syncing_names}
use Rattle.sccs_disk.specs.Files.{Model, Op, Rename, View, view_of}
use Rattle.sccs_disk.specs.Files as op
use Rattle.sccs_disk.specs.Images.{Allows, Full}
use Rattle.sccs_disk.specs.Told.{Told, Tells, seen}
use Rattle.sccs_name_files.specs.Touches.{earlier, newest}
use Rattle.sccs_name_files.proofs.Images.{image_pended, image_settled, view_full}
use Rattle.sccs_crash_points.specs.Calm.{HasFirm, IsCalm}
use Rattle.sccs_crash_points.specs.CrashPoints.{Guards, IsNew, RecoversWith, Went}
use Rattle.sccs_crash_points.specs.Recovery.{without_name}
use Rattle.sccs_crash_points.proofs.CalmDisks.{calm_settled, looks_firm}
use Rattle.sccs_crash_points.proofs.Full.{full_removed, full_renamed}
use Rattle.sccs_crash_points.proofs.Joined.{numbered_now, story_of}
use Rattle.sccs_crash_points.proofs.Recovering.{SameLooks}
use Rattle.sccs_store.specs.Commits.{Plan, committed, part_of, swapped}
use Rattle.sccs_store.specs.Stops.{CanCommit, CommitEnds, CommitStops, HalfSwaps, HalfUnlocks, Swaps, Unlocks}
use Rattle.sccs_store.specs.declared.new_files.NewFile.{NewFile}
use Rattle.sccs_store.specs.declared.new_files.NewFile.TheVariants.{Keep, Replace, Remove}
use Rattle.sccs_store.proofs.Parts.{first_new, guards_change, guards_last, later_new, same_looks}

-- The first i changes are made.
pub record Stage (n : List ℕ) (c : Plan) (m : Model) (past : List Model) (i : ℕ) (t : Told) : Type 0 where
  pub went : Went (IsNew m (committed n c (view_of m))) m past 0 t
  pub full : (w : View) → Full (newest went.added m) w → (u : View) × Full m u × (w ≡ part_of n c i u)

pub begins : (n : List ℕ) (c : Plan) (m : Model) (past : List Model) (t : Told) → t ≡ Tells m past
    → Stage n c m past 0 t
begins n c m past t is = record {
  went = record { added = []; is = is; numbers = (omega arith, λ w image. inr (refl, image)); guarded = tt };
  full = λ w full. (w, full, refl);
}

-- nothing was to be changed
kept : (n : List ℕ) (c : Plan) (m : Model) (past : List Model) (i : ℕ) (t t2 : Told) → Stage n c m past i t → t2 ≡ t
    → ((u : View) → part_of n c (suc i) u ≡ part_of n c i u) → Stage n c m past (suc i) t2
kept n c m past i t t2 stage same part = record {
  went = record {
    added = stage.went.added;
    is = same ∙ stage.went.is;
    numbers = stage.went.numbers;
    guarded =
        stage.went.guarded;
  };
  full = λ w full. let x : (u : View) × Full m u × (w ≡ part_of n c i u) = stage.full w full in
      (x.0, x.1, x.2 ∙ sym (part x.0));
}

again : (n : List ℕ) (c : Plan) (m : Model) (past : List Model) (i : ℕ) (t t2 : Told) → Stage n c m past i t → t2 ≡ t
    → Stage n c m past i t2
again n c m past i t t2 stage same = record {
  went = record {
    added = stage.went.added;
    is = same ∙ stage.went.is;
    numbers = stage.went.numbers;
    guarded =
        stage.went.guarded;
  };
  full = stage.full;
}

-- one name operation more
next : (n : List ℕ) (c : Plan) (m : Model) (past : List Model) (i : ℕ) (t t2 : Told) (call : Op)
    → (stage : Stage n c m past i t)
    → t2 ≡ Tells (pended call (newest stage.went.added m)) (newest stage.went.added m ∷ earlier stage.went.added m past)
    → ((w : View) → Full (pended call (newest stage.went.added m)) w → (u : View) × Full m u
    × (w ≡ part_of n c (suc i) u))
    → ((u : View) → Full m u → IsNew m (committed n c (view_of m)) 0 (part_of n c (suc i) u))
    → ((u u2 : View) → Full m u → Full m u2 → Guards (part_of n c i u) (part_of n c (suc i) u2))
    → Stage n c m past (suc i) t2
next n c m past i t t2 call stage is fulls new guards = record {
  went = record {
    added = pended call (newest stage.went.added m) ∷ stage.went.added;
    is = is ∙ ap (λ (p : List Model). Tells (pended call (newest stage.went.added m)) p)
        (story_of stage.went.added m past);
    numbers = (allowed, (0, omega arith, stage.went.numbers));
    guarded = (guarded, stage.went.guarded);
  };
  full = fulls;
}
  where
    allowed : Allows (IsNew m (committed n c (view_of m)) 0) (pended call (newest stage.went.added m))
    allowed w image =
        ⊎_elim (λ old. numbered_now (λ k m2. Allows (IsNew m (committed n c (view_of m)) k) m2) 0 stage.went.added m 0
        stage.went.numbers w old)
        (λ full. let x : (u : View) × Full m u × (w ≡ part_of n c (suc i) u) = fulls w full in
        subst (IsNew m (committed n c (view_of m)) 0) (sym x.2) (new x.0 x.1))
        (image_pended call (newest stage.went.added m) w image)

    guarded : Guards (view_of (newest stage.went.added m)) (view_of (pended call (newest stage.went.added m)))
    guarded =
        let x : (u : View) × Full m u × (view_of (newest stage.went.added m) ≡ part_of n c i u) =
        stage.full (view_of (newest stage.went.added m)) (view_full (newest stage.went.added m)) in
        let y : (u : View) × Full m u × (view_of (pended call (newest stage.went.added m)) ≡ part_of n c (suc i) u) =
        fulls (view_of (pended call (newest stage.went.added m)))
        (view_full (pended call (newest stage.went.added m))) in
        subst (λ (v : View). Guards v (view_of (pended call (newest stage.went.added m)))) (sym x.2)
        (subst (λ (v : View). Guards (part_of n c i x.0) v) (sym y.2) (guards x.0 y.0 x.1 y.1))

-- what is so of the next stage, whatever the call
pub record Further (n : List ℕ) (c : Plan) (m : Model) (i : ℕ) : Type 0 where
  pub new : (u : View) → Full m u → IsNew m (committed n c (view_of m)) 0 (part_of n c (suc i) u)
  pub guards : (u u2 : View) → Full m u → Full m u2 → Guards (part_of n c i u) (part_of n c (suc i) u2)

renamed_next : (n : List ℕ) (c : Plan) (m : Model) (past : List Model) (i : ℕ) (from to : List ℕ) (t t2 : Told)
    → (stage : Stage n c m past i t) → Further n c m i
    → ((u : View) → part_of n c (suc i) u ≡ renamed from to (part_of n c i u))
    → t2 ≡ Tells (pended (Rename from to) (newest stage.went.added m))
    (newest stage.went.added m ∷ earlier stage.went.added m past) → Stage n c m past (suc i) t2
renamed_next n c m past i from to t t2 stage further part is =
    next n c m past i t t2 (Rename from to) stage is
    (λ w full. let a : (u : View) × Full (newest stage.went.added m) u × (w ≡ renamed from to u) =
    full_renamed from to (newest stage.went.added m) w full in
    let b : (u : View) × Full m u × (a.0 ≡ part_of n c i u) = stage.full a.0 a.1 in
    (b.0, b.1, a.2 ∙ (ap (renamed from to) b.2 ∙ sym (part b.0))))
    further.new further.guards

removed_next : (n : List ℕ) (c : Plan) (m : Model) (past : List Model) (i : ℕ) (k : List ℕ) (t t2 : Told)
    → (stage : Stage n c m past i t) → Further n c m i
    → ((u : View) → part_of n c (suc i) u ≡ without_name k (part_of n c i u))
    → t2 ≡ Tells (pended (op.Remove k) (newest stage.went.added m))
    (newest stage.went.added m ∷ earlier stage.went.added m past) → Stage n c m past (suc i) t2
removed_next n c m past i k t t2 stage further part is =
    next n c m past i t t2 (op.Remove k) stage is
    (λ w full. let a : (u : View) × Full (newest stage.went.added m) u × (w ≡ without_name k u) =
    full_removed k (newest stage.went.added m) w full in
    let b : (u : View) × Full m u × (a.0 ≡ part_of n c i u) = stage.full a.0 a.1 in
    (b.0, b.1, a.2 ∙ (ap (without_name k) b.2 ∙ sym (part b.0))))
    further.new further.guards

-- a swap is made
pub swaps_next : (n : List ℕ) (c : Plan) (m : Model) (past : List Model) (i : ℕ) (new : NewFile) (from to : List ℕ)
    (t t2 : Told) → Stage n c m past i t → Further n c m i
    → ((u : View) → part_of n c (suc i) u ≡ swapped new from to (part_of n c i u)) → Swaps new from to t t2
    → Stage n c m past (suc i) t2
swaps_next n c m past i Keep from to t t2 stage further part same = kept n c m past i t t2 stage same part
swaps_next n c m past i Replace from to t t2 stage further part done =
    renamed_next n c m past i from to t t2 stage further part (done.model _ _ stage.went.is)
swaps_next n c m past i Remove from to t t2 stage further part done = removed_next n c m past i to t t2 stage further
    part (done.model _ _ stage.went.is)

-- a stage of the commit
abbrev pub AnyStage : List ℕ → Plan → Model → List Model → Told → Type 0
AnyStage n c m past t = (i : ℕ) × Stage n c m past i t

-- a swap failed
pub swaps_half : (n : List ℕ) (c : Plan) (m : Model) (past : List Model) (i : ℕ) (new : NewFile) (from to : List ℕ)
    (t t2 : Told) → Stage n c m past i t → Further n c m i
    → ((u : View) → part_of n c (suc i) u ≡ swapped new from to (part_of n c i u)) → HalfSwaps new from to t t2
    → AnyStage n c m past t2
swaps_half n c m past i Keep from to t t2 stage further part same = (i, again n c m past i t t2 stage same)
swaps_half n c m past i Replace from to t t2 stage further part half =
    ⊎_elim (λ same. (i, again n c m past i t t2 stage same))
    (λ made. (
      suc i,
      renamed_next n c m past i from to t t2 stage further part
          (subst (λ (x : Model). t2 ≡ Tells x (newest stage.went.added m ∷ earlier stage.went.added m past)) made.2
          made.1),
    ))
    (half.model _ _ stage.went.is)
swaps_half n c m past i Remove from to t t2 stage further part half =
    ⊎_elim (λ same. (i, again n c m past i t t2 stage same))
    (λ made. (
      suc i,
      removed_next n c m past i to t t2 stage further part
          (subst (λ (x : Model). t2 ≡ Tells x (newest stage.went.added m ∷ earlier stage.went.added m past)) made.2
          made.1),
    ))
    (half.model _ _ stage.went.is)

-- ---- the stages of one commit

-- the z-file is there in the view of a told model
model_there : (n : List ℕ) (m : Model) (past : List Model) (t : Told) → t ≡ Tells m past → IsThere (z_file n) t
    → IsSome (view_of m (z_file n))
model_there n m past t is there = subst (λ (x : Told). IfSome (seen x) (λ (v : View). IsSome (v (z_file n)))) is there

further_first : (n : List ℕ) (c : Plan) (m : Model) → IsSFileName n → CanCommit n c m → IsSome (view_of m (z_file n))
    → Further n c m 0
further_first n c m sfile can there = record {
  new = λ u full. first_new n c m u (view_of m) sfile can full (view_full m) there;
  guards = guards_change n c m sfile can there 0 (omega arith);
}

further_second : (n : List ℕ) (c : Plan) (m : Model) → IsSFileName n → CanCommit n c m → IsSome (view_of m (z_file n))
    → Further n c m 1
further_second n c m sfile can there = record {
  new = λ u full. inl (later_new n c m u (view_of m) sfile can full (view_full m) 0);
  guards = guards_change n c m sfile can there 1 (omega arith);
}

further_third : (n : List ℕ) (c : Plan) (m : Model) → IsSFileName n → CanCommit n c m → IsSome (view_of m (z_file n))
    → Further n c m 2
further_third n c m sfile can there = record {
  new = λ u full. inl (later_new n c m u (view_of m) sfile can full (view_full m) 1);
  guards = guards_change n c m sfile can there 2 (omega arith);
}

further_last : (n : List ℕ) (c : Plan) (m : Model) → IsSFileName n → CanCommit n c m → Further n c m 3
further_last n c m sfile can = record {
  new = λ u full. inl (later_new n c m u (view_of m) sfile can full (view_full m) 2);
  guards = guards_last n c m sfile can;
}

-- ---- where a commit ends

stage_firm : (n : List ℕ) (c : Plan) (m : Model) (past : List Model) (i : ℕ) (t : Told) → IsSFileName n
    → CanCommit n c m → (stage : Stage n c m past i t) → HasFirm (newest stage.went.added m)
stage_firm n c m past i t sfile can stage =
    looks_firm (newest stage.went.added m) (λ w full.
    let x : (u : View) × Full m u × (w ≡ part_of n c i u) = stage.full w full in
    let y : (u : View) × Full m u × (view_of (newest stage.went.added m) ≡ part_of n c i u) =
    stage.full (view_of (newest stage.went.added m)) (view_full (newest stage.went.added m)) in
    subst (λ (v : View). SameLooks v w) (sym y.2) (subst (λ (v : View). SameLooks (part_of n c i y.0) v) (sym x.2)
    (same_looks n c m x.0 y.0 sfile can x.1 y.1 i)))

-- what is said where it stops
abbrev pub Stopped : List ℕ → Plan → Model → List Model → Told → Type 0
Stopped n c m past t = (went : Went (IsNew m (committed n c (view_of m))) m past 0 t) × HasFirm (newest went.added m)

stopped : (n : List ℕ) (c : Plan) (m : Model) (past : List Model) (t : Told) → IsSFileName n → CanCommit n c m
    → AnyStage n c m past t → Stopped n c m past t
stopped n c m past t sfile can (i, stage) = (stage.went, stage_firm n c m past i t sfile can stage)

-- a whole commit, its names not synced
unsynced : (n : List ℕ) (c : Plan) (m : Model) (past : List Model) (t : Told) → IsSFileName n → CanCommit n c m
    → (stage : Stage n c m past 4 t) → (w : View) → Full (newest stage.went.added m) w
    → RecoversWith (committed n c (view_of m)) w
unsynced n c m past t sfile can stage w full =
    let x : (u : View) × Full m u × (w ≡ part_of n c 4 u) = stage.full w full in
    subst (λ (v : View). RecoversWith (committed n c (view_of m)) v) (sym x.2)
    (later_new n c m x.0 (view_of m) sfile can x.1 (view_full m) 2)

firm_settled : (m : Model) → HasFirm m → HasFirm (settled m)
firm_settled m firm = record {
  s_files = firm.s_files;
  p_files = firm.p_files;
  intent = firm.intent;
  x_files =
      firm.x_files;
  q_files = firm.q_files;
}

synced_half : (n : List ℕ) (c : Plan) (m : Model) (past : List Model) (t t2 : Told) → IsSFileName n → CanCommit n c m
    → Stage n c m past 4 t → Half syncing_names t t2 → Stopped n c m past t2
synced_half n c m past t t2 sfile can stage half =
    ⊎_elim (λ same. stopped n c m past t2 sfile can (4, again n c m past 4 t t2 stage same))
    (λ made. settled_now made.0 made.1 made.2) (half.model _ _ stage.went.is)
  where
    settled_now : (m2 : Model) → t2 ≡ Tells m2 (newest stage.went.added m ∷ earlier stage.went.added m past)
        → m2 ≡ settled (newest stage.went.added m) → Stopped n c m past t2
    settled_now m2 is settles = (
      record {
        added = settled (newest stage.went.added m) ∷ stage.went.added;
        is = is ∙ (ap (λ (x : Model). Tells x (newest stage.went.added m ∷ earlier stage.went.added m past)) settles
            ∙ ap (λ (p : List Model). Tells (settled (newest stage.went.added m)) p)
            (story_of stage.went.added m past));
        numbers = (
          λ w image. inl (unsynced n c m past t sfile can stage w
              (image_settled (newest stage.went.added m) w image)),
          (0, omega arith, stage.went.numbers),
        );
        guarded = (λ k other. inl refl, stage.went.guarded);
      },
      firm_settled (newest stage.went.added m) (stage_firm n c m past 4 t sfile can stage),
    )

-- what is said at its end
abbrev pub Ended : List ℕ → Plan → Model → List Model → Told → Type 0
Ended n c m past t = (went : Went (IsNew m (committed n c (view_of m))) m past 1 t) × IsCalm (newest went.added m)

ended : (n : List ℕ) (c : Plan) (m : Model) (past : List Model) (t t2 : Told) → IsSFileName n → CanCommit n c m
    → Stage n c m past 4 t → Done syncing_names t t2 → Ended n c m past t2
ended n c m past t t2 sfile can stage done = (
  record {
    added = settled (newest stage.went.added m) ∷ stage.went.added;
    is = done.model _ _ stage.went.is ∙ ap (λ (p : List Model). Tells (settled (newest stage.went.added m)) p)
        (story_of stage.went.added m past);
    numbers = (
      λ w image. inl (unsynced n c m past t sfile can stage w
          (image_settled (newest stage.went.added m) w image)),
      (0, omega arith, stage.went.numbers),
    );
    guarded = (λ k other. inl refl, stage.went.guarded);
  },
  calm_settled (newest stage.went.added m) (stage_firm n c m past 4 t sfile can stage),
)

-- ---- the exits of a commit

first_stage : (n : List ℕ) (c : Plan) (m : Model) (past : List Model) (t0 t1 : Told) → IsSFileName n → CanCommit n c m
    → IsThere (z_file n) t0 → t0 ≡ Tells m past → Swaps c.s (x_file n) n t0 t1 → Stage n c m past 1 t1
first_stage n c m past t0 t1 sfile can there is s =
    swaps_next n c m past 0 c.s (x_file n) n t0 t1 (begins n c m past t0 is) (further_first n c m sfile can
    (model_there n m past t0 is there)) (λ u. refl) s

second_stage : (n : List ℕ) (c : Plan) (m : Model) (past : List Model) (t0 t1 t2 : Told) → IsSFileName n
    → CanCommit n c m → IsThere (z_file n) t0 → t0 ≡ Tells m past
    → Swaps c.s (x_file n) n t0 t1 → Swaps c.p (q_file n) (p_file n) t1 t2 → Stage n c m past 2 t2
second_stage n c m past t0 t1 t2 sfile can there is s p =
    swaps_next n c m past 1 c.p (q_file n) (p_file n) t1 t2 (first_stage n c m past t0 t1 sfile can there is s)
    (further_second n c m sfile can (model_there n m past t0 is there)) (λ u. refl) p

third_stage : (n : List ℕ) (c : Plan) (m : Model) (past : List Model) (t0 t1 t2 t3 : Told) → IsSFileName n
    → CanCommit n c m → IsThere (z_file n) t0 → t0 ≡ Tells m past
    → Swaps c.s (x_file n) n t0 t1 → Swaps c.p (q_file n) (p_file n) t1 t2 → Swaps c.g (y_file n) (drop 2 n) t2 t3
    → Stage n c m past 3 t3
third_stage n c m past t0 t1 t2 t3 sfile can there is s p g =
    swaps_next n c m past 2 c.g (y_file n) (drop 2 n) t2 t3 (second_stage n c m past t0 t1 t2 sfile can there is s p)
    (further_third n c m sfile can (model_there n m past t0 is there)) (λ u. refl) g

pub first_stop : (n : List ℕ) (c : Plan) (t0 t1 : Told) → IsSFileName n → IsThere (z_file n) t0
    → HalfSwaps c.s (x_file n) n t0 t1 → CommitStops n c t0 t1
first_stop n c t0 t1 sfile there s = λ m past is can.
    stopped n c m past t1 sfile can (swaps_half n c m past 0 c.s (x_file n) n t0 t1 (begins n c m past t0 is)
    (further_first n c m sfile can (model_there n m past t0 is there)) (λ u. refl) s)

pub second_stop : (n : List ℕ) (c : Plan) (t0 t1 t2 : Told) → IsSFileName n → IsThere (z_file n) t0
    → Swaps c.s (x_file n) n t0 t1 → HalfSwaps c.p (q_file n) (p_file n) t1 t2 → CommitStops n c t0 t2
second_stop n c t0 t1 t2 sfile there s p = λ m past is can.
    stopped n c m past t2 sfile can
    (swaps_half n c m past 1 c.p (q_file n) (p_file n) t1 t2 (first_stage n c m past t0 t1 sfile can there is s)
    (further_second n c m sfile can (model_there n m past t0 is there)) (λ u. refl) p)

pub third_stop : (n : List ℕ) (c : Plan) (t0 t1 t2 t3 : Told) → IsSFileName n → IsThere (z_file n) t0
    → Swaps c.s (x_file n) n t0 t1 → Swaps c.p (q_file n) (p_file n) t1 t2
    → HalfSwaps c.g (y_file n) (drop 2 n) t2 t3 → CommitStops n c t0 t3
third_stop n c t0 t1 t2 t3 sfile there s p g = λ m past is can.
    stopped n c m past t3 sfile can
    (swaps_half n c m past 2 c.g (y_file n) (drop 2 n) t2 t3 (second_stage n c m past t0 t1 t2 sfile can there is s p)
    (further_third n c m sfile can (model_there n m past t0 is there)) (λ u. refl) g)

pub last_stop : (n : List ℕ) (c : Plan) (t0 t1 t2 t3 t4 : Told) → IsSFileName n → IsThere (z_file n) t0
    → Swaps c.s (x_file n) n t0 t1 → Swaps c.p (q_file n) (p_file n) t1 t2
    → Swaps c.g (y_file n) (drop 2 n) t2 t3 → HalfUnlocks (z_file n) t3 t4 → CommitStops n c t0 t4
last_stop n c t0 t1 t2 t3 t4 sfile there s p g (inl half) = λ m past is can.
    stopped n c m past t4 sfile can (swaps_half n c m past 3 Remove (z_file n) (z_file n) t3 t4
    (third_stage n c m past t0 t1 t2 t3 sfile can there is s p g) (further_last n c m sfile can) (λ u. refl) half)
last_stop n c t0 t1 t2 t3 t4 sfile there s p g (inr (mid, z, half)) = λ m past is can.
    synced_half n c m past mid t4 sfile can (swaps_next n c m past 3 Remove (z_file n) (z_file n) t3 mid
    (third_stage n c m past t0 t1 t2 t3 sfile can there is s p g) (further_last n c m sfile can) (λ u. refl) z) half

pub commit_ends : (n : List ℕ) (c : Plan) (t0 t1 t2 t3 t4 : Told) → IsSFileName n → IsThere (z_file n) t0
    → Swaps c.s (x_file n) n t0 t1 → Swaps c.p (q_file n) (p_file n) t1 t2
    → Swaps c.g (y_file n) (drop 2 n) t2 t3 → Unlocks (z_file n) t3 t4 → CommitEnds n c t0 t4
commit_ends n c t0 t1 t2 t3 t4 sfile there s p g (mid, z, synced) = λ m past is can.
    ended n c m past mid t4 sfile can (swaps_next n c m past 3 Remove (z_file n) (z_file n) t3 mid
    (third_stage n c m past t0 t1 t2 t3 sfile can there is s p g) (further_last n c m sfile can) (λ u. refl) z)
    synced
