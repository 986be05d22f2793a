-- The crash points of a call: each has a number, which never falls, and what a stop may leave of it.
use Rattle.std.specs.Prelude.{◌≡◌, ◌⊎◌, ◌≤◌, ℕ, false, List, [], ◌∷◌, None, IsSome}
use Rattle.std.specs.Str.{bytes_eq}
use Rattle.sccs_base.specs.Name.{IsSFileName, sibling, z_file}
use Rattle.sccs_disk.specs.Files.{View, Model, view_of}
use Rattle.sccs_disk.specs.Images.{Allows, Image}
use Rattle.sccs_disk.specs.Told.{Told, Tells}
use Rattle.sccs_name_files.specs.Touches.{earlier, newest}
use Rattle.sccs_intents.specs.Intents.{intent_file}
use Rattle.sccs_crash_points.specs.Calm.{HasFirm, IsCalm, KeepsPairs}
use Rattle.sccs_crash_points.specs.Recovery.{RecoversAs, fate_at, pair_of, recover}

-- Each moment has a number, which never falls from one to the next: from low at the start to j now.
abbrev pub Numbered : (ℕ → Model → Type 0) → ℕ → List Model → Model → ℕ → Type 0
Numbered P low [] m j = (low ≤ j) × P j m
Numbered P low (a ∷ added) m j = P j a × ((i : ℕ) × (i ≤ j) × Numbered P low added m i)

-- where an s-file or its p-file differs, its z-file is in both views
abbrev pub Guards : View → View → Type 0
Guards v w = (n : List ℕ) → IsSFileName n → (pair_of w n ≡ pair_of v n)
    ⊎ (IsSome (v (z_file n)) × IsSome (w (z_file n)))

-- from each moment to the next no s-file or p-file changes whose z-file isn't there
abbrev pub Guarded : List Model → Model → Type 0
Guarded [] m = Unit {0}
Guarded (a ∷ added) m = Guards (view_of (newest added m)) (view_of a) × Guarded added m

-- The story went on from a model: P holds of each moment's number and each of its images, and the last number is j.
pub record Went (P : ℕ → View → Type 0) (m : Model) (past : List Model) (j : ℕ) (new : Told) : Type 0 where
  pub added : List Model
  pub is : new ≡ Tells (newest added m) (earlier added m past)
  pub numbers : Numbered (λ i m2. Allows (P i) m2) 0 added m j
  pub guarded : Guarded added m

-- a folder that recovers as w, or as v while j is 0
abbrev pub IsAt : View → View → ℕ → View → Type 0
IsAt v w j u = RecoversAs w u ⊎ ((j ≡ 0) × RecoversAs v u)

-- u has the intent of w, and recovers as w does
pub record RecoversWith (w u : View) : Type 0 where
  pub recovers : RecoversAs w u
  pub intent : u intent_file ≡ w intent_file

-- a folder that recovers as w, with its intent, or one that a stop could leave at the start, while j is 0
abbrev pub IsNew : Model → View → ℕ → View → Type 0
IsNew m w j u = RecoversWith w u ⊎ ((j ≡ 0) × Image m u)

-- the story went on, and each image of each moment has the s-files and p-files of a view, and recovers as it does
abbrev pub Stays : View → Model → List Model → Told → Type 0
Stays v m past new = Went (λ j w. KeepsPairs v w) m past 0 new

-- ---- where the call of a step from v to w ends that began on a calm disk

-- Before it: each image of each moment has the old s-files and p-files, and the disk is calm.
abbrev pub EndsBefore : View → Model → List Model → Told → Type 0
EndsBefore v m past new = (went : Stays v m past new) × IsCalm (newest went.added m)

-- Within it: each image of each moment recovers as before or as after it, and s-files and p-files are firm, so that
-- recovery may run.
abbrev pub EndsWithin : View → View → Model → List Model → Told → Type 0
EndsWithin v w m past new = (went : Went (IsAt v w) m past 0 new) × HasFirm (newest went.added m)

-- After it: the same of each moment; now each image recovers as after it, and the disk is calm.
abbrev pub EndsAfter : View → View → Model → List Model → Told → Type 0
EndsAfter v w m past new = (went : Went (IsAt v w) m past 1 new) × IsCalm (newest went.added m)

-- ---- recovery

-- w recovers as some folder that a stop leaves
abbrev pub IsFrom : Model → View → Type 0
IsFrom m w = (u : View) × Image m u × RecoversAs u w

-- an intent names no s-file
abbrev pub NamesNone : View → Type 0
NamesNone v = (n : List ℕ) → IsSFileName n → fate_at v n ≡ None

-- Recovery of names may begin: what it needs is firm, and a stop leaves no intent that names an s-file.
pub record CanRecover (m : Model) : Type 0 where
  pub firm : HasFirm m
  pub unnamed : Allows NamesNone m

-- where recovery may begin, a stop leaves a folder that recovers as one that a stop could leave at the start
abbrev pub RecoversOn : Told → Told → Type 0
RecoversOn old new =
    (m : Model) (past : List Model) → old ≡ Tells m past → CanRecover m → Went (λ j w. IsFrom m w) m past 0 new

-- The disk is calm, and no intent names the name.
pub record IsCalmAt (n : List ℕ) (m : Model) : Type 0 where
  pub calm : IsCalm m
  pub unnamed : fate_at (view_of m) n ≡ None

-- The disk is calm, and an intent names no s-file.
pub record IsCalmUnnamed (m : Model) : Type 0 where
  pub calm : IsCalm m
  pub unnamed : NamesNone (view_of m)

-- where recovery could begin, the disk is calm
abbrev pub LeavesCalm : Told → Told → Type 0
LeavesCalm old new =
    (m : Model) (past : List Model) → old ≡ Tells m past → CanRecover m
    → (m2 : Model) (past2 : List Model) → new ≡ Tells m2 past2 → IsCalmUnnamed m2

-- a calm disk stays calm
abbrev pub KeepsCalm : Told → Told → Type 0
KeepsCalm old new =
    (m : Model) (past : List Model) → old ≡ Tells m past → IsCalmUnnamed m
    → (m2 : Model) (past2 : List Model) → new ≡ Tells m2 past2 → IsCalmUnnamed m2

-- where recovery could begin, it may begin again
abbrev pub LeavesFirm : Told → Told → Type 0
LeavesFirm old new =
    (m : Model) (past : List Model) → old ≡ Tells m past → CanRecover m
    → (m2 : Model) (past2 : List Model) → new ≡ Tells m2 past2 → CanRecover m2

-- ---- name by name

-- the two views have the same intent, and the same files of every other name at which recovery looks
pub record SameElsewhere (n : List ℕ) (v w : View) : Type 0 where
  pub intent : w intent_file ≡ v intent_file
  pub s_files : (k : List ℕ) → IsSFileName k → bytes_eq n k ≡ false → w k ≡ v k
  pub siblings : (letter : ℕ) (k : List ℕ) → IsSFileName k → bytes_eq n k ≡ false → w (sibling letter k) ≡ v
      (sibling letter k)

-- The step's name recovers as in w, or as in v while j is 0, and every other name as in v.
pub record IsAtName (n : List ℕ) (v w : View) (j : ℕ) (u : View) : Type 0 where
  pub own : (pair_of (recover n u) n ≡ pair_of (recover n w) n)
      ⊎ ((j ≡ 0) × (pair_of (recover n u) n ≡ pair_of (recover n v) n))
  pub others : (k : List ℕ) → IsSFileName k → bytes_eq n k ≡ false → pair_of (recover k u) k ≡ pair_of (recover k v) k
