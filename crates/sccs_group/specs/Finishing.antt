-- What finishing a group says that was stopped anywhere behind its intent.
use Rattle.std.specs.Prelude.{◌≡◌, ◌⊎◌, ℕ, List, ◌∷◌, None, Some, IsSome}
use Rattle.std.specs.List.{AllByRecursion}
use Rattle.sccs_base.specs.Name.{IsSFileName, p_file, q_file, x_file}
use Rattle.sccs_disk.specs.Effects.{pended}
use Rattle.sccs_disk.specs.Files.{Model, Op, View, view_of}
use Rattle.sccs_disk.specs.Images.{Allows, Full, Image}
use Rattle.sccs_disk.specs.Told.{Told, Tells}
use Rattle.sccs_name_files.specs.Touches.{Each, earlier, newest}
use Rattle.sccs_crash_points.specs.Calm.{HasFirm, IsCalm}
use Rattle.sccs_crash_points.specs.CrashPoints.{Guarded, IsFrom}
use Rattle.sccs_intents.specs.declared.intents.Fate.{Fate}
use Rattle.sccs_intents.specs.declared.intents.Fate.TheVariants.{Replaced, Removed}
use Rattle.sccs_crash_points.specs.Recovery.{IsSettledPair, IsSound, RecoversAs, fate_at, pair_of, recover, IsHeldAt}
use Rattle.sccs_group.specs.Members.{AreNamed}
use Rattle.sccs_group.specs.declared.members.Member.{Member}

-- so it is of each name
abbrev pub IsHeld : View → Type 0
IsHeld v = (n : List ℕ) → IsSFileName n → IsHeldAt n v

-- recovery leaves the new pair of each name of the intent as it is
abbrev pub IsSettled : View → Type 0
IsSettled v = (n : List ℕ) → IsSFileName n → IsSome (fate_at v n) → IsSettledPair (pair_of (recover n v) n)

-- What finishing needs of the files of a disk that tells its model.
pub record CanFinish (m : Model) : Type 0 where
  pub firm : HasFirm m
  pub held : IsHeld (view_of m)
  pub settled : IsSettled (view_of m)

-- Each image of m2 recovers as an image of m; and as one with all operations made, where all of m2's are made.
pub record Follows (m m2 : Model) : Type 0 where
  pub images : Allows (IsFrom m) m2
  pub fulls : (w : View) → Full m2 w → (u : View) × Full m u × RecoversAs u w
  -- the z-file of a name of an intent stays there in whatever a stop leaves
  pub held : (n : List ℕ) → IsSFileName n → Allows (IsHeldAt n) m → Allows (IsHeldAt n) m2

-- The story went on from a model, each moment follows it, and it may be finished still.
pub record Finishes (m : Model) (past : List Model) (new : Told) : Type 0 where
  pub added : List Model
  pub is : new ≡ Tells (newest added m) (earlier added m past)
  pub each : Each (Follows m) added m
  pub guarded : Guarded added m
  pub can : CanFinish (newest added m)

-- so it is where finishing may begin and P holds of the view
abbrev pub FinishesBy : (View → Type 0) → Told → Told → Type 0
FinishesBy P old new = (m : Model) (past : List Model) → old ≡ Tells m past → CanFinish m → P (view_of m)
    → Finishes m past new

-- It was finished whole: the disk is calm, and each image recovers as one of the start with all operations made.
pub record Completes (m : Model) (past : List Model) (new : Told) : Type 0 where
  pub run : Finishes m past new
  pub calm : IsCalm (newest run.added m)
  pub all : (w : View) → Image (newest run.added m) w → (u : View) × Full m u × RecoversAs u w

abbrev pub CompletesBy : (View → Type 0) → Told → Told → Type 0
CompletesBy P old new = (m : Model) (past : List Model) → old ≡ Tells m past → CanFinish m → P (view_of m)
    → Completes m past new

-- of any view
abbrev pub Always : View → Type 0
Always v = Unit {0}

-- ---- a group that is closed

-- the new files of a name are gone, or the p-file is
abbrev pub TakenBy : Fate → List ℕ → View → Type 0
TakenBy Replaced n v = (v (x_file n) ≡ None) × (v (q_file n) ≡ None)
TakenBy Removed n v = (v (x_file n) ≡ None) × (v (p_file n) ≡ None)

-- so it is of each name of the intent: the new files are in their places
abbrev pub IsTaken : View → Type 0
IsTaken v = (n : List ℕ) → IsSFileName n → (fate : Fate) → fate_at v n ≡ Some fate → TakenBy fate n v

-- the intent is gone, and recovery leaves the pair of each member as it is
abbrev pub AreUnlocked : List Member → View → Type 0
AreUnlocked members v = AllByRecursion (λ (mem : Member). IsSound mem.entry.name v) members

-- The new files are in their places; members are named.
pub record CanClose (members : List Member) (v : View) : Type 0 where
  pub taken : IsTaken v
  pub named : AreNamed members v

-- ---- one call

-- a name operation is made where a file is there, or nothing changes
abbrev pub MayCall : Op → List ℕ → Told → Told → Type 0
MayCall op k old new =
    (m : Model) (past : List Model) → old ≡ Tells m past → (new ≡ old)
    ⊎ (IsSome (view_of m k) × (new ≡ Tells (pended op m) (m ∷ past)))
