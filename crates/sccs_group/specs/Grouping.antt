-- What a commit of a group needs, and what a stop in it leaves.
use Rattle.std.specs.Prelude.{◌≡◌, ◌⊎◌, ℕ, List, None, Some, true, IsSome}
use Rattle.std.specs.List.{AllByRecursion}
use Rattle.sccs_base.specs.Name.{p_file, q_file, x_file, z_file}
use Rattle.sccs_disk.specs.Effects.{renamed}
use Rattle.sccs_disk.specs.Files.{Content, Model, View, put, view_of}
use Rattle.sccs_disk.specs.Images.{Allows, IsFirm}
use Rattle.sccs_disk.specs.Told.{Told, Tells}
use Rattle.sccs_name_files.specs.Touches.{Each, newest}
use Rattle.sccs_intents.specs.Intents.{intent_file, plan_file}
use Rattle.sccs_intents.specs.Written.{intent_text}
use Rattle.sccs_intents.specs.declared.intents.Fate.{Fate}
use Rattle.sccs_intents.specs.declared.intents.Fate.TheVariants.{Replaced, Removed}
use Rattle.sccs_crash_points.specs.Calm.{HasFirm, IsCalm}
use Rattle.sccs_crash_points.specs.CrashPoints.{IsFrom, Went}
use Rattle.sccs_crash_points.specs.Recovery.{IsSettledPair, Pair, RecoversAs, fated, newer}
use Rattle.sccs_group.specs.Finishing.{CanFinish, IsHeld}
use Rattle.sccs_group.specs.Members.{IsPlainG, entries_of}
use Rattle.sccs_group.specs.declared.members.Member.{Member}

-- a file of these bytes
abbrev pub file_of : List ℕ → Content
file_of bytes = record { bytes = bytes; writable = true }

-- the plan is written: the text of the intent, under its own name
abbrev pub planned : List Member → View → View
planned members v = put v plan_file (Some (file_of (intent_text (entries_of members))))

-- the plan has become the intent
abbrev pub announced : List Member → View → View
announced members v = renamed plan_file intent_file (planned members v)

-- the s-file and the p-file that a member is to have
abbrev pub new_pair_of : Member → View → Pair
new_pair_of mem v = record {
  s = newer (v (x_file mem.entry.name)) (v mem.entry.name);
  p = fated mem.entry.fate (v (q_file mem.entry.name)) (v (p_file mem.entry.name));
}

-- where the p-file is replaced
abbrev pub OnReplaced : Fate → Type 0 → Type 0
OnReplaced Replaced P = P
OnReplaced Removed P = Unit {0}

-- What a commit needs of the files of a member, on a disk that tells its model.
pub record CanPlace (m : Model) (mem : Member) : Type 0 where
  -- the prepared files are firm, and the z-file is there
  pub x_state : IsFirm (x_file mem.entry.name) m
  pub q_state : OnReplaced mem.entry.fate (IsFirm (q_file mem.entry.name) m)
  pub held : IsSome (view_of m (z_file mem.entry.name))
  pub plain : IsPlainG mem
  -- recovery leaves the new pair as it is
  pub settled : IsSettledPair (new_pair_of mem (view_of m))

abbrev pub CanPlaceAll : List Member → Model → Type 0
CanPlaceAll members m = AllByRecursion (CanPlace m) members

-- What a commit needs of a disk that tells its model: no intent is there, and each member is prepared.
pub record CanGroup (members : List Member) (m : Model) : Type 0 where
  pub firm : HasFirm m
  pub none : view_of m intent_file ≡ None
  pub each : CanPlaceAll members m

-- a folder that recovers as w, or as one that a stop could leave at the start, while j is 0
abbrev pub IsGrouped : Model → View → ℕ → View → Type 0
IsGrouped m w j u = RecoversAs w u ⊎ ((j ≡ 0) × IsFrom m u)

-- at each moment the z-file of each name of an intent is there in whatever a stop leaves, where it was at the start
abbrev pub StayHeld : List Model → Model → Type 0
StayHeld added m = Allows IsHeld m → Each (Allows IsHeld) added m

-- Each image of each moment recovers as one from before the commit, or as the view with the intent; the group may be
-- finished.
abbrev pub GroupStops : List Member → Told → Told → Type 0
GroupStops members old new = (m : Model) (past : List Model) → old ≡ Tells m past → CanGroup members m
    → (went : Went (IsGrouped m (announced members (view_of m))) m past 0 new) × CanFinish (newest went.added m)
    × StayHeld went.added m

-- At the end each image recovers as the view with the intent, and the disk is calm.
abbrev pub GroupEnds : List Member → Told → Told → Type 0
GroupEnds members old new = (m : Model) (past : List Model) → old ≡ Tells m past → CanGroup members m
    → (went : Went (IsGrouped m (announced members (view_of m))) m past 1 new) × IsCalm (newest went.added m)
    × StayHeld went.added m

-- ---- behind the plan

-- What is needed to make the plan the intent: besides, it is written and firm.
pub record CanAnnounce (members : List Member) (m : Model) : Type 0 where
  pub group : CanGroup members m
  pub plan : view_of m plan_file ≡ Some (file_of (intent_text (entries_of members)))
  pub plan_state : IsFirm plan_file m

abbrev pub AnnounceStops : List Member → Told → Told → Type 0
AnnounceStops members old new = (m : Model) (past : List Model) → old ≡ Tells m past → CanAnnounce members m
    → (went : Went (IsGrouped m (renamed plan_file intent_file (view_of m))) m past 0 new)
    × CanFinish (newest went.added m) × StayHeld went.added m

abbrev pub AnnounceEnds : List Member → Told → Told → Type 0
AnnounceEnds members old new = (m : Model) (past : List Model) → old ≡ Tells m past → CanAnnounce members m
    → (went : Went (IsGrouped m (renamed plan_file intent_file (view_of m))) m past 1 new)
    × IsCalm (newest went.added m) × StayHeld went.added m
