-- The views after the steps of the members of a group, one after the other.
use Rattle.std.specs.Prelude.{◌≡◌, ℕ, Bool, false, List, [], ◌∷◌, drop, map, Option, None, Some, if◌then◌else◌}
use Rattle.sccs_base.specs.Name.{IsSFileName}
use Rattle.sccs_disk.specs.Files.{Content, View}
use Rattle.sccs_name_files.specs.StepFiles.{Files, is_left, l_file, moved}
use Rattle.sccs_pfile.specs.Recovered.{recovered_pfile}
use Rattle.sccs_crash_points.specs.Recovery.{is_kept}
use Rattle.sccs_group.specs.Grouping.{new_pair_of}
use Rattle.sccs_group.specs.declared.members.Member.{Member}

-- What the step of a member makes of its files.
pub record Change : Type 0 where
  pub member : Member
  pub files : Files

abbrev pub members_in : List Change → List Member
members_in changes = map (λ (d : Change). d.member) changes

-- the view after the steps
abbrev pub after_changes : List Change → View → View
after_changes [] v = v
after_changes (d ∷ changes) v = after_changes changes (moved v d.member.entry.name (Some d.files))

-- the g-file that a member is to have
abbrev pub new_g_of : Member → View → Option Content
new_g_of mem v = if mem.removes_g then None else v (drop 2 mem.entry.name)

-- The new s-file and p-file are those that are prepared in a view, and recovery leaves them; the g-file is none at
-- which it looks.
pub record IsPrepared (v : View) (d : Change) : Type 0 where
  pub sfile : IsSFileName d.member.entry.name
  pub plain : is_kept (drop 2 d.member.entry.name) ≡ false
  pub pair : new_pair_of d.member v ≡ record { s = d.files.s; p = d.files.p }
  pub settled : recovered_pfile d.files.s d.files.p ≡ d.files.p

-- The new files are those that are prepared in a view, but for files that are left out, among them what a step leaves
-- behind.
pub record IsReady (w : List ℕ → Bool) (v : View) (d : Change) : Type 0 where
  pub left : (k : List ℕ) → w k ≡ false → is_left d.member.entry.name k ≡ false
  pub prepared : IsPrepared v d
  pub g : w (drop 2 d.member.entry.name) ≡ false → d.files.g ≡ new_g_of d.member v

-- a step leaves the l-file as it is in the view before it, but for files that are left out
abbrev pub LFileStays : (List ℕ → Bool) → Change → View → Type 0
LFileStays w d u = w (l_file d.member.entry.name) ≡ false → d.files.l ≡ u (l_file d.member.entry.name)

-- each step does, in the view that those before it leave: an l-file may be the g-file of another member
abbrev pub LFilesStay : (List ℕ → Bool) → List Change → View → Type 0
LFilesStay w [] u = Unit {0}
LFilesStay w (d ∷ changes) u = LFileStays w d u × LFilesStay w changes (moved u d.member.entry.name (Some d.files))
