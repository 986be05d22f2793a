-- The members of a group, and what becomes of their files.
use Rattle.std.specs.Prelude.{◌≡◌, ℕ, Bool, true, false, List, [], ◌∷◌, map, drop, Some, is_some, if◌then◌else◌}
use Rattle.std.specs.List.{AllByRecursion}
use Rattle.sccs_base.specs.Name.{p_file, q_file, x_file, y_file, z_file}
use Rattle.sccs_disk.specs.Effects.{renamed}
use Rattle.sccs_disk.specs.Files.{View}
use Rattle.sccs_intents.specs.Intents.{AreOthers, entries_in, intent_file}
use Rattle.sccs_intents.specs.Written.{IsIntent}
use Rattle.sccs_intents.specs.declared.intents.IntentEntry.{IntentEntry}
use Rattle.sccs_intents.specs.declared.intents.Fate.{Fate}
use Rattle.sccs_intents.specs.declared.intents.Fate.TheVariants.{Replaced, Removed}
use Rattle.sccs_crash_points.specs.Recovery.{fate_at, is_kept, without_name}
use Rattle.sccs_group.specs.declared.members.Member.{Member}

-- their entries in the intent
abbrev pub entries_of : List Member → List IntentEntry
entries_of members = map (λ (mem : Member). mem.entry) members

-- The names are those of s-files, and differ.
abbrev pub AreMembers : List Member → Type 0
AreMembers members = AreOthers (entries_of members)

-- their entries are those of an intent
abbrev pub IsWritten : List Member → Type 0
IsWritten members = IsIntent (entries_of members)

-- ---- their files in their places

-- a file that is there takes the place of another
abbrev pub taken : List ℕ → List ℕ → View → View
taken from to v = if is_some (v from) then renamed from to v else v

-- the new p-file takes the place of the old one, or that goes
abbrev pub p_taken : Fate → List ℕ → View → View
p_taken Replaced n v = taken (q_file n) (p_file n) v
p_taken Removed n v = without_name (p_file n) v

-- the g-file goes, or stays
abbrev pub g_gone : Bool → List ℕ → View → View
g_gone true n v = without_name (drop 2 n) v
g_gone false n v = v

-- the new files of a member are in their places, and the y-file is gone
abbrev pub placed : Member → View → View
placed mem v =
    g_gone mem.removes_g mem.entry.name
    (without_name (y_file mem.entry.name) (p_taken mem.entry.fate mem.entry.name
    (taken (x_file mem.entry.name) mem.entry.name v)))

-- the z-file is gone
abbrev pub unlocked : Member → View → View
unlocked mem v = without_name (z_file mem.entry.name) v

-- one member after the other
abbrev pub each_by : (Member → View → View) → List Member → View → View
each_by f [] v = v
each_by f (mem ∷ members) v = each_by f members (f mem v)

-- the intent is gone, and each z-file
abbrev pub closed : List Member → View → View
closed members v = each_by unlocked members (without_name intent_file v)

-- the group is completed
abbrev pub completed : List Member → View → View
completed members v = closed members (each_by placed members v)

-- ---- what the intent says of them

-- the g-file's name, where that goes, is none at which recovery of a name looks
abbrev pub IsPlainG : Member → Type 0
IsPlainG mem = mem.removes_g ≡ true → is_kept (drop 2 mem.entry.name) ≡ false

-- The intent of a view names the member.
pub record IsNamed (v : View) (mem : Member) : Type 0 where
  pub fate : fate_at v mem.entry.name ≡ Some mem.entry.fate
  pub plain : IsPlainG mem

abbrev pub AreNamed : List Member → View → Type 0
AreNamed members v = AllByRecursion (IsNamed v) members

-- The intent of a view names these members, and no other.
pub record HasGroup (members : List Member) (v : View) : Type 0 where
  pub entries : entries_in (v intent_file) ≡ entries_of members
  pub plain : AllByRecursion IsPlainG members
