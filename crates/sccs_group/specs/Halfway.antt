-- Which files a group changes, and how far its new files have come where the disk failed.
use Rattle.std.specs.Prelude.{◌≡◌, ◌||◌, ◌&&◌, ℕ, zero, suc, Bool, false, List, [], ◌∷◌, drop, Option, None}
use Rattle.std.specs.List.{AllByRecursion}
use Rattle.std.specs.Str.{bytes_eq}
use Rattle.sccs_base.specs.Name.{p_file, x_file, y_file, z_file}
use Rattle.sccs_disk.specs.Files.{View}
use Rattle.sccs_name_files.specs.StepFiles.{Moves, is_left}
use Rattle.sccs_intents.specs.Intents.{entries_in, intent_file, plan_file}
use Rattle.sccs_crash_points.specs.Recovery.{without_name}
use Rattle.sccs_store.specs.Commits.{Becomes}
use Rattle.sccs_group.specs.Members.{p_taken, placed, taken}
use Rattle.sccs_group.specs.Recovering.{bare}
use Rattle.sccs_group.specs.declared.members.Member.{Member}

-- ---- the files of a group

-- the files of a name but for its g-file
abbrev pub is_own_but_g : List ℕ → List ℕ → Bool
is_own_but_g n k = bytes_eq n k || (bytes_eq (p_file n) k || is_left n k)

-- what a group may change of the files of a member: its g-file only where that goes
abbrev pub is_own_of_member : Member → List ℕ → Bool
is_own_of_member mem k = (mem.removes_g && bytes_eq (drop 2 mem.entry.name) k) || is_own_but_g mem.entry.name k

-- those of all members
abbrev pub is_own_of : List Member → List ℕ → Bool
is_own_of [] k = false
is_own_of (mem ∷ members) k = is_own_of_member mem k || is_own_of members k

-- and the plan and the intent
abbrev pub is_own_of_group : List Member → List ℕ → Bool
is_own_of_group members k = bytes_eq plan_file k || (bytes_eq intent_file k || is_own_of members k)

-- the z-files of members
abbrev pub is_lock_of : List Member → List ℕ → Bool
is_lock_of [] k = false
is_lock_of (mem ∷ members) k = bytes_eq (z_file mem.entry.name) k || is_lock_of members k

-- and the plan and the intent: what isn't yet there, or still there, where a group was cut off
abbrev pub is_left_of_group : List Member → List ℕ → Bool
is_left_of_group members k = bytes_eq plan_file k || (bytes_eq intent_file k || is_lock_of members k)

-- the members that the intent of a view names
abbrev pub intended : View → List Member
intended v = bare (entries_in (v intent_file))

-- no member's z-file is there
abbrev pub NoneLocked : List Member → View → Type 0
NoneLocked members v = AllByRecursion (λ (mem : Member). v (z_file mem.entry.name) ≡ None) members

-- ---- some first of the new files

-- the view after so many calls of a member, in their order: s-file, p-file, y-file, g-file
abbrev pub part_placed : ℕ → Member → View → View
part_placed zero mem v = v
part_placed (suc zero) mem v = taken (x_file mem.entry.name) mem.entry.name v
part_placed (suc (suc zero)) mem v = p_taken mem.entry.fate mem.entry.name (taken (x_file mem.entry.name) mem.entry.name
    v)
part_placed (suc (suc (suc zero))) mem v = without_name (y_file mem.entry.name) (p_taken mem.entry.fate mem.entry.name
    (taken (x_file mem.entry.name) mem.entry.name v))
part_placed (suc (suc (suc (suc some)))) mem v = placed mem v

-- the view after all calls of so many first members, and some first calls of the next one
abbrev pub first_placed : ℕ → ℕ → List Member → View → View
first_placed whole some [] v = v
first_placed zero some (mem ∷ members) v = part_placed some mem v
first_placed (suc whole) some (mem ∷ members) v = first_placed whole some members (placed mem v)

-- what is told is the view before after some first calls of a member
abbrev pub PlacesPart : Member → Option View → Option View → Type 0
PlacesPart mem old new = (some : ℕ) × Becomes (part_placed some mem) old new

-- the same of some first members and the next one
abbrev pub PlacesFirst : List Member → Option View → Option View → Type 0
PlacesFirst members old new = (whole : ℕ) × (some : ℕ) × Becomes (first_placed whole some members) old new

-- the same but for the plan, the intent and the z-files
abbrev pub IsHalfway : List Member → Option View → Option View → Type 0
IsHalfway members old new = (whole : ℕ) × (some : ℕ) × Moves (is_left_of_group members)
    (first_placed whole some members) old new
