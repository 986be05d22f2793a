-- What locks, working files and commits make of the files of a name.
use Rattle.std.specs.Prelude.{◌≡◌, ◌⊎◌, ℕ, zero, suc, Bool, List, ◌++◌, take, drop, false, Option, None, Some}
use Rattle.std.specs.Prelude.{option_map, if◌then◌else◌}
use Rattle.sccs_base.specs.Name.{p_file, q_file, x_file, y_file, z_file}
use Rattle.sccs_disk.specs.Files.{Content, View, put}
use Rattle.sccs_disk.specs.Effects.{empty_file, renamed}
use Rattle.sccs_disk.specs.Calls.{IsThere}
use Rattle.sccs_disk.specs.Told.{Told}
use Rattle.sccs_name_files.specs.StepFiles.{Files, l_file}
use Rattle.sccs_tokens.specs.Written.{five}
use Rattle.sccs_crash_points.specs.Recovery.{cleared, without_name}
use Rattle.sccs_store.specs.declared.new_files.NewFile.{NewFile}
use Rattle.sccs_store.specs.declared.new_files.NewFile.TheVariants.{Keep, Replace, Remove}

-- what is told is f of what was told
abbrev pub Becomes : (View → View) → Option View → Option View → Type 0
Becomes f old new = new ≡ option_map f old

-- the same, or nothing changed
abbrev pub MayBecome : (View → View) → Option View → Option View → Type 0
MayBecome f old new = (new ≡ old) ⊎ Becomes f old new

-- the z-file is there, empty
abbrev pub locked : List ℕ → View → View
locked n v = put v (z_file n) (Some empty_file)

-- the x-, q-, y- and z-file are gone
abbrev pub abandoned : List ℕ → View → View
abandoned n v = without_name (z_file n) (cleared n v)

-- a file that begins with a sum line, with these digits in it, and protected
abbrev pub with_sum_line : ℕ → Content → Content
with_sum_line sum c = record { bytes = take 2 c.bytes ++ five sum ++ drop 7 c.bytes; writable = false }

-- ---- a commit

-- a prepared file in place of another, or that one removed
abbrev pub swapped : NewFile → List ℕ → List ℕ → View → View
swapped Keep from to v = v
swapped Replace from to v = renamed from to v
swapped Remove from to v = without_name to v

-- what it needs, where a view is told
abbrev pub Needs : NewFile → List ℕ → List ℕ → Told → Type 0
Needs Keep from to told = Unit {0}
Needs Replace from to told = IsThere from told
Needs Remove from to told = IsThere to told

-- the new file, the old one, or none
abbrev pub chosen : NewFile → Option Content → Option Content → Option Content
chosen Keep new old = old
chosen Replace new old = new
chosen Remove new old = None

-- What becomes of s-file, p-file and g-file.
pub record Plan : Type 0 where
  pub s : NewFile
  pub p : NewFile
  pub g : NewFile

-- the s-file is replaced or kept
abbrev pub replaced : Bool → NewFile
replaced new = if new then Replace else Keep

abbrev pub plan : Bool → NewFile → NewFile → Plan
plan new_s new_p new_g = record { s = replaced new_s; p = new_p; g = new_g }

-- x over s, q over p, y over g
abbrev pub s_swapped : List ℕ → Plan → View → View
s_swapped n c v = swapped c.s (x_file n) n v

abbrev pub p_swapped : List ℕ → Plan → View → View
p_swapped n c v = swapped c.p (q_file n) (p_file n) v

abbrev pub g_swapped : List ℕ → Plan → View → View
g_swapped n c v = swapped c.g (y_file n) (drop 2 n) v

-- the view after a commit
abbrev pub committed : List ℕ → Plan → View → View
committed n c v = without_name (z_file n) (g_swapped n c (p_swapped n c (s_swapped n c v)))

-- the view after so many of its four changes
abbrev pub part_of : List ℕ → Plan → ℕ → View → View
part_of n c zero v = v
part_of n c (suc zero) v = s_swapped n c v
part_of n c (suc (suc zero)) v = p_swapped n c (s_swapped n c v)
part_of n c (suc (suc (suc zero))) v = g_swapped n c (p_swapped n c (s_swapped n c v))
part_of n c (suc (suc (suc (suc i)))) v = committed n c v

-- what is told is the view before it after so many of its changes
abbrev pub IsPart : List ℕ → Plan → Option View → Option View → Type 0
IsPart n c old new = (i : ℕ) × (new ≡ option_map (part_of n c i) old)

-- the files of the name after it; the l-file is new before it, where it is new
abbrev pub files_after : List ℕ → Plan → View → Files
files_after n c v = record {
  s = chosen c.s (v (x_file n)) (v n);
  p = chosen c.p (v (q_file n)) (v (p_file n));
  z = None;
  g = chosen c.g (v (y_file n)) (v (drop 2 n));
  l = v (l_file n);
}
