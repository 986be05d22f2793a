-- The names of the s-files of a folder, in byte order.
use Rattle.std.specs.Prelude.{◌≡◌, ℕ, true, List}
use Rattle.std.specs.Cmp.Lexicographic.{slice_cmp}
use Rattle.std.specs.FinMap.{keys}
use Rattle.std.specs.List.{AllByRecursion, filter}
use Rattle.std.specs.List.Sorted.{IsStrictlySortedBy}
use Rattle.std.specs.Ordering.{nat_cmp}
use Rattle.sccs_base.specs.Name.{is_sfile_name}
use Rattle.sccs_disk.specs.Files.{Folder, View, view_in}

-- each name is below those after it, byte for byte
abbrev pub AreInOrder : List (List ℕ) → Type 0
AreInOrder names = IsStrictlySortedBy (slice_cmp nat_cmp) names

-- the names of the s-files
abbrev pub sfiles_in : Folder → List (List ℕ)
sfiles_in m = filter is_sfile_name (keys m)

-- Names of s-files, each once, in byte order.
pub record AreSfiles (names : List (List ℕ)) : Type 0 where
  pub order : AreInOrder names
  pub fit : AllByRecursion (λ n. is_sfile_name n ≡ true) names

-- the folder has the view's s-files
abbrev pub HasSfilesOf : View → Folder → Type 0
HasSfilesOf v m = (n : List ℕ) → is_sfile_name n ≡ true → view_in m n ≡ v n
