-- The files of a directory as a folder.
use Rattle.std.specs.Prelude.{◌≡◌, ℕ, suc, Bool, true, false, List, [], ◌∷◌, map, Option, None, Some, option_map, cond}
use Rattle.std.specs.Ordering.{nat_cmp}
use Rattle.std.specs.FinMap.{empty, insert, get, get-insert, get-empty}
use Rattle.std.specs.Cmp.Lexicographic.{slice_cmp, nat_list_cmp_total}
use Rattle.std.specs.Str.{bytes_eq}
use Rattle.std.proofs.Common.{ap, ◌∙◌, refl}
use Rattle.std.proofs.Math.Path.{fun_ext}
use Rattle.sccs_disk.specs.DirectoryStates.{state_of}
use Rattle.sccs_disk.specs.Files.{Content, File, Folder, IsFinite, file_at}
use Rattle.sccs_disk.specs.MemoryFiles.{same_test}
use Rattle.sccs_disk.specs.Places.{place_of}
use Rattle.sccs_disk.specs.States.{stored, shown}
use Rattle.sccs_disk.specs.declared.changes.StoredFile.{StoredFile}
use Rattle.sccs_disk.specs.declared.directories.Directory.{Directory}

folder_of : List (Option (List ℕ)) → List StoredFile → Folder
folder_of [] files = empty
folder_of (k ∷ names) [] = empty
folder_of (None ∷ names) (f ∷ files) = folder_of names files
folder_of (Some k ∷ names) (f ∷ files) = insert (folder_of names files) k (stored f).content

abbrev shown_at : List File → Option ℕ → Option Content
shown_at files p = option_map (λ (f : File). f.content) (file_at files p)

none_there : (p : Option ℕ) → None ≡ shown_at [] p
none_there None = refl
none_there (Some p) = refl

later_file : (f : File) (files : List File) (p : Option ℕ) → shown_at files p ≡ shown_at (f ∷ files)
    (option_map (λ q. suc q) p)
later_file f files None = refl
later_file f files (Some p) = refl

first_or_later : (b : Bool) (f : File) (files : List File) (p : Option ℕ) (o : Option Content) → o ≡ shown_at files p
    → cond b (Some f.content) o ≡ shown_at (f ∷ files) (cond b (Some 0) (option_map (λ q. suc q) p))
first_or_later true f files p o is = refl
first_or_later false f files p o is = is ∙ later_file f files p

folder_has : (names : List (Option (List ℕ))) (files : List StoredFile) (q : List ℕ) → get (folder_of names files) q
    ≡ shown_at (map stored files) (place_of names q)
unfolding folder_of
folder_has [] files q = get-empty (slice_cmp nat_cmp) q
folder_has (k ∷ names) [] q = get-empty (slice_cmp nat_cmp) q ∙ none_there (place_of (k ∷ names) q)
folder_has (None ∷ names) (f ∷ files) q = folder_has names files q ∙ later_file (stored f) (map stored files)
    (place_of names q)
folder_has (Some k ∷ names) (f ∷ files) q =
    get-insert nat_list_cmp_total (folder_of names files) k (stored f).content q
    ∙ (ap (λ test. cond test (Some (stored f).content) (get (folder_of names files) q)) (same_test q k)
    ∙ first_or_later (bytes_eq k q) (stored f) (map stored files) (place_of names q) (get (folder_of names files) q)
    (folder_has names files q))

-- the view of a directory is that of some folder
pub shown_finite : (d : Directory) → IsFinite (shown (state_of d))
shown_finite d = (folder_of d.names.names.items d.files.items, fun_ext (folder_has d.names.names.items d.files.items))
