-- What a stop leaves of files in memory.
use Rattle.std.specs.List.{All}
use Rattle.std.proofs.Common.{◌≡◌, ℕ, zero, suc, ◌<◌, ◌≤◌, Bool, true, false, List, [], ◌∷◌, length, ◌++◌, map, take}
use Rattle.std.proofs.Common.{drop, slice_get, Option, None, Some, option_map, refl, sym, ap, subst, ◌∙◌, arith}
use Rattle.std.proofs.Math.Path.{fun_ext}
use Rattle.std.proofs.lemmas.List.{append-nil, drop_all}
use Rattle.sccs_disk.specs.Files.{Content, File, View, Names, Model, names_at, file_at, IsSane}
use Rattle.sccs_disk.specs.Effects.{firm}
use Rattle.sccs_disk.specs.Images.{Image, Fits}
use Rattle.sccs_disk.specs.MemoryFiles.{model_of, filled, left_by_stop, left_files, IsFirmFile}
use Rattle.sccs_disk.specs.States.{State, AreNamesPlaced, stored, shown}
use Rattle.sccs_disk.specs.declared.changes.StoredFile.{StoredFile}
use Rattle.sccs_disk.specs.declared.fills.Fill.{Fill}
use Rattle.sccs_disk.proofs.Sanity.{AreWithin, HasPlaces, sane_from}

content_of : (fill : Fill) (o : Option File) → option_map (λ (f : File). f.content)
    (option_map (λ f. firm (filled fill f)) o) ≡ option_map (filled fill) o
content_of fill None = refl
content_of fill (Some f) = refl

front_file : (fill : Fill) (files : List File) (count p : ℕ) → p < count
    → slice_get (map (λ f. firm (filled fill f)) (take count files)) p ≡ option_map (λ f. firm (filled fill f))
    (slice_get files p)
front_file fill files zero p low = absurd (omega arith)
front_file fill [] (suc count) p low = refl
front_file fill (f ∷ files) (suc count) zero low = refl
front_file fill (f ∷ files) (suc count) (suc p) low = front_file fill files count p (omega arith)

left_at : (fill : Fill) (files : List File) (count : ℕ) (t : Option ℕ) → ((p : ℕ) → t ≡ Some p → p < count)
    → option_map (λ (f : File). f.content) (file_at (left_files fill count files) t) ≡ option_map (filled fill)
    (file_at files t)
left_at fill files count None within = refl
left_at fill files count (Some p) within = ap (option_map (λ (f : File). f.content)) (front_file fill files count p
    (within p refl)) ∙ content_of fill (slice_get files p)

-- the files of one state with the names of another are what a stop leaves
pub left_shown : (m : Model) (j : ℕ) (fill : Fill) (count : ℕ) (s : State) → s.files ≡ left_files fill count m.files
    → s.names ≡ names_at m j → AreWithin count s.names → shown s ≡ left_by_stop m j fill
left_shown m j fill count s files_are names_are within = fun_ext (λ n.
    ap (λ files. option_map (λ (f : File). f.content) (file_at files (s.names n))) files_are
    ∙ (left_at fill m.files count (s.names n) (within n)
    ∙ ap (λ (t : Names). option_map (filled fill) (file_at m.files (t n))) names_are))

fits_at : (fill : Fill) (c : Content) (b : Bool) → Fits (Some (record { content = c; firm = b }))
    (Some (filled fill (record { content = c; firm = b })))
fits_at fill c true = refl
fits_at fill c false = refl

fits : (fill : Fill) (o : Option File) → Fits o (option_map (filled fill) o)
fits fill None = refl
fits fill (Some f) = fits_at fill f.content f.firm

-- which is an image
pub left_image : (m : Model) (j : ℕ) (fill : Fill) (w : View) → w ≡ left_by_stop m j fill → Image m w
left_image m j fill w is = subst (Image m) (sym is) (j, λ n. fits fill (file_at m.files (names_at m j n)))

pub left_firm : (fill : Fill) (count : ℕ) (files : List File) → All IsFirmFile (left_files fill count files)
left_firm fill count files = all (take count files)
  where
    all : (files : List File) → All IsFirmFile (map (λ f. firm (filled fill f)) files)
    all [] k d low = absurd (omega arith)
    all (f ∷ files) zero d low = refl
    all (f ∷ files) (suc k) d low = all files k d (omega arith)

start_places : (s : State) → AreNamesPlaced s → HasPlaces (model_of s)
start_places s placed zero = placed.within
start_places s placed (suc j) = placed.within

pub start_sane : (s : State) → AreNamesPlaced s → IsSane (model_of s)
start_sane s placed = sane_from (model_of s) s refl placed (start_places s placed)

map_front : (fill : Fill) (count : ℕ) (items : List StoredFile) → map (λ f. firm (filled fill (stored f)))
    (take count items) ≡ left_files fill count (map stored items)
map_front fill zero items = refl
map_front fill (suc count) [] = refl
map_front fill (suc count) (f ∷ items) = ap (λ l. firm (filled fill (stored f)) ∷ l) (map_front fill count items)

-- all files were taken over
pub left_done : (fill : Fill) (count i : ℕ) (items part files : List StoredFile) → part ≡ take count items
    → length part ≤ i
    → map stored files ++ map (λ f. firm (filled fill (stored f))) (drop i part) ≡ map
    (λ f. firm (filled fill (stored f))) part → map stored files ≡ left_files fill count (map stored items)
left_done fill count i items part files is past so_far =
    sym (append-nil (map stored files))
    ∙ (ap (λ l. map stored files ++ map (λ f. firm (filled fill (stored f))) l) (sym (drop_all i part past))
    ∙ (so_far ∙ (ap (map (λ f. firm (filled fill (stored f)))) is ∙ map_front fill count items)))
