-- What a disk has: files, names, and name operations that are pending.
use Rattle.std.specs.Prelude.{◌≡◌, ℕ, ◌<◌, Bool, List, [], ◌∷◌, length, take, Option, None, Some, option_map, slice_get}
use Rattle.std.specs.Map.{update}
use Rattle.std.specs.Str.{bytes_eq}
use Rattle.std.specs.Ordering.{nat_cmp}
use Rattle.std.specs.Cmp.Lexicographic.{slice_cmp}
use Rattle.std.specs.FinMap.{FinMap, get}

-- what stands under a name: bytes, and a mark whether they may be written
pub record Content : Type 0 where
  pub bytes : List ℕ
  pub writable : Bool

-- a file; a stop leaves a firm one as it is
pub record File : Type 0 where
  pub content : Content
  pub firm : Bool

-- what stands under each name
abbrev pub View : Type 0
View = List ℕ → Option Content

-- the place in the list of files that each name has
abbrev pub Names : Type 0
Names = List ℕ → Option ℕ

-- the same but for one name
abbrev pub put : {X : Type 0} → (List ℕ → Option X) → List ℕ → Option X → List ℕ → Option X
put t n x = update bytes_eq t n x

-- an operation on names
pub data Op : Type 0 where
  Create : (name : List ℕ) → (place : ℕ) → Op
  Rename : (from to : List ℕ) → Op
  Remove : (name : List ℕ) → Op

abbrev pub apply_operation : Op → Names → Names
apply_operation (Create n p) t = put t n (Some p)
apply_operation (Rename a b) t = put (put t a None) b (t a)
apply_operation (Remove n) t = put t n None

-- the names after these operations, the first of them first
abbrev pub names_after : List Op → Names → Names
names_after [] t = t
names_after (op ∷ ops) t = names_after ops (apply_operation op t)

-- all that a disk has: its files, the names that a stop leaves, and the name operations since
pub record Model : Type 0 where
  pub files : List File
  pub base : Names
  pub pending : List Op

-- the names after the first j pending operations, and after all
abbrev pub names_at : Model → ℕ → Names
names_at m j = names_after (take j m.pending) m.base

abbrev pub names : Model → Names
names m = names_after m.pending m.base

abbrev pub file_at : List File → Option ℕ → Option File
file_at files None = None
file_at files (Some p) = slice_get files p

-- the view: the base with all pending operations made
abbrev pub view_of : Model → View
view_of m n = option_map (λ (f : File). f.content) (file_at m.files (names m n))

-- Every name leads to a file, and no two names to one.
pub record IsSane (m : Model) : Type 0 where
  pub within : (j : ℕ) (n : List ℕ) (p : ℕ) → names_at m j n ≡ Some p → p < length m.files
  pub whole : (n : List ℕ) (p : ℕ) → names m n ≡ Some p → p < length m.files
  pub apart : (a b : List ℕ) (p : ℕ) → names m a ≡ Some p → names m b ≡ Some p → a ≡ b

-- files by their names, in the names' order
abbrev pub Folder : Type 0
Folder = FinMap (slice_cmp nat_cmp) Content

-- its view
abbrev pub view_in : Folder → View
view_in m n = get m n

-- some folder has the view
abbrev pub IsFinite : View → Type 0
IsFinite v = (m : Folder) × (view_in m ≡ v)
