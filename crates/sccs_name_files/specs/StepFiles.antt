-- The files of a step, and views and folders that differ in them.
use Rattle.std.specs.Prelude.{◌≡◌, ℕ, ◌⊎◌, Bool, true, false, ◌||◌, List, drop, Option, None, Some}
use Rattle.std.specs.Str.{bytes_eq}
use Rattle.std.specs.FinMap.{insert, remove}
use Rattle.sccs_base.specs.Name.{p_file, q_file, sibling, x_file, y_file, z_file}
use Rattle.sccs_disk.specs.Files.{Content, View, put, Folder}

-- the summary of a get stands beside the s-file
abbrev pub l_file : List ℕ → List ℕ
l_file name = sibling 108 name

-- the s-file, p-file, z-file, g-file and l-file of one name
pub record Files : Type 0 where
  pub s : Option Content
  pub p : Option Content
  pub z : Option Content
  pub g : Option Content
  pub l : Option Content

-- what a step sees of a view
abbrev pub look : View → List ℕ → Files
look v n = record { s = v n; p = v (p_file n); z = v (z_file n); g = v (drop 2 n); l = v (l_file n) }

-- the view with these files in their places
abbrev pub placed : View → List ℕ → Files → View
placed v n f = put (put (put (put (put v (l_file n) f.l) (z_file n) f.z) (drop 2 n) f.g) (p_file n) f.p) n f.s

-- the view after a step: new files, or all as they were
abbrev pub moved : View → List ℕ → Option Files → View
moved v n None = v
moved v n (Some f) = placed v n f

-- the view in which the l-file may be new already, before any commit
abbrev pub early_moved : Bool → View → List ℕ → Option Files → View
early_moved false v n new = v
early_moved true v n None = v
early_moved true v n (Some f) = put v (l_file n) f.l

-- the same of a folder
abbrev pub set_in : Folder → List ℕ → Option Content → Folder
set_in m n None = remove m n
set_in m n (Some c) = insert m n c

abbrev pub moved_in : Folder → List ℕ → Option Files → Folder
moved_in m n None = m
moved_in m n (Some f) = set_in (set_in (set_in (set_in (set_in m (l_file n) f.l) (z_file n) f.z) (drop 2 n) f.g)
    (p_file n) f.p) n f.s

-- the x-, q- and y-file of a name
abbrev pub is_working : List ℕ → List ℕ → Bool
is_working n k = bytes_eq (x_file n) k || (bytes_eq (q_file n) k || bytes_eq (y_file n) k)

-- working files, and the z-file
abbrev pub is_left : List ℕ → List ℕ → Bool
is_left n k = is_working n k || bytes_eq (z_file n) k

-- what a step changes before its commit: these, and the l-file
abbrev pub is_early : List ℕ → List ℕ → Bool
is_early n k = bytes_eq (l_file n) k || is_left n k

-- two views are one but for working files
abbrev pub Alike : (List ℕ → Bool) → View → View → Type 0
Alike w u v = (k : List ℕ) → w k ≡ false → u k ≡ v k

-- what is told afterwards is f of what was told, but for working files
abbrev pub Moves : (List ℕ → Bool) → (View → View) → Option View → Option View → Type 0
Moves w f None new = new ≡ None
Moves w f (Some u) None = ⊥
Moves w f (Some u) (Some v) = Alike w v (f u)

-- what is told afterwards is what was told, or its l-file is new, but for working files
abbrev pub MovesEarly : List ℕ → Option Files → Option View → Option View → Type 0
MovesEarly n new old told = (first : Bool) × Moves (is_working n) (λ v. early_moved first v n new) old told

-- each file is as it was, or as f makes it, but for working files
abbrev pub MovesPartly : (List ℕ → Bool) → (View → View) → Option View → Option View → Type 0
MovesPartly w f None new = new ≡ None
MovesPartly w f (Some u) None = ⊥
MovesPartly w f (Some u) (Some v) = (k : List ℕ) → w k ≡ false → (v k ≡ u k) ⊎ (v k ≡ f u k)

-- what is told is this, but for working files
abbrev pub Shows : (List ℕ → Bool) → Option View → View → Type 0
Shows w None v = ⊥
Shows w (Some u) v = Alike w u v

-- no file is a working file: a command that only reads makes none
abbrev pub nowhere : List ℕ → Bool
nowhere k = false

-- The name's files are no working files, and its working files are.
pub record Apart (w : List ℕ → Bool) (n : List ℕ) : Type 0 where
  pub own : (k : List ℕ) → w k ≡ false → is_working n k ≡ false
  pub s : w n ≡ false
  pub p : w (p_file n) ≡ false
  pub z : w (z_file n) ≡ false
  pub g : w (drop 2 n) ≡ false
  pub l : w (l_file n) ≡ false

-- each working file of a name is gone, or as it was
abbrev pub AreCleared : List ℕ → Option View → Option View → Type 0
AreCleared n None new = Unit {0}
AreCleared n (Some u) None = ⊥
AreCleared n (Some u) (Some v) = (k : List ℕ) → is_working n k ≡ true → (v k ≡ None) ⊎ (v k ≡ u k)
