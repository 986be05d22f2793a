-- What a stop may leave of a disk.
use Rattle.std.specs.Prelude.{◌≡◌, ℕ, List, Option, None, Some, IsSome, IfSome, true, cond}
use Rattle.sccs_disk.specs.Files.{Content, File, View, Model, names, names_at, file_at}

-- the file under a name, all pending operations made
abbrev pub file_under : Model → List ℕ → Option File
file_under m n = file_at m.files (names m n)

-- what a stop may leave of a file: a firm one as it is, another with any bytes and any mark
abbrev pub Fits : Option File → Option Content → Type 0
Fits None w = w ≡ None
Fits (Some f) w = cond f.firm (w ≡ Some f.content) (IsSome w)

-- A view that a stop may leave: the base with some of the pending operations made, in their order.
abbrev pub Image : Model → View → Type 0
Image m w = (j : ℕ) × ((n : List ℕ) → Fits (file_at m.files (names_at m j n)) (w n))

-- an image in which all pending operations are made
abbrev pub Full : Model → View → Type 0
Full m w = (n : List ℕ) → Fits (file_under m n) (w n)

-- each image has P
abbrev pub Allows : (View → Type 0) → Model → Type 0
Allows P m = (w : View) → Image m w → P w

-- No other name leads to the file under n, whatever of the pending operations is made.
pub record IsOwn (n : List ℕ) (m : Model) : Type 0 where
  pub only : (j : ℕ) (k : List ℕ) (p : ℕ) → names m n ≡ Some p → names_at m j k ≡ Some p → k ≡ n

-- the file under a name, if there is one, is firm
abbrev pub IsFirm : List ℕ → Model → Type 0
IsFirm n m = IfSome (file_under m n) (λ (f : File). f.firm ≡ true)
