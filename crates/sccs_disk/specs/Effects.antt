-- What each call does to the files of a disk, and what it may do to them where it fails.
use Rattle.std.specs.Prelude.{◌≡◌, ℕ, zero, suc, ◌+◌, true, false, List, [], ◌∷◌, ◌++◌, length, take, drop, Option}
use Rattle.std.specs.Prelude.{None, Some, option_map}
use Rattle.sccs_disk.specs.Files.{Content, File, View, Op, Create, Rename, Remove, Model, names, put}

-- What a call makes of a view and of a model, and what it may leave of them where it fails.
pub record Effect : Type 1 where
  pub view : View → View
  pub model : Model → Model
  pub half_view : View → View → Type 0
  pub half : Model → Model → Type 0

-- a call that is made whole or not at all
abbrev pub whole_effect : (View → View) → (Model → Model) → Effect
whole_effect f g = record { view = f; model = g; half_view = λ v w. w ≡ f v; half = λ m m2. m2 ≡ g m }

-- changes the file at a place
abbrev pub change_at : List File → ℕ → (File → File) → List File
change_at [] p g = []
change_at (f ∷ files) zero g = g f ∷ files
change_at (f ∷ files) (suc p) g = f ∷ change_at files p g

abbrev pub change : List File → Option ℕ → (File → File) → List File
change files None g = files
change files (Some p) g = change_at files p g

-- changes the file under a name
abbrev pub changed : List ℕ → (File → File) → Model → Model
changed n g m = record { files = change m.files (names m n) g; base = m.base; pending = m.pending }

abbrev pub altered : List ℕ → (Content → Content) → View → View
altered n g v = put v n (option_map g (v n))

-- a file that isn't firm, and one that is
abbrev pub loose : Content → File
loose c = record { content = c; firm = false }

abbrev pub firm : Content → File
firm c = record { content = c; firm = true }

-- a change of the file under a name, which isn't firm afterwards; a failure may leave some other change
abbrev pub writing : List ℕ → (Content → Content) → ((Content → Content) → Type 0) → Effect
writing n g IsHalf = record {
  view = altered n g;
  model = changed n (λ f. loose (g f.content));
  half_view = λ v w. (h : Content → Content) × IsHalf h × (w ≡ altered n h v);
  half = λ m m2. (h : Content → Content) × IsHalf h × (m2 ≡ changed n (λ f. loose (h f.content)) m);
}

-- any bytes, and the mark as it was
abbrev pub KeepsMark : (Content → Content) → Type 0
KeepsMark h = (c : Content) → (h c).writable ≡ c.writable

-- any bytes and any mark
abbrev pub IsAny : (Content → Content) → Type 0
IsAny h = Unit {0}

abbrev pub appended : List ℕ → Content → Content
appended bytes c = record { bytes = c.bytes ++ bytes; writable = c.writable }

-- these bytes in place of as many from there on
abbrev pub overwritten : ℕ → List ℕ → Content → Content
overwritten from bytes c = record {
  bytes = take from c.bytes ++ bytes ++ drop (from + length bytes) c.bytes;
  writable =
      c.writable;
}

abbrev pub protected : Content → Content
protected c = record { bytes = c.bytes; writable = false }

abbrev pub appending : List ℕ → List ℕ → Effect
appending n bytes = writing n (appended bytes) KeepsMark

abbrev pub overwriting : List ℕ → ℕ → List ℕ → Effect
overwriting n from bytes = writing n (overwritten from bytes) KeepsMark

abbrev pub protecting : List ℕ → Effect
protecting n = writing n protected IsAny

abbrev pub synced : List ℕ → Model → Model
synced n m = changed n (λ f. firm f.content) m

abbrev pub syncing : List ℕ → Effect
syncing n = whole_effect (λ v. v) (synced n)

abbrev pub empty_file : Content
empty_file = record { bytes = []; writable = true }

-- makes a name operation
abbrev pub pended : Op → Model → Model
pended op m = record { files = m.files; base = m.base; pending = m.pending ++ op ∷ [] }

-- an empty file more, under a name that isn't there
abbrev pub created : List ℕ → Model → Model
created n m = record {
  files = m.files ++ loose empty_file ∷ [];
  base = m.base;
  pending =
      m.pending ++ Create n (length m.files) ∷ [];
}

abbrev pub creating : List ℕ → Effect
creating n = whole_effect (λ v. put v n (Some empty_file)) (created n)

-- the file of the first name under the second one; right also where the two are one
abbrev pub renamed : List ℕ → List ℕ → View → View
renamed a b v = put (put v a None) b (v a)

abbrev pub renaming : List ℕ → List ℕ → Effect
renaming a b = whole_effect (renamed a b) (pended (Rename a b))

abbrev pub removing : List ℕ → Effect
removing n = whole_effect (λ v. put v n None) (pended (Remove n))

-- the base has the names of the view, and nothing is pending
abbrev pub settled : Model → Model
settled m = record { files = m.files; base = names m; pending = [] }

abbrev pub syncing_names : Effect
syncing_names = whole_effect (λ v. v) settled
