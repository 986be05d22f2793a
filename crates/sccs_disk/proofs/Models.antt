-- Models that a call changes: their files, and the names after some of their operations.
use Rattle.std.proofs.Common.{◌≡◌, ℕ, zero, suc, ◌<◌, ◌≤◌, ◌⊎◌, List, [], ◌∷◌, ◌++◌, length, take, slice_get, Option}
use Rattle.std.proofs.Common.{None, Some, option_map, inl, inr, refl, ap, ◌∙◌, ⊎_elim, length-append, arith}
use Rattle.std.proofs.lemmas.Bool.{cases_lt}
use Rattle.std.proofs.lemmas.List.{take-append-le, take_all}
use Rattle.sccs_disk.specs.Files.{File, Names, Op, Create, Model, names, names_at, put, apply_operation, names_after}
use Rattle.sccs_disk.specs.Effects.{change, change_at, pended, created}

after_more : (ops : List Op) (op : Op) (t : Names) → names_after (ops ++ op ∷ []) t ≡ apply_operation op
    (names_after ops t)
after_more [] op t = refl
after_more (x ∷ ops) op t = after_more ops op (apply_operation x t)

-- the names after one operation more
pub names_pended : (op : Op) (m : Model) → names (pended op m) ≡ apply_operation op (names m)
names_pended op m = after_more m.pending op m.base

pub names_created : (n : List ℕ) (m : Model) → names (created n m) ≡ put (names m) n (Some (length m.files))
names_created n m = after_more m.pending (Create n (length m.files)) m.base

-- the names after all operations, as those after a number of them
pub names_all : (m : Model) → names_at m (length m.pending) ≡ names m
names_all m = ap (λ ops. names_after ops m.base) (take_all (length m.pending) m.pending (omega arith))

pub names_past : (m : Model) (j : ℕ) → length m.pending ≤ j → names_at m j ≡ names m
names_past m j low = ap (λ ops. names_after ops m.base) (take_all j m.pending low)

front_or_all : (ops : List Op) (op : Op) (j : ℕ) → (take j (ops ++ op ∷ []) ≡ take j ops)
    ⊎ (take j (ops ++ op ∷ []) ≡ ops ++ op ∷ [])
front_or_all ops op j =
    ⊎_elim (λ low. inr (take_all j (ops ++ op ∷ []) (omega (arith, length-append ops (op ∷ []), low))))
    (λ high. inl (take-append-le j ops (op ∷ []) (omega (arith, high))))
    (cases_lt (length ops) j)

-- one operation more: some of those before it are made, or all with it
pub names_at_pended : (op : Op) (m : Model) (j : ℕ) → (names_at (pended op m) j ≡ names_at m j)
    ⊎ (names_at (pended op m) j ≡ apply_operation op (names m))
names_at_pended op m j =
    ⊎_elim (λ e. inl (ap (λ ops. names_after ops m.base) e)) (λ e. inr (ap (λ ops. names_after ops m.base) e
    ∙ after_more m.pending op m.base)) (front_or_all m.pending op j)

pub names_at_created : (n : List ℕ) (m : Model) (j : ℕ) → (names_at (created n m) j ≡ names_at m j)
    ⊎ (names_at (created n m) j ≡ put (names m) n (Some (length m.files)))
names_at_created n m j = names_at_pended (Create n (length m.files)) m j

change_at_length : (files : List File) (p : ℕ) (g : File → File) → length (change_at files p g) ≡ length files
change_at_length [] p g = refl
change_at_length (f ∷ files) zero g = refl
change_at_length (f ∷ files) (suc p) g = ap (λ n. suc n) (change_at_length files p g)

pub change_length : (files : List File) (p : Option ℕ) (g : File → File) → length (change files p g) ≡ length files
change_length files None g = refl
change_length files (Some p) g = change_at_length files p g

pub get_changed : (files : List File) (p : ℕ) (g : File → File) → slice_get (change_at files p g) p ≡ option_map g
    (slice_get files p)
get_changed [] p g = refl
get_changed (f ∷ files) zero g = refl
get_changed (f ∷ files) (suc p) g = get_changed files p g

pub get_kept : (files : List File) (p q : ℕ) (g : File → File) → (p ≡ q → ⊥) → slice_get (change_at files p g) q
    ≡ slice_get files q
get_kept [] p q g apart = refl
get_kept (f ∷ files) zero zero g apart = absurd (apart refl)
get_kept (f ∷ files) zero (suc q) g apart = refl
get_kept (f ∷ files) (suc p) zero g apart = refl
get_kept (f ∷ files) (suc p) (suc q) g apart = get_kept files p q g (λ e. apart (ap (λ n. suc n) e))

pub get_front : {X : Type 0} (xs : List X) (x : X) (p : ℕ) → p < length xs → slice_get (xs ++ x ∷ []) p ≡ slice_get xs p
get_front [] x p low = absurd (omega arith)
get_front (y ∷ xs) x zero low = refl
get_front (y ∷ xs) x (suc p) low = get_front xs x p (omega arith)

pub get_end : {X : Type 0} (xs : List X) (x : X) → slice_get (xs ++ x ∷ []) (length xs) ≡ Some x
get_end [] x = refl
get_end (y ∷ xs) x = get_end xs x
