-- A model stays sane.
use Rattle.std.proofs.Common.{◌≡◌, ℕ, zero, suc, ◌+◌, ◌<◌, ◌⊎◌, Bool, true, false, cond, List, [], ◌∷◌, ◌++◌, length}
use Rattle.std.proofs.Common.{map, Option, None, Some, inl, inr, refl, sym, ap, subst, ◌∙◌, ⊎_elim, length-append}
use Rattle.std.proofs.Common.{arith}
use Rattle.std.proofs.lemmas.List.{length-map}
use Rattle.std.specs.Str.{bytes_eq}
use Rattle.sccs_disk.specs.Files.{File, Names, Op, Rename, Remove, Model, names, names_at, put, apply_operation, IsSane}
use Rattle.sccs_disk.specs.Effects.{changed, pended, created, settled}
use Rattle.sccs_disk.specs.Places.{has_name, place_of}
use Rattle.sccs_disk.specs.States.{State, AreNamesPlaced, state, stored, change_effect, file_effect}
use Rattle.sccs_disk.specs.declared.changes.StoredFile.{StoredFile}
use Rattle.sccs_disk.specs.declared.changes.Change.{Change}
use Rattle.sccs_disk.specs.declared.changes.Change.TheVariants as made
use Rattle.sccs_disk.specs.declared.changes.FileChange.{FileChange}
use Rattle.sccs_disk.specs.declared.changes.FileChange.TheVariants as file
use Rattle.sccs_disk.proofs.Models.{names_all, names_at_pended, names_at_created, change_length}
use Rattle.sccs_disk.proofs.Places.{next}
use Rattle.sccs_disk.proofs.Puts.{same_name}

-- each name leads to one of so many places
abbrev pub AreWithin : ℕ → Names → Type 0
AreWithin count t = (n : List ℕ) (p : ℕ) → t n ≡ Some p → p < count

-- whatever of the pending operations is made
abbrev pub HasPlaces : Model → Type 0
HasPlaces m = (j : ℕ) → AreWithin (length m.files) (names_at m j)

put_value : (b : Bool) (x y : Option ℕ) (p : ℕ) → cond b x y ≡ Some p → (x ≡ Some p) ⊎ (y ≡ Some p)
put_value true x y p e = inl e
put_value false x y p e = inr e

put_within : (count : ℕ) (t : Names) (n : List ℕ) (x : Option ℕ) → ((p : ℕ) → x ≡ Some p → p < count)
    → AreWithin count t → AreWithin count (put t n x)
put_within count t n x new old k p at = ⊎_elim (λ e. new p e) (λ e. old k p e) (put_value (bytes_eq n k) x (t k) p at)

no_place : (count p : ℕ) → None ≡ Some p → p < count
no_place count p e = cc

abbrev IsNoCreate : Op → Type 0
IsNoCreate op = (count : ℕ) (t : Names) → AreWithin count t → AreWithin count (apply_operation op t)

renames : (a b : List ℕ) → IsNoCreate (Rename a b)
renames a b count t old = put_within count (put t a None) b (t a) (λ p e. old a p e) (put_within count t a None
    (no_place count) old)

removes : (n : List ℕ) → IsNoCreate (Remove n)
removes n count t old = put_within count t n None (no_place count) old

all_within : (m : Model) → HasPlaces m → AreWithin (length m.files) (names m)
all_within m has = subst (AreWithin (length m.files)) (names_all m) (has (length m.pending))

places_pended : (op : Op) (m : Model) → IsNoCreate op → HasPlaces m → HasPlaces (pended op m)
places_pended op m no_create has j =
    ⊎_elim (λ e. subst (AreWithin (length m.files)) (sym e) (has j)) (λ e. subst (AreWithin (length m.files)) (sym e)
    (no_create (length m.files) (names m) (all_within m has)))
    (names_at_pended op m j)

more_within : (count : ℕ) (t : Names) → AreWithin count t → AreWithin (count + 1) t
more_within count t old n p at = let low : p < count = old n p at in omega arith

one_more_file : (m : Model) (f : File) → length (m.files ++ f ∷ []) ≡ length m.files + 1
one_more_file m f = length-append m.files (f ∷ [])

new_place : (count p : ℕ) → Some count ≡ Some p → p < count + 1
new_place count p e = let is : count ≡ p = cc in omega arith

places_created : (n : List ℕ) (m : Model) → HasPlaces m → HasPlaces (created n m)
places_created n m has j =
    subst (λ count. AreWithin count (names_at (created n m) j)) (sym (one_more_file m _))
    (⊎_elim (λ e. subst (AreWithin (length m.files + 1)) (sym e) (more_within (length m.files) (names_at m j) (has j)))
    (λ e. subst (AreWithin (length m.files + 1)) (sym e) (put_within (length m.files + 1) (names m) n
    (Some (length m.files)) (new_place (length m.files)) (more_within (length m.files) (names m)
    (all_within m has))))
    (names_at_created n m j))

places_changed : (n : List ℕ) (g : File → File) (m : Model) → HasPlaces m → HasPlaces (changed n g m)
places_changed n g m has j = subst (λ count. AreWithin count (names_at m j)) (sym (change_length m.files (names m n) g))
    (has j)

places_settled : (m : Model) → HasPlaces m → HasPlaces (settled m)
places_settled m has zero = all_within m has
places_settled m has (suc j) = all_within m has

file_places : (n : List ℕ) (c : FileChange) (m : Model) → HasPlaces m → HasPlaces ((file_effect n c).model m)
file_places n (file.Append bytes) m has = places_changed n _ m has
file_places n (file.WriteAt from bytes) m has = places_changed n _ m has
file_places n file.Protect m has = places_changed n _ m has
file_places n file.Sync m has = places_changed n _ m has

pub places_kept : (c : Change) (m : Model) → HasPlaces m → HasPlaces ((change_effect c).model m)
places_kept (made.Create n) m has = places_created n m has
places_kept (made.File n c) m has = file_places n c m has
places_kept (made.Rename a b) m has = places_pended (Rename a b) m (renames a b) has
places_kept (made.Remove n) m has = places_pended (Remove n) m (removes n) has
places_kept made.SyncNames m has = places_settled m has

-- The places of names in memory.
found : (h : Bool) (t : Option ℕ) (p : ℕ) → cond h (Some 0) (next t) ≡ Some p → ((h ≡ true) × (p ≡ 0))
    ⊎ ((q : ℕ) × (t ≡ Some q) × (p ≡ suc q))
found true t p e = inl (refl, cc)
found false None p e = cc
found false (Some q) p e = inr (q, refl, cc)

place_within : (names : List (Option (List ℕ))) (n : List ℕ) (p : ℕ) → place_of names n ≡ Some p → p < length names
place_within [] n p at = cc
place_within (x ∷ names) n p at =
    ⊎_elim (λ here. omega (arith, here.1)) (λ later. let low : later.0 < length names =
    place_within names n later.0 later.1 in omega (arith, later.2)) (found (has_name x n) (place_of names n) p at)

one_name : (x : Option (List ℕ)) (a b : List ℕ) → has_name x a ≡ true → has_name x b ≡ true → a ≡ b
one_name None a b p q = cc
one_name (Some n) a b p q = sym (same_name n a p) ∙ same_name n b q

place_apart : (names : List (Option (List ℕ))) (a b : List ℕ) (p : ℕ) → place_of names a ≡ Some p
    → place_of names b ≡ Some p → a ≡ b
place_apart [] a b p at too = cc
place_apart (x ∷ names) a b p at too =
    ⊎_elim (λ here. ⊎_elim (λ also. one_name x a b here.0 also.0) (λ later. absurd (omega (arith, here.1, later.2)))
    (found (has_name x b) (place_of names b) p too))
    (λ later. ⊎_elim (λ also. absurd (omega (arith, also.1, later.2)))
    (λ other. let same : other.0 ≡ later.0 = omega (arith, other.2, later.2) in place_apart names a b later.0 later.1
    (other.1 ∙ ap (λ q. Some q) same))
    (found (has_name x b) (place_of names b) p too))
    (found (has_name x a) (place_of names a) p at)

pub placed : (files : List StoredFile) (names : List (Option (List ℕ))) → length names ≡ length files
    → AreNamesPlaced (record { files = map stored files; names = place_of names })
placed files names paired = record {
  within = λ n p at. let low : p < length names = place_within names n p at in
      omega (arith, length-map files stored, paired);
  apart = place_apart names;
}

-- A model whose state is that of files in memory is sane.
pub sane_from : (m : Model) (s : State) → s ≡ state m → AreNamesPlaced s → HasPlaces m → IsSane m
sane_from m s same is has =
    let now : AreNamesPlaced (state m) = subst AreNamesPlaced same is in
    record { within = has; whole = now.within; apart = now.apart }

pub placed_from : (m : Model) → IsSane m → AreNamesPlaced (state m)
placed_from m sane = record { within = sane.whole; apart = sane.apart }
