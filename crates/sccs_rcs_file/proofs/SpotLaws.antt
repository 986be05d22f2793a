-- Where items stand by their names.
use Rattle.std.proofs.Common.{◌≡◌, ℕ, suc, ◌-◌, ◌≤◌, Bool, true, false, not, List, [], ◌∷◌, cond, Bor, Option, None}
use Rattle.std.proofs.Common.{Some, is_some, refl, sym, ap, subst, ◌∙◌, arith, length, ◌<◌, slice_get, drop, get_or}
use Rattle.std.specs.Prelude.{if◌then◌else◌}
use Rattle.std.specs.BTreeMap.{BTreeMap, UpdatesBy}
use Rattle.std.specs.Cmp.Lexicographic.{slice_cmp}
use Rattle.std.specs.Ordering.{nat_cmp}
use Rattle.std.specs.Str.{bytes_eq}
use Rattle.std.proofs.lemmas.Map.Text.{btree_map_updates_str}
use Rattle.std.proofs.lemmas.Slice.Eq.{bytes_eq-Decides}
use Rattle.std.proofs.Math.Seq.{drop-cons}
use Rattle.sccs_history.specs.Numbers.{is_empty}
use Rattle.sccs_sid.specs.Words.{one}
use Rattle.sccs_rcs_file.specs.Lookups.{named, one_named}
use Rattle.sccs_rcs_file.specs.Spots.{item_of, spot_at, spot_from}
use Rattle.sccs_rcs_file.specs.declared.spots.Spot.{Spot}

some_by : {A : Type 0} (t : Bool) (x : A) (xs : List A) (s : Spot) (o : Option Spot) → is_some o ≡ not (is_empty xs)
    → is_some (if t then Some s else o) ≡ not (is_empty (if t then x ∷ xs else xs))
some_by true x xs s o same = refl
some_by false x xs s o same = same

-- an item of a name has a spot
some_spot : {A : Type 0} (name_of : A → List ℕ) (at : ℕ) (items : List A) (name : List ℕ)
    → is_some (spot_from name_of at items name) ≡ not (is_empty (named name_of name items))
some_spot name_of at [] name = refl
some_spot name_of at (x ∷ items) name = some_by (bytes_eq (name_of x) name) x (named name_of name items) _
    (spot_from name_of (suc at) items name) (some_spot name_of (suc at) items name)

abbrev Spots : Type 0
Spots = BTreeMap (Bor (List ℕ)) Spot

put_by : {A : Type 0} (name_of : A → List ℕ) (at : ℕ) (x : A) (items : List A) (again : Bool) (name : List ℕ)
    (old : Option Spot) (t : Bool) → bytes_eq (name_of x) name ≡ t
    → again ≡ not (is_empty (named name_of (name_of x) items)) → old ≡ spot_from name_of (suc at) items name
    → cond t (Some (record { at = at; again = again })) old ≡ cond t
    (Some (record { at = at; again = not (is_empty (named name_of name items)) }))
    (spot_from name_of (suc at) items name)
put_by name_of at x items again name old true is again-is same =
    let equal : name_of x ≡ name = (bytes_eq-Decides (name_of x) name).0 is in
    ap (λ t. Some (record { at = at; again = t })) (again-is ∙ ap (λ n. not (is_empty (named name_of n items))) equal)
put_by name_of at x items again name old false is again-is same = same

-- the spots of items with one more in front
pub spot_put : {A : Type 0} (name_of : A → List ℕ) (at : ℕ) (x : A) (items : List A) (m n : Spots) (again : Bool)
    → again ≡ is_some (spot_at m (name_of x))
    → ((name : List ℕ) → spot_at m name ≡ spot_from name_of (suc at) items name)
    → UpdatesBy (λ a b. slice_cmp nat_cmp a.now b.now) (λ k. slice_cmp nat_cmp (name_of x) k.now) m n
    (Some (record { at = at; again = again }))
    → (name : List ℕ) → spot_at n name ≡ spot_from name_of at (x ∷ items) name
spot_put name_of at x items m n again again-is so_far updates name =
    btree_map_updates_str (name_of x) m n (Some (record { at = at; again = again })) updates name
    ∙ put_by name_of at x items again name (spot_at m name) (bytes_eq (name_of x) name) refl
    (again-is ∙ (ap (λ o. is_some o) (so_far (name_of x)) ∙ some_spot name_of (suc at) items (name_of x))) (so_far name)

-- ---- the item of a spot

is_here : {A : Type 0} (x : A) (items : List A) (at : ℕ) → Some x ≡ slice_get (x ∷ items) (at - at)
is_here x items at = ap (λ k. slice_get (x ∷ items) k) (none at)
  where
    none : (k : ℕ) → 0 ≡ k - k
    none k = omega arith

alone : {A : Type 0} (x : A) (xs items : List A) (at : ℕ) → one (x ∷ xs) ≡ (if not (is_empty xs) then None
    else slice_get (x ∷ items) (at - at))
alone x [] items at = is_here x items at
alone x (y ∷ xs) items at = refl

-- the item of a spot that is counted from a place on
item_from : {A : Type 0} → ℕ → List A → Option Spot → Option A
item_from at items None = None
item_from at items (Some s) = if s.again then None else slice_get items (s.at - at)

-- spots of items from a place on are not before it
IsFrom : ℕ → Option Spot → Type 0
IsFrom at None = Unit {0}
IsFrom at (Some s) = at ≤ s.at

from_by : (at : ℕ) (again : Bool) (o : Option Spot) (t : Bool) → IsFrom (suc at) o
    → IsFrom at (if t then Some (record { at = at; again = again }) else o)
unfolding IsFrom
from_by at again o true is = omega arith
from_by at again None false is = tt
from_by at again (Some s) false is = omega (arith, is)

spots_from : {A : Type 0} (name_of : A → List ℕ) (at : ℕ) (items : List A) (name : List ℕ)
    → IsFrom at (spot_from name_of at items name)
unfolding IsFrom
spots_from name_of at [] name = tt
spots_from name_of at (x ∷ items) name = from_by at (not (is_empty (named name_of name items)))
    (spot_from name_of (suc at) items name) (bytes_eq (name_of x) name) (spots_from name_of (suc at) items name)

item_behind : {A : Type 0} (x : A) (at : ℕ) (items : List A) (o : Option Spot) → IsFrom (suc at) o
    → item_from (suc at) items o ≡ item_from at (x ∷ items) o
unfolding IsFrom item_from
item_behind x at items None is = refl
item_behind x at items (Some s) is = ap (λ k. if s.again then None else slice_get (x ∷ items) k) less
  where
    less : suc (s.at - suc at) ≡ s.at - at
    less = omega (arith, is)

one_by : {A : Type 0} (x : A) (xs items : List A) (at : ℕ) (o : Option Spot) (t : Bool) → IsFrom (suc at) o
    → one xs ≡ item_from (suc at) items o
    → one (if t then x ∷ xs else xs) ≡ item_from at (x ∷ items)
    (if t then Some (record { at = at; again = not (is_empty xs) }) else o)
unfolding item_from
one_by x xs items at o true is same = alone x xs items at
one_by x xs items at o false is same = same ∙ item_behind x at items o is

one_from : {A : Type 0} (name_of : A → List ℕ) (at : ℕ) (items : List A) (name : List ℕ)
    → one (named name_of name items) ≡ item_from at items (spot_from name_of at items name)
unfolding item_from
one_from name_of at [] name = refl
one_from name_of at (x ∷ items) name =
    one_by x (named name_of name items) items at (spot_from name_of (suc at) items name) (bytes_eq (name_of x) name)
    (spots_from name_of (suc at) items name) (one_from name_of (suc at) items name)

from_start : {A : Type 0} (items : List A) (o : Option Spot) → item_from 0 items o ≡ item_of items o
unfolding item_from
from_start items None = refl
from_start items (Some s) = ap (λ k. if s.again then None else slice_get items k) same
  where
    same : s.at - 0 ≡ s.at
    same = omega arith

-- the item of a spot is the one of its name
pub spot_is_one : {A : Type 0} (name_of : A → List ℕ) (items : List A) (name : List ℕ) (o : Option Spot)
    → o ≡ spot_from name_of 0 items name → item_of items o ≡ one_named name_of name items
spot_is_one name_of items name o is = ap (λ s. item_of items s) is
    ∙ (sym (from_start items (spot_from name_of 0 items name)) ∙ sym (one_from name_of 0 items name))

-- the items from one place before on
pub spots_grow : {A : Type 0} (name_of : A → List ℕ) (at : ℕ) (items : List A) (x : A) (key : List ℕ) (m n : Spots)
    (again : Bool)
    → 0 < at → at ≤ length items → x ≡ get_or items (at - 1) x → key ≡ name_of x → again ≡ is_some (spot_at m key)
    → ((name : List ℕ) → spot_at m name ≡ spot_from name_of at (drop at items) name)
    → UpdatesBy (λ a b. slice_cmp nat_cmp a.now b.now) (λ k. slice_cmp nat_cmp key k.now) m n
    (Some (record { at = at - 1; again = again }))
    → (name : List ℕ) → spot_at n name ≡ spot_from name_of (at - 1) (drop (at - 1) items) name
spots_grow name_of at items x key m n again some low item-is key-is again-is so_far updates name =
    spot_put name_of (at - 1) x (drop (suc (at - 1)) items) m n again
    (subst (λ k. again ≡ is_some (spot_at m k)) key-is again-is)
    (λ q. subst (λ k. spot_at m q ≡ spot_from name_of k (drop k items) q) (sym more) (so_far q))
    (subst (λ k. UpdatesBy (λ a b. slice_cmp nat_cmp a.now b.now) (λ (k2 : Bor (List ℕ)). slice_cmp nat_cmp k k2.now) m
    n (Some (record { at = at - 1; again = again }))) key-is updates)
    name
    ∙ ap (λ l. spot_from name_of (at - 1) l name) (sym (drop-cons items (at - 1) x (omega (arith, some, low))
    ∙ ap (λ y. y ∷ drop (suc (at - 1)) items) (sym item-is)))
  where
    more : suc (at - 1) ≡ at
    more = omega (arith, some)
