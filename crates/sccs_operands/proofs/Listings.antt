-- Names in order, each once, are known by which they are.
use Rattle.std.specs.Prelude.{is_some, T}
use Rattle.std.specs.BTreeSet.{BTreeSet}
use Rattle.std.specs.Global.{Vec}
use Rattle.std.specs.FinMap.{keys, entries, entries_sorted, contains_key-keys, nat_cmp-IsAntisymmetric}
use Rattle.std.specs.FinMap.{slice_cmp-IsAntisymmetric}
use Rattle.std.specs.FinMap.Entries.{same_entries}
use Rattle.std.specs.FinMap.Entries as entry
use Rattle.std.specs.Cmp.Lexicographic.{slice_cmp, nat_list_cmp_total, nat_list_eq_equiv}
use Rattle.std.specs.List.{AllByRecursion, list_any}
use Rattle.std.specs.List.Sorted.{IsStrictlySortedBy}
use Rattle.std.specs.Ordering.{is_lt, nat_cmp}
use Rattle.std.specs.Str.{bytes_eq}
use Rattle.std.specs.declared.cmp.Ordering.{Ordering}
use Rattle.std.specs.declared.cmp.Ordering.TheVariants.{Less, Equal, Greater}
use Rattle.std.proofs.Common.{◌≡◌, ℕ, ◌+◌, ◌<◌, Bool, true, false, cond, ◌&&◌, ◌||◌, List, [], ◌∷◌, ◌++◌, map, take}
use Rattle.std.proofs.Common.{length, get_or, Option, None, Some, IfSome, refl, sym, ap, subst, ◌∙◌}
use Rattle.std.proofs.Math.Path.{fun_ext}
use Rattle.std.proofs.lemmas.List.{take_more}
use Rattle.std.proofs.lemmas.List.Folds.{list_any-append}
use Rattle.std.proofs.lemmas.List.Kept.{IsStrictlySortedBy-filter}
use Rattle.std.proofs.lemmas.Map.Text.{is_eq-slice_cmp}
use Rattle.std.proofs.lemmas.Map.Views.{any-filter_same, list_any-from_Contains, Contains-from_any}
use Rattle.sccs_base.specs.Name.{is_sfile_name}
use Rattle.sccs_disk.specs.Files.{Folder, View, view_in}
use Rattle.sccs_disk.specs.Reads.{IsListing, Lists}
use Rattle.sccs_disk.proofs.Puts.{same_name}
use Rattle.sccs_operands.specs.FolderNames.{AreSfiles, HasSfilesOf, AreInOrder, sfiles_in}
use Rattle.sccs_base.specs.NameSets.{names_in}
use Rattle.sccs_base.proofs.Bools.{left_true}

-- ---- two lists in order with the same names are one

abbrev paired : List (List ℕ) → List (List ℕ × Unit {0})
paired names = map (λ (n : List ℕ). (n, tt)) names

abbrev firsts : {X : Type 0} → List (List ℕ × X) → List (List ℕ)
firsts es = map (λ e. e.0) es

firsts_paired : (names : List (List ℕ)) → firsts (paired names) ≡ names
firsts_paired [] = refl
firsts_paired (n ∷ names) = ap (λ rest. n ∷ rest) (firsts_paired names)

below : (n : List ℕ) (names : List (List ℕ)) → AllByRecursion (λ k. slice_cmp nat_cmp n k ≡ Less) names
    → entry.below_all (slice_cmp nat_cmp) n (paired names) ≡ true
below n [] h = refl
below n (k ∷ names) h = ap (λ r. is_lt r && entry.below_all (slice_cmp nat_cmp) n (paired names)) h.0
    ∙ below n names h.1

rises : (names : List (List ℕ)) → AreInOrder names → entry.is_sorted (slice_cmp nat_cmp) (paired names) ≡ true
unfolding IsStrictlySortedBy
rises [] h = refl
rises (n ∷ names) h = ap (λ b. b && entry.is_sorted (slice_cmp nat_cmp) (paired names)) (below n names h.0)
    ∙ rises names h.1

either_way : {A : Type 0} (a b : Bool) (x y : A) → cond a x (cond b x y) ≡ cond (a || b) x y
either_way true b x y = refl
either_way false b x y = refl

found : (q : List ℕ) (names : List (List ℕ)) → entry.find (slice_cmp nat_cmp) q (paired names) ≡ cond
    (list_any (bytes_eq q) names) (Some tt) None
found q [] = refl
found q (n ∷ names) =
    ap (λ b. cond b (Some tt) (entry.find (slice_cmp nat_cmp) q (paired names))) (is_eq-slice_cmp q n)
    ∙ (ap (λ (f : Option (Unit {0})). cond (bytes_eq q n) (Some tt) f) (found q names) ∙ either_way (bytes_eq q n)
    (list_any (bytes_eq q) names) (Some tt) None)

pub same_names : (names others : List (List ℕ)) → AreInOrder names → AreInOrder others
    → ((q : List ℕ) → list_any (bytes_eq q) names ≡ list_any (bytes_eq q) others) → names ≡ others
same_names names others first second same =
    sym (firsts_paired names)
    ∙ (ap (λ (es : List (List ℕ × Unit {0})). firsts es)
    (same_entries (slice_cmp nat_cmp) nat_list_cmp_total (slice_cmp-IsAntisymmetric nat_cmp-IsAntisymmetric)
    (paired names) (paired others) (subst T (sym (rises names first)) tt) (subst T (sym (rises others second)) tt)
    (λ q. found q names ∙ (ap (λ b. cond b (Some tt) None) (same q) ∙ sym (found q others))))
    ∙ firsts_paired others)

-- ---- the names of a folder

first_so : (a b : Bool) → T (a && b) → T a
first_so true b h = tt
first_so false b h = absurd h

second_so : (a b : Bool) → T (a && b) → T b
second_so true b h = h
second_so false b h = absurd h

less : (o : Ordering) → T (is_lt o) → o ≡ Less
less Less h = refl
less Equal h = absurd h
less Greater h = absurd h

all_above : {X : Type 0} (n : List ℕ) (es : List (List ℕ × X)) → T (entry.below_all (slice_cmp nat_cmp) n es)
    → AllByRecursion (λ k. slice_cmp nat_cmp n k ≡ Less) (firsts es)
all_above n [] h = tt
all_above n (e ∷ es) h = (less (slice_cmp nat_cmp n e.0) (first_so _ _ h), all_above n es (second_so _ _ h))

in_order : {X : Type 0} (es : List (List ℕ × X)) → T (entry.is_sorted (slice_cmp nat_cmp) es) → AreInOrder (firsts es)
unfolding IsStrictlySortedBy
in_order [] h = tt
in_order (e ∷ es) h = (all_above e.0 es (first_so _ _ h), in_order es (second_so _ _ h))

sfiles_order : (m : Folder) → AreInOrder (sfiles_in m)
sfiles_order m = IsStrictlySortedBy-filter (slice_cmp nat_cmp) is_sfile_name (keys m)
    (in_order (entries m) (entries_sorted m))

pub there_in : (m : Folder) (n : List ℕ) → list_any (bytes_eq n) (sfiles_in m) ≡ (is_sfile_name n && is_some
    (view_in m n))
there_in m n =
    any-filter_same (bytes_eq n) is_sfile_name (is_sfile_name n) (λ k is. ap is_sfile_name (sym (same_name n k is)))
    (keys m)
    ∙ ap (λ b. is_sfile_name n && b) (ap (λ (test : List ℕ → Bool). list_any test (keys m))
    (fun_ext (λ k. sym (is_eq-slice_cmp n k))) ∙ sym (contains_key-keys m n))

-- ---- the names that a disk lists

listed_there : (v : View) (names : List (List ℕ)) → IsListing v names → (n : List ℕ) → (b c : Bool)
    → list_any (bytes_eq n) names ≡ b → is_some (v n) ≡ c → b ≡ c
listed_there v names listing n true true some there = refl
listed_there v names listing n false false some there = refl
listed_there v names listing n true false some there =
    let e : false ≡ true = sym there ∙ (listing.each n).0 (Contains-from_any same_name n names some) in cc
listed_there v names listing n false true some there =
    let e : false ≡ true = sym some ∙ list_any-from_Contains nat_list_eq_equiv n names ((listing.each n).1 there) in cc

where_sfile : (a b c : Bool) → (a ≡ true → b ≡ c) → (a && b) ≡ (a && c)
where_sfile true b c h = h refl
where_sfile false b c h = refl

-- the s-files' names among those that are listed are the folder's
pub listed_names : (v : View) (m : Folder) (listed names : List (List ℕ)) → IsListing v listed → HasSfilesOf v m
    → AreInOrder names → ((n : List ℕ) → list_any (bytes_eq n) names ≡ (is_sfile_name n && list_any
    (bytes_eq n) listed)) → names ≡ sfiles_in m
listed_names v m listed names listing has order each =
    same_names names (sfiles_in m) order (sfiles_order m)
    (λ n. each n
    ∙ (where_sfile (is_sfile_name n) (list_any (bytes_eq n) listed) (is_some (view_in m n))
    (λ is. listed_there v listed listing n (list_any (bytes_eq n) listed) (is_some (v n)) refl refl
    ∙ ap is_some (sym (has n is)))
    ∙ sym (there_in m n)))

-- ---- each name of a list

or_true : (a : Bool) → (a || true) ≡ true
or_true true = refl
or_true false = refl

-- what holds of each name that a list has
pub each_named : (p : List ℕ → Bool) (names : List (List ℕ)) → ((n : List ℕ) → list_any (bytes_eq n) names ≡ true
    → p n ≡ true) → AllByRecursion (λ n. p n ≡ true) names
each_named p [] h = tt
each_named p (n ∷ names) h = (h n (first n names), each_named p names (λ k is. h k (later k n names is)))
  where
    first : (n : List ℕ) (names : List (List ℕ)) → list_any (bytes_eq n) (n ∷ names) ≡ true
    first n names = ap (λ b. b || list_any (bytes_eq n) names) (nat_list_eq_equiv.refl n)

    later : (k n : List ℕ) (names : List (List ℕ)) → list_any (bytes_eq k) names ≡ true
        → list_any (bytes_eq k) (n ∷ names) ≡ true
    later k n names is = ap (λ b. bytes_eq k n || b) is ∙ or_true (bytes_eq k n)

pub are_sfiles : (listed names : List (List ℕ)) → AreInOrder names
    → ((n : List ℕ) → list_any (bytes_eq n) names ≡ (is_sfile_name n && list_any (bytes_eq n) listed)) → AreSfiles names
are_sfiles listed names order each = record {
  order = order;
  fit = each_named is_sfile_name names (λ n is. left_true (is_sfile_name n) (list_any (bytes_eq n) listed) (sym (each n)
      ∙ is));
}

-- ---- a set of names that grows

-- the same of names one by one
shared : (a b c : Bool) → (a && b || a && c) ≡ (a && (c || (b || false)))
shared true true true = refl
shared true true false = refl
shared true false true = refl
shared true false false = refl
shared false b c = refl

as_its_own : (n name : List ℕ) (b : Bool) → bytes_eq n name ≡ b → (is_sfile_name name && b) ≡ (is_sfile_name n && b)
as_its_own n name true is = ap (λ (k : List ℕ). is_sfile_name k && true) (sym (same_name n name is))
as_its_own n name false is = none (is_sfile_name name) ∙ sym (none (is_sfile_name n))
  where
    none : (a : Bool) → (a && false) ≡ false
    none true = refl
    none false = refl

pub among_more : (n name : List ℕ) (names : List (List ℕ)) (k : ℕ) (old new : BTreeSet (Vec ℕ)) → k < length names
    → name ≡ get_or names k name → list_any (bytes_eq n) (names_in old) ≡ (is_sfile_name n && list_any (bytes_eq n)
    (take k names))
    → list_any (bytes_eq n) (names_in new) ≡ (is_sfile_name name && bytes_eq n name || list_any (bytes_eq n)
    (names_in old)) → list_any (bytes_eq n) (names_in new) ≡ (is_sfile_name n && list_any (bytes_eq n)
    (take (k + 1) names))
among_more n name names k old new low is before more =
    more
    ∙ (ap (λ b. is_sfile_name name && bytes_eq n name || b) before
    ∙ (ap (λ b. b || is_sfile_name n && list_any (bytes_eq n) (take k names)) (as_its_own n name (bytes_eq n name) refl)
    ∙ (shared (is_sfile_name n) (bytes_eq n name) (list_any (bytes_eq n) (take k names))
    ∙ ap (λ b. is_sfile_name n && b)
    (sym (ap (λ ns. list_any (bytes_eq n) ns) (take_more names k name low ∙ ap (λ (l : List ℕ). take k names ++ l ∷ [])
    (sym is)) ∙ list_any-append (bytes_eq n) (take k names) (name ∷ []))))))

-- ---- what the calls answer

all_less : (k : Vec ℕ) (ks : List (Vec ℕ)) → AllByRecursion (λ (x : Vec ℕ). slice_cmp nat_cmp k.items x.items ≡ Less) ks
    → AllByRecursion (λ n. slice_cmp nat_cmp k.items n ≡ Less) (map (λ (v : Vec ℕ). v.items) ks)
all_less k [] h = tt
all_less k (x ∷ ks) h = (h.0, all_less k ks h.1)

set_order : (ks : List (Vec ℕ)) → IsStrictlySortedBy (λ (a b : Vec ℕ). slice_cmp nat_cmp a.items b.items) ks
    → AreInOrder (map (λ (v : Vec ℕ). v.items) ks)
unfolding IsStrictlySortedBy
set_order [] h = tt
set_order (k ∷ ks) h = (all_less k ks h.0, set_order ks h.1)

-- names that are those of a set are in order
pub order_of : (names : List (List ℕ)) (kept : BTreeSet (Vec ℕ)) → names ≡ names_in kept
    → IsStrictlySortedBy (λ (a b : Vec ℕ). slice_cmp nat_cmp a.items b.items) kept.keys → AreInOrder names
order_of names kept same order = subst AreInOrder (sym same) (set_order kept.keys order)

each_kept : (listed among names : List (List ℕ)) (kept : BTreeSet (Vec ℕ)) → among ≡ listed → names ≡ names_in kept
    → ((n : List ℕ) → list_any (bytes_eq n) (names_in kept) ≡ (is_sfile_name n && list_any (bytes_eq n) among))
    → (n : List ℕ)
    → list_any (bytes_eq n) names ≡ (is_sfile_name n && list_any (bytes_eq n) listed)
each_kept listed among names kept all same each n = ap (λ ns. list_any (bytes_eq n) ns) same
    ∙ (each n ∙ ap (λ ns. is_sfile_name n && list_any (bytes_eq n) ns) all)

pub told_names : (o : Option View) (listed among names : List (List ℕ)) (kept : BTreeSet (Vec ℕ)) → Lists o listed
    → among ≡ listed → names ≡ names_in kept → AreInOrder names → ((n : List ℕ) → list_any (bytes_eq n) (names_in kept)
    ≡ (is_sfile_name n && list_any (bytes_eq n) among))
    → IfSome o (λ v. (m : Folder) → HasSfilesOf v m → names ≡ sfiles_in m)
told_names None listed among names kept lists all same order each = tt
told_names (Some v) listed among names kept lists all same order each = λ m has. listed_names v m listed names lists has
    order (each_kept listed among names kept all same each)

pub any_names : (among names : List (List ℕ)) (kept : BTreeSet (Vec ℕ)) → names ≡ names_in kept → AreInOrder names
    → ((n : List ℕ) → list_any (bytes_eq n) (names_in kept) ≡ (is_sfile_name n && list_any (bytes_eq n) among))
    → AreSfiles names
any_names among names kept same order each = are_sfiles among names order
    (each_kept among among names kept refl same each)
