-- A set of names that grows.
use Rattle.std.specs.BTreeSet.{BTreeSet, contains_by, insert_key}
use Rattle.std.specs.Cmp.Lexicographic.{slice_cmp}
use Rattle.std.specs.FinMap.{nat_cmp-IsAntisymmetric, slice_cmp-IsAntisymmetric}
use Rattle.std.specs.Global.{Vec}
use Rattle.std.specs.List.{list_any}
use Rattle.std.specs.Ordering.{is_eq, match_ordering, nat_cmp}
use Rattle.std.specs.Str.{bytes_eq}
use Rattle.std.specs.declared.cmp.Ordering.{Ordering}
use Rattle.std.specs.declared.cmp.Ordering.TheVariants.{Less, Equal, Greater}
use Rattle.std.proofs.Common.{◌≡◌, ℕ, ◌+◌, ◌<◌, Bool, true, false, ◌||◌, List, [], ◌∷◌, ◌++◌, map, take, length, get_or}
use Rattle.std.proofs.Common.{refl, sym, ap, ◌∙◌}
use Rattle.std.proofs.lemmas.List.{take_more}
use Rattle.std.proofs.lemmas.List.Folds.{list_any-append}
use Rattle.std.proofs.lemmas.Map.Text.{is_eq-slice_cmp}
use Rattle.sccs_base.specs.NameSets.{HasNames, names_in}

take_other : (a b c : Bool) → (a || (b || c)) ≡ (b || (a || c))
take_other true true c = refl
take_other true false c = refl
take_other false true c = refl
take_other false false c = refl

take_twice : (a b : Bool) → (a || b) ≡ (a || (a || b))
take_twice true b = refl
take_twice false b = refl

insert_by : (n : List ℕ) (k x : Vec ℕ) (xs : List (Vec ℕ)) (o : Ordering) → slice_cmp nat_cmp k.items x.items ≡ o
    → list_any (bytes_eq n) (map (λ (v : Vec ℕ). v.items)
    (insert_key (λ (a b : Vec ℕ). slice_cmp nat_cmp a.items b.items) xs k)) ≡ (bytes_eq n k.items || list_any
    (bytes_eq n) (map (λ (v : Vec ℕ). v.items) xs))
    → list_any (bytes_eq n) (map (λ (v : Vec ℕ). v.items) (match_ordering o (k ∷ x ∷ xs) (x ∷ xs)
    (x ∷ insert_key (λ (a b : Vec ℕ). slice_cmp nat_cmp a.items b.items) xs k)))
    ≡ (bytes_eq n k.items || (bytes_eq n x.items || list_any (bytes_eq n) (map (λ (v : Vec ℕ). v.items) xs)))
insert_by n k x xs Less is rest = refl
insert_by n k x xs Equal is rest =
    let same : k.items ≡ x.items = slice_cmp-IsAntisymmetric nat_cmp-IsAntisymmetric k.items x.items is in
    take_twice (bytes_eq n x.items) (list_any (bytes_eq n) (map (λ (v : Vec ℕ). v.items) xs))
    ∙ ap (λ b. bytes_eq n b || (bytes_eq n x.items || list_any (bytes_eq n) (map (λ (v : Vec ℕ). v.items) xs)))
    (sym same)
insert_by n k x xs Greater is rest =
    ap (λ b. bytes_eq n x.items || b) rest ∙ take_other (bytes_eq n x.items) (bytes_eq n k.items)
    (list_any (bytes_eq n) (map (λ (v : Vec ℕ). v.items) xs))

inserted : (n : List ℕ) (k : Vec ℕ) (xs : List (Vec ℕ))
    → list_any (bytes_eq n) (map (λ (v : Vec ℕ). v.items)
    (insert_key (λ (a b : Vec ℕ). slice_cmp nat_cmp a.items b.items) xs k)) ≡ (bytes_eq n k.items || list_any
    (bytes_eq n) (map (λ (v : Vec ℕ). v.items) xs))
inserted n k [] = refl
inserted n k (x ∷ xs) = insert_by n k x xs (slice_cmp nat_cmp k.items x.items) refl (inserted n k xs)

-- a name more
pub name_more : (n name : List ℕ) (k : Vec ℕ) (old new : BTreeSet (Vec ℕ)) → k.items ≡ name
    → new.keys ≡ insert_key (λ (a b : Vec ℕ). slice_cmp nat_cmp a.items b.items) old.keys k
    → list_any (bytes_eq n) (names_in new) ≡ (bytes_eq n name || list_any (bytes_eq n) (names_in old))
name_more n name k old new same keys =
    ap (λ (ks : List (Vec ℕ)). list_any (bytes_eq n) (map (λ (v : Vec ℕ). v.items) ks)) keys
    ∙ (inserted n k old.keys ∙ ap (λ (bytes : List ℕ). bytes_eq n bytes || list_any (bytes_eq n) (names_in old)) same)

-- ---- looking up

among : (n : List ℕ) (ks : List (Vec ℕ)) → list_any (λ (k : Vec ℕ). is_eq (slice_cmp nat_cmp n k.items)) ks ≡ list_any
    (bytes_eq n) (map (λ (v : Vec ℕ). v.items) ks)
among n [] = refl
among n (k ∷ ks) = ap (λ b. b || list_any (λ (k : Vec ℕ). is_eq (slice_cmp nat_cmp n k.items)) ks)
    (is_eq-slice_cmp n k.items) ∙ ap (λ b. bytes_eq n k.items || b) (among n ks)

pub found : (n : List ℕ) (set : BTreeSet (Vec ℕ)) → contains_by (λ (k : Vec ℕ). slice_cmp nat_cmp n k.items) set
    ≡ list_any (bytes_eq n) (names_in set)
found n set = among n set.keys

-- ---- names one by one

last_first : (a b : Bool) → (a || b) ≡ (b || (a || false))
last_first true true = refl
last_first true false = refl
last_first false true = refl
last_first false false = refl

pub names_more : (names : List (List ℕ)) (k : ℕ) (name bytes : List ℕ) (old new : BTreeSet (Vec ℕ)) → k < length names
    → name ≡ get_or names k name → bytes ≡ name → HasNames old (take k names)
    → ((n : List ℕ) → list_any (bytes_eq n) (names_in new) ≡ (bytes_eq n bytes || list_any (bytes_eq n) (names_in old)))
    → HasNames new (take (k + 1) names)
names_more names k name bytes old new low is same has more = λ n.
    more n
    ∙ (ap (λ b. bytes_eq n bytes || b) (has n)
    ∙ (ap (λ (l : List ℕ). bytes_eq n l || list_any (bytes_eq n) (take k names)) same
    ∙ (last_first (bytes_eq n name) (list_any (bytes_eq n) (take k names))
    ∙ sym (ap (λ ns. list_any (bytes_eq n) ns) (take_more names k name low ∙ ap (λ (l : List ℕ). take k names ++ l ∷ [])
    (sym is)) ∙ list_any-append (bytes_eq n) (take k names) (name ∷ [])))))
