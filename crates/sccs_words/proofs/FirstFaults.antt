-- One use or operand more, each judged after those before it.
use Rattle.std.proofs.Common.{◌≡◌, ℕ, ◌+◌, ◌<◌, ◌≤◌, List, [], ◌∷◌, ◌++◌, length, take, drop, get_or, Option, None}
use Rattle.std.proofs.Common.{Some, sym, ap, ◌∙◌}
use Rattle.std.proofs.lemmas.List.{drop_more, drop_all, take_more}
use Rattle.sccs_words.specs.Judge.{first_from, first_usage}
use Rattle.sccs_words.specs.declared.commands.Usage.{Usage}

next_item : {A : Type 0} (xs : List A) (i : ℕ) (x : A) → i < length xs → x ≡ get_or xs i x
    → drop i xs ≡ x ∷ drop (i + 1) xs
next_item {A} xs i x below is = drop_more xs i x below ∙ ap (λ (y : A). y ∷ drop (i + 1) xs) (sym is)

pub longer : {A : Type 0} (xs : List A) (i : ℕ) (x : A) → i < length xs → x ≡ get_or xs i x
    → take (i + 1) xs ≡ take i xs ++ x ∷ []
longer {A} xs i x below is = take_more xs i x below ∙ ap (λ (y : A). take i xs ++ y ∷ []) (sym is)

-- what is left, with its first item before it
split : {A : Type 0} (fault : List A → A → Option Usage) (xs : List A) (i : ℕ) (x : A) (total : Option Usage)
    → i < length xs → x ≡ get_or xs i x
    → first_from fault (take i xs) (drop i xs) ≡ total → first_usage (fault (take i xs) x)
    (first_from fault (take i xs ++ x ∷ []) (drop (i + 1) xs)) ≡ total
unfolding first_from
split {A} fault xs i x total below is all = ap (λ (rest : List A). first_from fault (take i xs) rest)
    (sym (next_item xs i x below is)) ∙ all

pub fault_turn : {A : Type 0} (fault : List A → A → Option Usage) (xs : List A) (i : ℕ) (x : A) (one : Usage)
    (total : Option Usage) → i < length xs → x ≡ get_or xs i x
    → Some one ≡ fault (take i xs) x → first_from fault (take i xs) (drop i xs) ≡ total → Some one ≡ total
fault_turn {A} fault xs i x one total below is found all =
    ap (λ (o : Option Usage). first_usage o (first_from fault (take i xs ++ x ∷ []) (drop (i + 1) xs))) found
    ∙ split fault xs i x total below is all

pub none_turn : {A : Type 0} (fault : List A → A → Option Usage) (xs : List A) (i : ℕ) (x : A) (total : Option Usage)
    → i < length xs → x ≡ get_or xs i x
    → None ≡ fault (take i xs) x → first_from fault (take i xs) (drop i xs) ≡ total → first_from fault (take (i + 1) xs)
    (drop (i + 1) xs) ≡ total
none_turn {A} fault xs i x total below is none all =
    ap (λ (before : List A). first_from fault before (drop (i + 1) xs)) (longer xs i x below is)
    ∙ (ap (λ (o : Option Usage). first_usage o (first_from fault (take i xs ++ x ∷ []) (drop (i + 1) xs))) none
    ∙ split fault xs i x total below is all)

pub none_end : {A : Type 0} (fault : List A → A → Option Usage) (xs : List A) (i : ℕ) (total : Option Usage)
    → length xs ≤ i
    → first_from fault (take i xs) (drop i xs) ≡ total → None ≡ total
unfolding first_from
none_end {A} fault xs i total over all = ap (λ (rest : List A). first_from fault (take i xs) rest)
    (sym (drop_all i xs over)) ∙ all
