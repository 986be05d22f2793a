-- Lists that are given item by item.
use Rattle.std.proofs.Common.{◌≡◌, ℕ, ◌+◌, ◌<◌, ◌≤◌, List, [], ◌∷◌, ◌++◌, append_assoc, append-nil, length, take}
use Rattle.std.proofs.Common.{flat_map, get_or, Option, Result, Err, OnErr, sym, ap, subst, ◌∙◌, arith}
use Rattle.std.specs.Result.{OnErr}
use Rattle.sccs_base.specs.Causes.{GivesText}
use Rattle.sccs_base.specs.Stream.{GivesOk, GivesSome, Rose}
use Rattle.sccs_base.proofs.Runs.{some_of_pieces}
use Rattle.sccs_base.proofs.Rises.{rose_later}

-- A text was given, and no count fell.
pub record HasGiven (text : List ℕ) (a b : Option (List ℕ)) (n m : ℕ) : Type 0 where
  pub given : GivesOk a b text
  pub later : n ≤ m

-- one item fails
pub item_fails : {X T E : Type 0} (f : X → List ℕ) (xs items : List X) → items ≡ xs → (i : ℕ) (x d : X)
    → i < length items → x ≡ get_or items i d → (a b c : Option (List ℕ)) (n m k : ℕ) (r : Result T E) (fault other : E)
    → r ≡ Err fault
    → HasGiven (flat_map f (take i xs)) a b n m → GivesText (f x) b c m k r → GivesText {T = Unit {0}}
    (flat_map f xs) a c n k (Err other)
item_fails {X} {T} {E} f xs items same i x d below is a b c n m k r fault other failed so_far text =
    let there : i < length xs = subst (λ (l : List X). i < length l) same below in
    let item : get_or xs i d ≡ x = ap (λ (l : List X). get_or l i d) (sym same) ∙ sym is in
    let some : GivesSome b c (f x) = subst (λ (s : Result T E). OnErr s (GivesSome b c (f x))) failed text.err in
    let rose : Rose m k = subst (λ (s : Result T E). OnErr s (Rose m k)) failed text.cause in
    record {
      ok = tt;
      err = some_of_pieces f a b c xs i d there so_far.given (subst (λ (y : X). GivesSome b c (f y)) (sym item) some);
      later = omega (arith, so_far.later, text.later);
      cause = rose_later n m k so_far.later rose;
    }

-- texts with a slash between two
pub slashed_rest : (a b : List ℕ) → (a ++ 47 ∷ []) ++ b ≡ a ++ (47 ∷ b)
slashed_rest a b = append_assoc a (47 ∷ []) b

pub slashed_whole : (a b c : List ℕ) → ((a ++ 47 ∷ []) ++ (b ++ 47 ∷ [])) ++ c ≡ a ++ (47 ∷ (b ++ (47 ∷ c)))
slashed_whole a b c = append_assoc (a ++ 47 ∷ []) (b ++ 47 ∷ []) c ∙ (slashed_rest a ((b ++ 47 ∷ []) ++ c)
    ∙ ap (λ t. a ++ (47 ∷ t)) (slashed_rest b c))

pub three_slashed : (a a2 b b2 c c2 : List ℕ) → a2 ≡ a → b2 ≡ b → c2 ≡ c → a2 ++ (47 ∷ (b2 ++ (47 ∷ (c2 ++ [])))) ≡ a
    ++ (47 ∷ (b ++ (47 ∷ c)))
three_slashed a a2 b b2 c c2 first second third =
    ap (λ t. t ++ (47 ∷ (b2 ++ (47 ∷ (c2 ++ []))))) first
    ∙ (ap (λ t. a ++ (47 ∷ (t ++ (47 ∷ (c2 ++ []))))) second ∙ ap (λ t. a ++ (47 ∷ (b ++ (47 ∷ t)))) (append-nil c2
    ∙ third))

pub three_words : (a a2 b b2 c c2 rest : List ℕ) → a2 ≡ a → b2 ≡ b → c2 ≡ c → a2 ++ (32 ∷ (b2 ++ (32 ∷ (c2 ++ rest))))
    ≡ a ++ (32 ∷ (b ++ (32 ∷ (c ++ rest))))
three_words a a2 b b2 c c2 rest first second third =
    ap (λ t. t ++ (32 ∷ (b2 ++ (32 ∷ (c2 ++ rest))))) first ∙ (ap (λ t. a ++ (32 ∷ (t ++ (32 ∷ (c2 ++ rest))))) second
    ∙ ap (λ t. a ++ (32 ∷ (b ++ (32 ∷ (t ++ rest))))) third)
