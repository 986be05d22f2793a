-- A map from names that is changed at one of them.
use Rattle.std.proofs.Common.{◌≡◌, ℕ, ◌⊎◌, Bool, true, false, cond, List, Option, inl, inr, refl, ap}
use Rattle.std.specs.Str.{bytes_eq}
use Rattle.std.proofs.Math.Path.{fun_ext}
use Rattle.std.proofs.lemmas.Slice.Eq.{bytes_eq-Decides}
use Rattle.sccs_base.proofs.SameBytes.{same_bytes}
use Rattle.sccs_disk.specs.Files.{put}

-- two names are one
pub same_name : (a b : List ℕ) → bytes_eq a b ≡ true → a ≡ b
same_name a b e = (bytes_eq-Decides a b).0 e

by_test : (a b : List ℕ) (t : Bool) → bytes_eq a b ≡ t → (a ≡ b) ⊎ (bytes_eq a b ≡ false)
by_test a b true e = inl (same_name a b e)
by_test a b false e = inr e

-- two names are one, or differ
pub name_cases : (a b : List ℕ) → (a ≡ b) ⊎ (bytes_eq a b ≡ false)
name_cases a b = by_test a b (bytes_eq a b) refl

pub put_same : {X : Type 0} (t : List ℕ → Option X) (n : List ℕ) (x : Option X) → put t n x n ≡ x
put_same t n x = ap (λ b. cond b x (t n)) (same_bytes n)

pub put_other : {X : Type 0} (t : List ℕ → Option X) (n k : List ℕ) (x : Option X) → bytes_eq n k ≡ false
    → put t n x k ≡ t k
put_other t n k x e = ap (λ b. cond b x (t k)) e

kept : {X : Type 0} (t : List ℕ → Option X) (n k : List ℕ) (b : Bool) → bytes_eq n k ≡ b → cond b (t n) (t k) ≡ t k
kept t n k true e = ap t (same_name n k e)
kept t n k false e = refl

-- what a name has, put there once more
pub put_back : {X : Type 0} (t : List ℕ → Option X) (n : List ℕ) → put t n (t n) ≡ t
put_back t n = fun_ext (λ k. kept t n k (bytes_eq n k) refl)

again : {X : Type 0} (x y z : Option X) (b : Bool) → cond b y (cond b x z) ≡ cond b y z
again x y z true = refl
again x y z false = refl

pub put_again : {X : Type 0} (t : List ℕ → Option X) (n : List ℕ) (x y : Option X) → put (put t n x) n y ≡ put t n y
put_again t n x y = fun_ext (λ k. again x y (t k) (bytes_eq n k))
