-- Texts that are given one after the other.
use Rattle.std.proofs.Common.{◌≡◌, ℕ, ◌≤◌, List, [], ◌∷◌, ◌++◌, ap, ◌∙◌, append_assoc, Option, Result, Ok, Err, OnOk}
use Rattle.std.proofs.Common.{OnErr, sym, subst, arith}
use Rattle.std.specs.Result.{OnOk, OnErr}
use Rattle.sccs_base.specs.Causes.{GivesText}
use Rattle.sccs_base.specs.Stream.{GivesOk, GivesSome, Rose}
use Rattle.sccs_keywords.specs.Expansion.{what_mark}
use Rattle.sccs_base.proofs.Gifts.{gives_both, gives_then, some_longer}
use Rattle.sccs_base.proofs.Rises.{rose_later}

ok_of : {T E : Type 0} (P : Type 0) (q : Result T E) (done : T) → q ≡ Ok done → OnOk q P → P
ok_of P q done is on = subst (λ (s : Result _ _). OnOk s P) is on

err_of : {T E : Type 0} (P : Type 0) (q : Result T E) (fault : E) → q ≡ Err fault → OnErr q P → P
err_of P q fault is on = subst (λ (s : Result _ _). OnErr s P) is on

-- a text is given, and what is given behind it or fails
pub text_then : {T U E : Type 0} (x y z : List ℕ) (a b c : Option (List ℕ)) (f g h : ℕ) (q : Result U E)
    (r : Result T E) (done : U)
    → x ++ y ≡ z → q ≡ Ok done → GivesText x a b f g q → GivesText y b c g h r → GivesText z a c f h r
text_then x y z a b c f g h q r done same is first second = subst (λ text. GivesText text a c f h r) same
    (joined (ok_of (GivesOk a b x) q done is first.ok) r second)
  where
    joined : {T E : Type 0} → GivesOk a b x → (r : Result T E) → GivesText y b c g h r → GivesText (x ++ y) a c f h r
    joined gave (Ok last) second =
        record {
          ok = gives_both a b c x y gave second.ok;
          err = tt;
          later = omega (arith, first.later, second.later);
          cause = tt;
        }
    joined gave (Err fault) second =
        record {
          ok = tt;
          err = gives_then a b c x y gave second.err;
          later = omega (arith, first.later, second.later);
          cause = rose_later f g h first.later second.cause;
        }

-- a text of which some was given is longer
pub text_fails : {U E : Type 0} (x y z : List ℕ) (a b : Option (List ℕ)) (f g : ℕ) (q : Result U E) (fault other : E)
    → x ++ y ≡ z → q ≡ Err fault → GivesText x a b f g q → GivesText {T = Unit {0}} z a b f g (Err other)
text_fails x y z a b f g q fault other same is first = record {
  ok = tt;
  err = subst (λ text. GivesSome a b text) same (some_longer a b x y (err_of (GivesSome a b x) q fault is first.err));
  later = first.later;
  cause = err_of (Rose f g) q fault is first.cause;
}

-- behind what was given a text is given, or some of it
pub after_given : {T E : Type 0} (x y : List ℕ) (a b c : Option (List ℕ)) (f g h : ℕ) (r : Result T E) → GivesOk a b x
    → f ≤ g → GivesText y b c g h r → GivesText (x ++ y) a c f h r
after_given x y a b c f g h (Ok last) gave low second =
    record { ok = gives_both a b c x y gave second.ok; err = tt; later = omega (arith, low, second.later); cause = tt }
after_given x y a b c f g h (Err fault) gave low second =
    record {
      ok = tt;
      err = gives_then a b c x y gave second.err;
      later = omega (arith, low, second.later);
      cause =
          rose_later f g h low second.cause;
    }

pub given_ok : {T E : Type 0} (x : List ℕ) (a b : Option (List ℕ)) (f g : ℕ) (r : Result T E) (done : T) → r ≡ Ok done
    → GivesText x a b f g r → GivesOk a b x
given_ok x a b f g r done is text = ok_of (GivesOk a b x) r done is text.ok

pub what_text : (m m2 s : List ℕ) → m2 ≡ m → (what_mark ++ (m2 ++ 9 ∷ [])) ++ s ≡ what_mark ++ (m ++ (9 ∷ s))
what_text m m2 s same = ap (λ l. what_mark ++ l) (append_assoc m2 (9 ∷ []) s ∙ ap (λ l. l ++ (9 ∷ s)) same)

pub assembly_text : (k k2 m m2 s t : List ℕ) → k2 ≡ k → m2 ≡ m → ((what_mark ++ (k2 ++ (32 ∷ (m2 ++ 32 ∷ [])))) ++ s)
    ++ t ≡ what_mark ++ (k ++ (32 ∷ (m ++ (32 ∷ (s ++ t)))))
assembly_text k k2 m m2 s t kind_is module_is =
    ap (λ l. what_mark ++ l)
    (ap (λ l. l ++ t) (append_assoc k2 (32 ∷ (m2 ++ 32 ∷ [])) s)
    ∙ (append_assoc k2 (32 ∷ ((m2 ++ 32 ∷ []) ++ s)) t
    ∙ (ap (λ l. k2 ++ (32 ∷ l)) (ap (λ l. l ++ t) (append_assoc m2 (32 ∷ []) s) ∙ append_assoc m2 (32 ∷ s) t)
    ∙ (ap (λ l. l ++ (32 ∷ (m2 ++ (32 ∷ (s ++ t))))) kind_is ∙ ap (λ l. k ++ (32 ∷ (l ++ (32 ∷ (s ++ t)))))
    module_is))))

pub assembly_rest : (k k2 m m2 s t : List ℕ) → k2 ≡ k → m2 ≡ m → (what_mark ++ (k2 ++ (32 ∷ (m2 ++ 32 ∷ []))))
    ++ (s ++ t) ≡ what_mark ++ (k ++ (32 ∷ (m ++ (32 ∷ (s ++ t)))))
assembly_rest k k2 m m2 s t kind_is module_is = sym (append_assoc (what_mark ++ (k2 ++ (32 ∷ (m2 ++ 32 ∷ [])))) s t)
    ∙ assembly_text k k2 m m2 s t kind_is module_is

pub text_whole : {T E : Type 0} (x z : List ℕ) (a b : Option (List ℕ)) (f g : ℕ) (r : Result T E) → x ≡ z
    → GivesText x a b f g r → GivesText z a b f g r
text_whole x z a b f g r same text = subst (λ l. GivesText l a b f g r) same text
