-- The bytes of a string, so many at a time.
use Rattle.std.proofs.Common.{◌≡◌, ℕ, zero, suc, ◌+◌, ◌-◌, List, [], ◌∷◌, ◌++◌, length, take, drop, Option, None, Some}
use Rattle.std.proofs.Common.{refl, sym, ap, ◌∙◌, arith, append-nil, append_assoc}
use Rattle.std.proofs.lemmas.List.{drop-drop}
use Rattle.sccs_sid.proofs.Digits.{rest_from}
use Rattle.sccs_rcs_file.specs.Tokens.{string_in, with_raw}

pub raw_both : (a b : List ℕ) (o : Option (List ℕ × List ℕ)) → with_raw a (with_raw b o) ≡ with_raw (a ++ b) o
raw_both a b None = refl
raw_both a b (Some (raw, rest)) = ap (λ l. Some (l, rest)) (sym (append_assoc a b raw))

take_both : (n m : ℕ) (bytes : List ℕ) → take n bytes ++ take m (drop n bytes) ≡ take (n + m) bytes
take_both zero m bytes = ap (λ k. take k bytes) same
  where
    same : m ≡ 0 + m
    same = omega arith
take_both (suc n) m [] = take_nothing m ∙ sym (take_nothing (suc n + m))
  where
    take_nothing : (k : ℕ) → take {A = ℕ} k [] ≡ []
    take_nothing zero = refl
    take_nothing (suc k) = refl
take_both (suc n) m (b ∷ bytes) = ap (λ l. b ∷ l) (take_both n m bytes) ∙ sym (ap (λ k. take k (b ∷ bytes)) same)
  where
    same : suc n + m ≡ suc (n + m)
    same = omega arith

-- where it ends
pub string_ends : (bytes : List ℕ) (n : ℕ) → string_in (take (length bytes - n) (drop n bytes)) ≡ Some
    ([], drop 1 (take (length bytes - n) (drop n bytes)))
    → with_raw (take n bytes) (string_in (drop n bytes)) ≡ string_in bytes
    → Some (take n bytes, take (length bytes - (n + 1)) (drop (n + 1) bytes)) ≡ string_in bytes
string_ends bytes n ends so_far =
    ap (λ l. Some (take n bytes, l)) (rest_from (n + 1) bytes ∙ sym (drop-drop 1 n bytes))
    ∙ (ap (λ l. Some (l, drop 1 (drop n bytes))) (sym (append-nil (take n bytes)))
    ∙ (ap (λ l. with_raw (take n bytes) (Some ([], drop 1 l))) (sym (rest_from n bytes))
    ∙ (ap (λ o. with_raw (take n bytes) o) (sym ends) ∙ (ap (λ l. with_raw (take n bytes) (string_in l))
    (rest_from n bytes) ∙ so_far))))

-- where it goes on
pub string_goes_on : (bytes : List ℕ) (n more : ℕ)
    → string_in (take (length bytes - n) (drop n bytes)) ≡ with_raw (take more (take (length bytes - n) (drop n bytes)))
    (string_in (drop more (take (length bytes - n) (drop n bytes))))
    → with_raw (take n bytes) (string_in (drop n bytes)) ≡ string_in bytes
    → with_raw (take (n + more) bytes) (string_in (drop (n + more) bytes)) ≡ string_in bytes
string_goes_on bytes n more goes so_far =
    ap (λ l. with_raw l (string_in (drop (n + more) bytes))) (sym (take_both n more bytes))
    ∙ (ap (λ l. with_raw (take n bytes ++ take more (drop n bytes)) (string_in l)) (sym (drop-drop more n bytes))
    ∙ (sym (raw_both (take n bytes) (take more (drop n bytes)) (string_in (drop more (drop n bytes))))
    ∙ (ap (λ o. with_raw (take n bytes) o) (ap (λ l. with_raw (take more l) (string_in (drop more l)))
    (sym (rest_from n bytes)) ∙ (sym goes ∙ ap string_in (rest_from n bytes))) ∙ so_far)))
