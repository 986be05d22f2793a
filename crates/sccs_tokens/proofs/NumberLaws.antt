-- A written number is read again.
use Rattle.std.proofs.Common.{◌≡◌, ℕ, zero, suc, ◌+◌, ◌-◌, ◌*◌, ◌^◌, ◌<◌, ◌≤◌, ◌⊎◌, inl, inr, List, [], ◌∷◌, ◌++◌}
use Rattle.std.proofs.Common.{length, Ok, Some, refl, sym, ap, ◌∙◌, arith, append-nil, zero-add}
use Rattle.std.specs.Prelude.{decimal}
use Rattle.std.specs.Char.{digit_value}
use Rattle.std.specs.Int.{IsInRange}
use Rattle.std.specs.Str.Parse.{digits_value_after, digits_value, AllDigits, IsNumeral}
use Rattle.std.proofs.lemmas.Bool.{le-ltb, lt-ltb}
use Rattle.std.proofs.lemmas.Str.{digit_value_digit}
use Rattle.std.proofs.lemmas.Str.Parse.{digit_from_value}
use Rattle.std.proofs.lemmas.Fmt.{decimal_is_IsNumeral, length-decimal-le}
use Rattle.sccs_sid.specs.Reading.{digits_after, number_at, number, whole}
use Rattle.sccs_tokens.proofs.WordLaws.{IsWord, HasNoBlank}

-- what may stand behind a number: no digit
abbrev pub Stops : List ℕ → Type 0
Stops [] = Unit {0}
Stops (b ∷ bytes) = (b < 48) ⊎ (57 < b)

pub stops_at : (most high b : ℕ) (bytes : List ℕ) → (b < 48) ⊎ (57 < b) → digits_after most high (b ∷ bytes)
    ≡ (high, b ∷ bytes)
unfolding digits_after
stops_at zero high b bytes other = refl
stops_at (suc most) high b bytes (inl low) = rw (lt-ltb b 48 low) refl
stops_at (suc most) high b bytes (inr over) = rw (le-ltb b 48 (omega arith), lt-ltb 57 b over) refl

stops : (most high : ℕ) (rest : List ℕ) → Stops rest → digits_after most high rest ≡ (high, rest)
unfolding digits_after
stops zero high [] ends = refl
stops (suc most) high [] ends = refl
stops most high (b ∷ rest) ends = stops_at most high b rest ends

pub digit_more : (most high c : ℕ) (bytes : List ℕ) → IsInRange 48 57 c → digits_after (suc most) high (c ∷ bytes)
    ≡ digits_after most (high * 10 + (c - 48)) bytes
unfolding digits_after
digit_more most high c bytes digit =
    rw (le-ltb c 48 (omega arith), le-ltb 57 c (omega arith)) refl

digit_is : (c : ℕ) → IsInRange 48 57 c → c - 48 ≡ digit_value c
digit_is c digit = let is = digit_value_digit c digit in omega arith

pub digits_all : (most high : ℕ) (ds rest : List ℕ) → AllDigits 10 ds → length ds ≤ most → Stops rest
    → digits_after most high (ds ++ rest) ≡ (digits_value_after 10 high ds, rest)
digits_all most high [] rest are room ends = stops most high rest ends
digits_all zero high (c ∷ ds) rest are room ends = absurd (omega arith)
digits_all (suc most) high (c ∷ ds) rest are room ends =
    let digit = digit_from_value c are.0 in
    digit_more most high c (ds ++ rest) digit
    ∙ (ap (λ n. digits_after most (high * 10 + n) (ds ++ rest)) (digit_is c digit)
    ∙ digits_all most (high * 10 + digit_value c) ds rest are.1 (omega arith) ends)

pub number_first : (most c : ℕ) (bytes : List ℕ) → IsInRange 48 57 c → number_at most (c ∷ bytes) ≡ Ok
    (digits_after (most - 1) (c - 48) bytes)
unfolding number_at
number_first most c bytes digit = rw (le-ltb c 48 (omega arith), le-ltb 57 c (omega arith)) refl

-- digits, at most as many as are read
pub numeral_again : (most : ℕ) (ds rest : List ℕ) → IsNumeral 10 ds → length ds ≤ most → Stops rest
    → number_at most (ds ++ rest) ≡ Ok (digits_value 10 ds, rest)
numeral_again most [] rest are room ends = absurd (omega (arith, are.0))
numeral_again most (c ∷ ds) rest are room ends =
    let digit = digit_from_value c are.1.0 in
    number_first most c (ds ++ rest) digit
    ∙ ap Ok (ap (λ n. digits_after (most - 1) n (ds ++ rest)) (digit_is c digit) ∙ digits_all (most - 1)
    (digit_value c) ds rest are.1.1 (omega arith) ends)
    ∙ ap (λ n. Ok (digits_value_after 10 n ds, rest)) (sym (zero-add (digit_value c)))

pub number_again : (most n : ℕ) (rest : List ℕ) → 0 < most → n < 10 ^ most → n < 2 ^ 64 → Stops rest
    → number_at most (decimal n ++ rest) ≡ Ok (n, rest)
number_again most n rest some small wide ends =
    let is = decimal_is_IsNumeral n wide in
    numeral_again most (decimal n) rest is.0 (length-decimal-le most n some small wide) ends
    ∙ ap (λ v. Ok (v, rest)) is.1

pub whole_number : (most n : ℕ) → 0 < most → n < 10 ^ most → n < 2 ^ 64 → number most (decimal n) ≡ Some n
unfolding number
whole_number most n some small wide =
    ap whole (ap (number_at most) (sym (append-nil (decimal n))) ∙ number_again most n [] some small wide tt)

-- ---- a decimal is a word, and doesn't begin with a zero

no_blanks : (ds : List ℕ) → AllDigits 10 ds → HasNoBlank ds
no_blanks [] are = tt
no_blanks (c ∷ ds) are = let digit = digit_from_value c are.0 in ((λ is. absurd (omega arith)), no_blanks ds are.1)

numeral_word : (ds : List ℕ) → IsNumeral 10 ds → IsWord ds
numeral_word [] are = absurd (omega (arith, are.0))
numeral_word (c ∷ ds) are = no_blanks (c ∷ ds) are.1

pub decimal_word : (n : ℕ) → n < 2 ^ 64 → IsWord (decimal n)
decimal_word n wide = numeral_word (decimal n) (decimal_is_IsNumeral n wide).0
