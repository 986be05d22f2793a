-- How many digits fit, and what a digit more reads.
use Rattle.std.proofs.Common.{◌≡◌, ℕ, zero, suc, ◌+◌, ◌*◌, ◌-◌, ◌^◌, ◌<◌, ◌≤◌, nat_lt, cond, List, [], ◌∷◌, length}
use Rattle.std.proofs.Common.{drop, Ok, Err, arith, refl, take, inl, inr, length-drop, ap, ◌∙◌, sym, sub-one, lit<}
use Rattle.std.proofs.Math.Nat.{mul-le-mul_left, mul-le-mul_right, pow-succ', mul_assoc, le-mul_of_pos_right}
use Rattle.std.proofs.Math.Nat.{one-le-pow, pow-le-pow_right}
use Rattle.std.proofs.Math.Seq.{take-length}
use Rattle.std.proofs.lemmas.Bool.{le-ltb, lt-ltb}
use Rattle.std.specs.Prelude.{slice_get, Some, None}
use Rattle.std.specs.Char.{IsAsciiDigit, IsNotAsciiDigit}
use Rattle.sccs_sid.specs.Reading.{digits_after, number_at}

-- one digit more, and one less that may follow
pub room : (high most digit : ℕ) → 0 < most → digit < 10 → ((high * 10 + digit) + 1) * 10 ^ (most - 1) ≤
    (high + 1) * 10 ^ most
room high zero digit some low = absurd (omega arith)
room high (suc most) digit some low =
    let less : (high * 10 + digit) + 1 ≤ (high + 1) * 10 = omega arith in
    let grown : ((high * 10 + digit) + 1) * 10 ^ most ≤ ((high + 1) * 10) * 10 ^ most =
    mul-le-mul_right (10 ^ most) less in
    rw (sub-one, pow-succ') (rw mul_assoc at grown)

pub room_none : (high most : ℕ) → high + 1 ≤ (high + 1) * 10 ^ most
room_none high most = le-mul_of_pos_right (high + 1) (one-le-pow most 10 (lit< tt))

pub room_one : (high most : ℕ) → 0 < most → (high + 1) * 10 ≤ (high + 1) * 10 ^ most
room_one high zero some = absurd (omega arith)
room_one high (suc most) some =
    let grown : 10 ≤ 10 * 10 ^ most = le-mul_of_pos_right 10 (one-le-pow most 10 (lit< tt)) in
    rw pow-succ' (mul-le-mul_left (high + 1) grown)

pub pow_small : (most : ℕ) → most ≤ 19 → 10 ^ most ≤ 10 ^ 19
pow_small most low = pow-le-pow_right (lit< tt) low

-- the first byte, where it is known
first_is : (b x : ℕ) (bytes : List ℕ) → Some b ≡ slice_get (x ∷ bytes) 0 → b ≡ x
first_is b x bytes is = cc

-- what the tests of a digit choose where there is none
outside : {A : Type 0} (b : ℕ) (other digit : A) → IsNotAsciiDigit b → cond (nat_lt b 48) other
    (cond (nat_lt 57 b) other digit) ≡ other
outside b other digit (inl under) = rw (lt-ltb b 48 under) refl
outside b other digit (inr over) = rw (le-ltb b 48 (omega arith), lt-ltb 57 b over) refl

-- the bytes from a place on, as code takes them
pub rest_from : (n : ℕ) (bytes : List ℕ) → take (length bytes - n) (drop n bytes) ≡ drop n bytes
rest_from n bytes = ap (λ m. take m (drop n bytes)) (sym (length-drop n bytes)) ∙ take-length (drop n bytes)

pub rest_is : (bytes : List ℕ) → take (length bytes - 1) (drop 1 bytes) ≡ drop 1 bytes
rest_is bytes = rest_from 1 bytes

pub digits_more : (most high b : ℕ) (bytes : List ℕ) → 0 < most → Some b ≡ slice_get bytes 0 → IsAsciiDigit b
    → digits_after most high bytes ≡ digits_after (most - 1) (high * 10 + (b - 48)) (drop 1 bytes)
unfolding digits_after
digits_more zero high b bytes some is digit = absurd (omega arith)
digits_more (suc most) high b [] some is digit = cc
digits_more (suc most) high b (x ∷ bytes) some is digit =
    rw (← first_is b x bytes is, le-ltb b 48 digit.0, le-ltb 57 b digit.1, sub-one) refl

pub digits_done : (most high b : ℕ) (bytes : List ℕ) → Some b ≡ slice_get bytes 0 → IsNotAsciiDigit b
    → digits_after most high bytes ≡ (high, bytes)
unfolding digits_after
digits_done zero high b bytes is other = refl
digits_done (suc most) high b [] is other = refl
digits_done (suc most) high b (x ∷ bytes) is other = rw (← first_is b x bytes is) (outside b _ _ other)

pub digits_end : (most high : ℕ) (bytes : List ℕ) → None ≡ slice_get bytes 0 → digits_after most high bytes
    ≡ (high, bytes)
unfolding digits_after
digits_end zero high [] is = refl
digits_end (suc most) high [] is = refl
digits_end most high (x ∷ bytes) is = cc

pub digits_full : (most high : ℕ) (bytes : List ℕ) → most ≤ 0 → digits_after most high bytes ≡ (high, bytes)
unfolding digits_after
digits_full zero high bytes none = refl
digits_full (suc most) high bytes none = absurd (omega arith)

pub number_digit : (most b : ℕ) (bytes : List ℕ) → Some b ≡ slice_get bytes 0 → IsAsciiDigit b
    → number_at most bytes ≡ Ok (digits_after (most - 1) (b - 48) (drop 1 bytes))
unfolding number_at
number_digit most b [] is digit = cc
number_digit most b (x ∷ bytes) is digit =
    rw (← first_is b x bytes is, le-ltb b 48 digit.0, le-ltb 57 b digit.1) refl

pub number_other : (most b : ℕ) (bytes : List ℕ) → Some b ≡ slice_get bytes 0 → IsNotAsciiDigit b
    → number_at most bytes ≡ Err (length bytes)
unfolding number_at
number_other most b [] is other = refl
number_other most b (x ∷ bytes) is other = rw (← first_is b x bytes is) (outside b _ _ other)

pub number_none : (most : ℕ) (bytes : List ℕ) → None ≡ slice_get bytes 0 → number_at most bytes ≡ Err 0
unfolding number_at
number_none most [] is = refl
number_none most (x ∷ bytes) is = cc
