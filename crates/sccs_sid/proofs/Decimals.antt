-- A written number is read back.
use Rattle.std.proofs.Common.{◌≡◌, ℕ, zero, suc, ◌+◌, ◌-◌, ◌*◌, ◌/◌, ◌%◌, ◌^◌, ◌<◌, ◌≤◌, ◌==◌, true, false, cond, List}
use Rattle.std.proofs.Common.{[], ◌∷◌, ◌++◌, Ok, refl, ap, ◌∙◌, arith, eq-eqb, inl, inr, lit<}
use Rattle.std.proofs.lemmas.Bool.{lt-ltb, ne_eqb, cases_lt}
use Rattle.std.proofs.Math.Nat.{pow-succ', pow-le-pow_right}
use Rattle.std.specs.Prelude.{decimal}
use Rattle.std.specs.Char.{IsNotAsciiDigit}
use Rattle.std.specs.Fmt.{digits, digits_onto, digit_glyph}
use Rattle.sccs_sid.specs.Reading.{number_at, digits_after}
use Rattle.sccs_sid.proofs.Digits.{digits_more, digits_done, number_digit}

-- no digit comes next
abbrev pub NoDigit : List ℕ → Type 0
NoDigit [] = Unit {0}
NoDigit (b ∷ bytes) = IsNotAsciiDigit b

pub digits_stop : (most n : ℕ) (rest : List ℕ) → NoDigit rest → digits_after most n rest ≡ (n, rest)
unfolding digits_after
digits_stop zero n rest none = refl
digits_stop (suc most) n [] none = refl
digits_stop (suc most) n (b ∷ bytes) none = digits_done (suc most) n b (b ∷ bytes) refl none

glyph_is : (d : ℕ) → d < 10 → digit_glyph false d ≡ 48 + d
glyph_is d low = rw (lt-ltb d 10 low) refl

digit_read : (most high d : ℕ) (bytes : List ℕ) → 0 < most → d < 10 → digits_after most high ((48 + d) ∷ bytes)
    ≡ digits_after (most - 1) (high * 10 + d) bytes
digit_read most high d bytes some low =
    digits_more most high (48 + d) ((48 + d) ∷ bytes) some refl (omega arith, omega arith)
    ∙ ap (λ x. digits_after (most - 1) (high * 10 + x) bytes) (omega arith)

first_read : (most d : ℕ) (bytes : List ℕ) → d < 10 → number_at most ((48 + d) ∷ bytes) ≡ Ok
    (digits_after (most - 1) d bytes)
first_read most d bytes low =
    number_digit most (48 + d) ((48 + d) ∷ bytes) refl (omega arith, omega arith)
    ∙ ap (λ x. Ok (digits_after (most - 1) x bytes)) (omega arith)

-- What reading the digits of n leaves: at least so many digits may follow.
record Reads (spare n most : ℕ) (bytes behind : List ℕ) : Type 0 where
  more : ℕ
  enough : spare ≤ more
  is : number_at most bytes ≡ Ok (digits_after more n behind)

one_digit : (k n : ℕ) (behind : List ℕ) → n < 10 → digits_onto (suc k) 10 false n behind ≡ (48 + n) ∷ behind
one_digit k n behind low =
    let last : digit_glyph false (n % 10) ≡ 48 + n = glyph_is (n % 10) (omega arith) ∙ omega arith in
    let none : (n / 10 == 0) ≡ true = eq-eqb (n / 10) 0 (omega arith) in
    rw (none, last) refl

more_digits : (k n : ℕ) (behind : List ℕ) → 10 ≤ n → digits_onto (suc k) 10 false n behind ≡ digits_onto k 10 false
    (n / 10) ((48 + n % 10) ∷ behind)
more_digits k n behind high =
    let last : digit_glyph false (n % 10) ≡ 48 + n % 10 = glyph_is (n % 10) (omega arith) in
    let some : (n / 10 == 0) ≡ false = ne_eqb (n / 10) 0 (λ e. omega arith) in
    rw (some, last) refl

reads_one : (k j spare n : ℕ) (behind : List ℕ) → n < 10 → Reads spare n (suc j + spare)
    (digits_onto (suc k) 10 false n behind) behind
reads_one k j spare n behind low =
    record {
      more = suc j + spare - 1;
      enough = omega arith;
      is = ap (number_at (suc j + spare)) (one_digit k n behind low) ∙ first_read (suc j + spare) n behind low;
    }

reads_more : (k j spare n : ℕ) (behind : List ℕ) → 10 ≤ n → Reads (suc spare) (n / 10) (suc j + suc spare)
    (digits_onto (suc k) 10 false (n / 10) ((48 + n % 10) ∷ behind)) ((48 + n % 10) ∷ behind)
    → Reads spare n (suc (suc j) + spare) (digits_onto (suc (suc k)) 10 false n behind) behind
reads_more k j spare n behind high before =
    let bytes : List ℕ = digits_onto (suc k) 10 false (n / 10) ((48 + n % 10) ∷ behind) in
    let same : suc (suc j) + spare ≡ suc j + suc spare = omega arith in
    let whole : n / 10 * 10 + n % 10 ≡ n = omega arith in
    record {
      more = before.more - 1;
      enough = omega arith;
      is = ap (number_at (suc (suc j) + spare)) (more_digits (suc k) n behind high)
          ∙ (ap (λ m. number_at m bytes) same
          ∙ (before.is ∙ ap Ok (digit_read before.more (n / 10) (n % 10) behind (omega arith) (omega arith)
          ∙ ap (λ h. digits_after (before.more - 1) h behind) whole)));
    }

onto_reads : (k j spare n : ℕ) (behind : List ℕ) → n < 10 ^ suc j → n < 10 ^ suc k → Reads spare n (suc j + spare)
    (digits_onto (suc k) 10 false n behind) behind
onto_reads zero j spare n behind small fuel = reads_one zero j spare n behind fuel
onto_reads (suc k) zero spare n behind small fuel = reads_one (suc k) zero spare n behind small
onto_reads (suc k) (suc j) spare n behind small fuel =
    let less : n / 10 < 10 ^ suc j = omega (arith, pow-succ' 10 (suc j)) in
    let room : n / 10 < 10 ^ suc k = omega (arith, pow-succ' 10 (suc k)) in
    elim (cases_lt n 10) [
      | inl low ↦ reads_one (suc k) (suc j) spare n behind low
      | inr high ↦ reads_more k j spare n behind high (onto_reads k j (suc spare) (n / 10) ((48 + n % 10) ∷ behind) less
          room)
    ]

onto_append : (k n : ℕ) (acc rest : List ℕ) → digits_onto k 10 false n acc ++ rest ≡ digits_onto k 10 false n
    (acc ++ rest)
onto_append zero n acc rest = refl
onto_append (suc k) n acc rest =
    elim (n / 10 == 0) as (λ test. cond test (digit_glyph false (n % 10) ∷ acc) (digits_onto k 10 false (n / 10)
    (digit_glyph false (n % 10) ∷ acc)) ++ rest
    ≡ cond test (digit_glyph false (n % 10) ∷ (acc ++ rest)) (digits_onto k 10 false (n / 10)
    (digit_glyph false (n % 10) ∷ (acc ++ rest)))) [
      | true ↦ refl
      | false ↦ onto_append k (n / 10) (digit_glyph false (n % 10) ∷ acc) rest
    ]

onto_round_trip : (k j n : ℕ) (rest : List ℕ) → n < 10 ^ suc j → n < 10 ^ suc k → NoDigit rest
    → number_at (suc j) (digits_onto (suc k) 10 false n [] ++ rest) ≡ Ok (n, rest)
onto_round_trip k j n rest small fuel none =
    let reads = onto_reads k j 0 n rest small fuel in
    ap (number_at (suc j)) (onto_append (suc k) n [] rest)
    ∙ (ap (λ m. number_at m (digits_onto (suc k) 10 false n rest)) (omega arith)
    ∙ (reads.is ∙ ap Ok (digits_stop reads.more n rest none)))

decimal_onto : (n : ℕ) → decimal n ≡ digits_onto 64 10 false n []
unfolding digits
decimal_onto n = refl

pub number_round_trip : (most n : ℕ) (rest : List ℕ) → 0 < most → most ≤ 64 → n < 10 ^ most → NoDigit rest
    → number_at most (decimal n ++ rest) ≡ Ok (n, rest)
number_round_trip zero n rest some few small none = absurd (omega arith)
number_round_trip (suc j) n rest some few small none =
    let fuel : n < 10 ^ 64 = omega (arith, pow-le-pow_right {n = 10} (lit< tt) {i = suc j} {j = 64} few) in
    ap (λ bytes. number_at (suc j) (bytes ++ rest)) (decimal_onto n) ∙ onto_round_trip 63 j n rest small fuel none
