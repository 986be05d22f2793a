-- Four or five digits before LF, each looked at by itself, are a serial as it is written.
use Rattle.std.proofs.Common.{◌≡◌, ◌≢◌, ◌&&◌, nat_eq, nat_lt, slice_index_or, true, ℕ, zero, suc, ◌+◌, ◌-◌, ◌*◌, ◌<◌}
use Rattle.std.proofs.Common.{◌≤◌, false, inl, List, [], ◌∷◌, ◌++◌, length, drop, Ok, refl, sym, ap, ◌∙◌, arith}
use Rattle.std.specs.Prelude.{decimal}
use Rattle.std.specs.Int.{IsInRange}
use Rattle.std.proofs.lemmas.Bool.{and_parts, eqb-true, ltb-true, ne_eqb}
use Rattle.sccs_sid.specs.Reading.{digits_after, number_at}
use Rattle.sccs_sid.specs.SidLists.{begins}
use Rattle.sccs_tokens.specs.Items.{IsWrittenSerial}
use Rattle.sccs_tokens.specs.Written.{IsSerial}
use Rattle.sccs_tokens.proofs.NumberLaws.{digit_more, number_first, stops_at}
use Rattle.sccs_tokens.proofs.ControlLaws.{count_is, same_serial, written}

-- ---- digits

-- a digit and its value
abbrev pub IsDigit : ℕ → ℕ → Type 0
IsDigit b x = (b ≡ 48 + x) × (x < 10)

in_range : (b x : ℕ) → IsDigit b x → IsInRange 48 57 b
in_range b x is = (omega (arith, is.0, is.1), omega (arith, is.0, is.1))

four_are : (a b c d x y z w : ℕ) → IsDigit a x → IsDigit b y → IsDigit c z → IsDigit d w
    → (((a - 48) * 10 + (b - 48)) * 10 + (c - 48)) * 10 + (d - 48) ≡ ((a * 10 + b) * 10 + c) * 10 + d - 53328
four_are a b c d x y z w first second third fourth = omega (arith, first.0, second.0, third.0, fourth.0)

-- four digits, by their bytes
pub four_read : (a b c d x y z w : ℕ) → IsDigit a x → IsDigit b y → IsDigit c z → IsDigit d w → (rest : List ℕ)
    → number_at 5 (a ∷ b ∷ c ∷ d ∷ rest) ≡ Ok (digits_after 1 (((a * 10 + b) * 10 + c) * 10 + d - 53328) rest)
four_read a b c d x y z w first second third fourth rest =
    let one = a - 48 in
    let two = one * 10 + (b - 48) in
    let three = two * 10 + (c - 48) in
    let more = digit_more 3 one b (c ∷ d ∷ rest) (in_range b y second)
    ∙ (digit_more 2 two c (d ∷ rest) (in_range c z third) ∙ digit_more 1 three d rest (in_range d w fourth)) in
    number_first 5 a (b ∷ c ∷ d ∷ rest) (in_range a x first)
    ∙ ap Ok (more ∙ ap (λ n. digits_after 1 n rest) (four_are a b c d x y z w first second third fourth))

taken : (n b : ℕ) (rest : List ℕ) → b ≡ 10 → digits_after 0 n (b ∷ rest) ≡ (n, 10 ∷ rest)
unfolding digits_after
taken n b rest is = ap (λ c. (n, c ∷ rest)) is

-- a fifth digit before LF
pub one_more : (four e f x : ℕ) (rest : List ℕ) → IsDigit e x → f ≡ 10 → digits_after 1 four (e ∷ f ∷ rest)
    ≡ (four * 10 + x, 10 ∷ rest)
one_more four e f x rest digit is =
    digit_more 0 four e (f ∷ rest) (in_range e x digit) ∙ (taken (four * 10 + (e - 48)) f rest is
    ∙ ap (λ n. (four * 10 + n, 10 ∷ rest)) (omega (arith, digit.0)))

-- LF behind the fourth
pub no_more : (four e f : ℕ) (rest : List ℕ) → e ≡ 10 → digits_after 1 four (e ∷ f ∷ rest) ≡ (four, 10 ∷ f ∷ rest)
no_more four e f rest is = stops_at 1 four e (f ∷ rest) (inl (omega (arith, is))) ∙ ap (λ b. (four, b ∷ f ∷ rest)) is

-- ---- the serial

-- what was read of the first bytes: a number before LF, by this many digits
pub record IsRead (bytes : List ℕ) (n count : ℕ) : Type 0 where
  pub behind : List ℕ
  pub number : number_at 5 bytes ≡ Ok (n, 10 ∷ behind)
  pub long : count + length (10 ∷ behind) ≡ length bytes

long_is : (k f : ℕ) (rest : List ℕ) → k ≤ 1 → 4 + k + suc (length (drop k (f ∷ rest))) ≡ suc
    (suc (suc (suc (suc (suc (length rest))))))
long_is zero f rest few = omega arith
long_is (suc zero) f rest few = omega arith
long_is (suc (suc k)) f rest few = absurd (omega arith)

six_bytes : (bytes : List ℕ) → 6 ≤ length bytes
    → bytes ≡ slice_index_or bytes 0 0 ∷ slice_index_or bytes 1 0 ∷ slice_index_or bytes 2 0 ∷ slice_index_or bytes 3 0
    ∷ slice_index_or bytes 4 0 ∷ slice_index_or bytes 5 0 ∷ drop 6 bytes
six_bytes [] long = absurd (omega arith)
six_bytes (a ∷ []) long = absurd (omega arith)
six_bytes (a ∷ b ∷ []) long = absurd (omega arith)
six_bytes (a ∷ b ∷ c ∷ []) long = absurd (omega arith)
six_bytes (a ∷ b ∷ c ∷ d ∷ []) long = absurd (omega arith)
six_bytes (a ∷ b ∷ c ∷ d ∷ e ∷ []) long = absurd (omega arith)
six_bytes (a ∷ b ∷ c ∷ d ∷ e ∷ f ∷ rest) long = refl

-- four digits, one more or none, and LF
pub read_is : (bytes : List ℕ) (four n end k : ℕ) → 6 ≤ length bytes
    → ((more : List ℕ) → number_at 5 (slice_index_or bytes 0 0 ∷ slice_index_or bytes 1 0 ∷ slice_index_or bytes 2 0
    ∷ slice_index_or bytes 3 0 ∷ more) ≡ Ok (digits_after 1 four more))
    → ((more : List ℕ) → end ≡ 10 → digits_after 1 four (slice_index_or bytes 4 0 ∷ slice_index_or bytes 5 0 ∷ more)
    ≡ (n, 10 ∷ drop k (slice_index_or bytes 5 0 ∷ more)))
    → k ≤ 1 → (nat_eq end 10 && nat_lt n 65536) ≡ true → IsRead bytes n (4 + k)
read_is bytes four n end k long read behind few test =
    let e = slice_index_or bytes 4 0 in
    let f = slice_index_or bytes 5 0 in
    let rest = drop 6 bytes in
    let is = six_bytes bytes long in
    let lf = eqb-true end 10 (and_parts (nat_eq end 10) (nat_lt n 65536) test).0 in
    record {
      behind = drop k (f ∷ rest);
      number = ap (number_at 5) is ∙ (read (e ∷ f ∷ rest) ∙ ap Ok (behind rest lf));
      long = long_is k f rest few ∙ sym (ap length is);
    }

pub read_sound : (bytes : List ℕ) (n count end : ℕ) → 6 ≤ length bytes → slice_index_or bytes 0 0 ≢ 48
    → IsRead bytes n count → 0 < n → (nat_eq end 10 && nat_lt n 65536) ≡ true → IsWrittenSerial bytes n count
read_sound bytes n count end long other is some test =
    let plain : begins 48 bytes ≡ false = ap (begins 48) (six_bytes bytes long)
    ∙ ne_eqb (slice_index_or bytes 0 0) 48 other in
    let low = ltb-true n 65536 (and_parts (nat_eq end 10) (nat_lt n 65536) test).1 in
    written bytes (10 ∷ is.behind) n count is.number refl plain some low is.long

pub read_again : (bytes rest : List ℕ) (m n count : ℕ) → IsRead bytes m count → IsSerial n
    → bytes ≡ decimal n ++ 10 ∷ rest → ◌≡◌ {A = ℕ × ℕ} (m, count) (n, length (decimal n))
read_again bytes rest m n count is serial at =
    let same = same_serial n m rest (10 ∷ is.behind) bytes serial at is.number in
    ap (λ k. (k, count)) same.0 ∙ ap (λ k. (n, k)) (count_is n m count rest (10 ∷ is.behind) bytes serial at is.number
    is.long)
