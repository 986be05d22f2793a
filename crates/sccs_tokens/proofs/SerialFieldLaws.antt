-- A serial behind one blank, without zeros in front, is a serial field.
use Rattle.std.proofs.Common.{◌≡◌, ◌≢◌, ◌⊎◌, inl, inr, ℕ, zero, suc, ◌+◌, ◌*◌, ◌-◌, ◌<◌, ◌≤◌, ◌==◌, nat_lt, true, false}
use Rattle.std.proofs.Common.{List, [], ◌∷◌, Option, Some, None, refl, sym, ap, ◌∙◌, arith, append-nil}
use Rattle.std.specs.List.{AllByRecursion}
use Rattle.std.specs.Option.{IfSome}
use Rattle.std.proofs.lemmas.Bool.{cases_Bool, ltb-false}
use Rattle.sccs_sid.specs.Reading.{only, whole, is_empty, skip, digits_after, number_at, number}
use Rattle.sccs_sid.specs.Words.{words, ends_blank}
use Rattle.sccs_tokens.specs.Tokens.{serial, plain_serial, serial_field}
use Rattle.sccs_tokens.proofs.WordLaws.{HasNoBlank, IsWord, words-nil, words-blank, word_first, ends-word}

-- ---- the digits of a number

no_byte : {P : Type 0} (b : ℕ) (bytes : List ℕ) → b ∷ bytes ≡ [] → P
no_byte b bytes is = absurd cc

left_over : {P : Type 0} (m n b : ℕ) (bytes : List ℕ) → ◌≡◌ {A = ℕ × List ℕ} (m, b ∷ bytes) (n, []) → P
left_over m n b bytes is = no_byte b bytes (ap (λ (x : ℕ × List ℕ). x.1) is)

none_is : {P : Type 0} (n : ℕ) → None ≡ Some n → P
none_is n is = absurd cc

-- bytes from 48 on, as digits are
abbrev pub AreHigh : List ℕ → Type 0
AreHigh bytes = AllByRecursion (λ b. 48 ≤ b) bytes

-- a byte below them isn't among them
pub none_below : (k : ℕ) (bytes : List ℕ) → k < 48 → AreHigh bytes → AllByRecursion (λ b. b ≢ k) bytes
none_below k [] low are = tt
none_below k (b ∷ bytes) low are = (λ is. absurd (omega (arith, are.0, is)), none_below k bytes low are.1)

after_digit : (most high b : ℕ) (bytes : List ℕ) (n : ℕ) → (nat_lt b 48 ≡ true) ⊎ (nat_lt b 48 ≡ false)
    → (nat_lt 57 b ≡ true) ⊎ (nat_lt 57 b ≡ false)
    → digits_after (suc most) high (b ∷ bytes) ≡ (n, []) → ((h : ℕ) → digits_after most h bytes ≡ (n, [])
    → AreHigh bytes) → AreHigh (b ∷ bytes)
unfolding digits_after
after_digit most high b bytes n (inl low) past is more = left_over high n b bytes (rw low at is)
after_digit most high b bytes n (inr digit) (inl past) is more = left_over high n b bytes (rw (digit, past) at is)
after_digit most high b bytes n (inr digit) (inr last) is more =
    (ltb-false b 48 digit, more (high * 10 + (b - 48)) (rw (digit, last) at is))

digits_high : (most high : ℕ) (bytes : List ℕ) (n : ℕ) → digits_after most high bytes ≡ (n, []) → AreHigh bytes
unfolding digits_after
digits_high most high [] n is = tt
digits_high zero high (b ∷ bytes) n is = left_over high n b bytes is
digits_high (suc most) high (b ∷ bytes) n is =
    after_digit most high b bytes n (cases_Bool (nat_lt b 48)) (cases_Bool (nat_lt 57 b)) is
    (λ h. digits_high most h bytes n)

whole_is : (x : ℕ × List ℕ) (n : ℕ) → only (is_empty x.1) x.0 ≡ Some n → x ≡ (n, [])
whole_is (m, []) n is = cc
whole_is (m, b ∷ bytes) n is = absurd cc

first_digit : (most b : ℕ) (bytes : List ℕ) (n : ℕ) → (nat_lt b 48 ≡ true) ⊎ (nat_lt b 48 ≡ false)
    → (nat_lt 57 b ≡ true) ⊎ (nat_lt 57 b ≡ false) → whole (number_at most (b ∷ bytes)) ≡ Some n → AreHigh (b ∷ bytes)
unfolding number_at
first_digit most b bytes n (inl low) past is = none_is n (rw low at is)
first_digit most b bytes n (inr digit) (inl past) is = none_is n (rw (digit, past) at is)
first_digit most b bytes n (inr digit) (inr last) is = (
  ltb-false b 48 digit,
  digits_high (most - 1) (b - 48) bytes n (whole_is (digits_after (most - 1) (b - 48) bytes) n
      (rw (digit, last) at is)),
)

pub number_high : (most b : ℕ) (bytes : List ℕ) (n : ℕ) → number most (b ∷ bytes) ≡ Some n → AreHigh (b ∷ bytes)
unfolding number
number_high most b bytes n is = first_digit most b bytes n (cases_Bool (nat_lt b 48)) (cases_Bool (nat_lt 57 b)) is

-- ---- its serial field

lone_word : (word : List ℕ) → IsWord word → words word ≡ word ∷ []
lone_word word is = ap words (sym (append-nil word)) ∙ (word_first word [] is tt ∙ ap (λ ws. word ∷ ws) words-nil)

bare_serial_field : (b : ℕ) (word : List ℕ) → b == 48 ≡ false → HasNoBlank (b ∷ word) → serial_field (32 ∷ b ∷ word)
    ≡ serial (b ∷ word)
unfolding serial_field ends_blank skip
bare_serial_field b word other bare = rw (
  ends-word (b ∷ word) bare,
  words-blank (b ∷ word) ∙ lone_word (b ∷ word) bare,
  other,
) refl

serial_some : (b n : ℕ) (word : List ℕ) (read : Option ℕ) → number 5 (b ∷ word) ≡ read → serial (b ∷ word) ≡ Some n
    → HasNoBlank (b ∷ word)
unfolding serial
serial_some b n word None none is = none_is n (rw none at is)
serial_some b n word (Some m) some is = none_below 32 (b ∷ word) (omega arith) (number_high 5 b word m some)

plain_serial_field : (b n : ℕ) (word : List ℕ) → (b == 48 ≡ true) ⊎ (b == 48 ≡ false) → plain_serial (b ∷ word) ≡ Some n
    → serial_field (32 ∷ b ∷ word) ≡ Some n
plain_serial_field b n word (inl zeros) is = none_is n (rw zeros at is)
plain_serial_field b n word (inr other) is =
    let plain : serial (b ∷ word) ≡ Some n = rw other at is in
    bare_serial_field b word other (serial_some b n word (number 5 (b ∷ word)) refl plain) ∙ plain

pub placed : (word : List ℕ) (n : ℕ) → plain_serial word ≡ Some n → serial_field (32 ∷ word) ≡ Some n
placed [] n is = absurd cc
placed (b ∷ word) n is = plain_serial_field b n word (cases_Bool (b == 48)) is

placed_so : (word : List ℕ) (o : Option ℕ) → plain_serial word ≡ o → IfSome o (λ n. Some n ≡ serial_field (32 ∷ word))
placed_so word None is = tt
placed_so word (Some n) is = sym (placed word n is)

pub written_serial_field : (word : List ℕ) → IfSome (plain_serial word) (λ n. Some n ≡ serial_field (32 ∷ word))
written_serial_field word = placed_so word (plain_serial word) refl
