-- Where a component of a SID ends, and where none goes on.
use Rattle.std.proofs.Common.{◌≡◌, ℕ, zero, suc, ◌+◌, ◌-◌, ◌*◌, ◌<◌, ◌≤◌, ◌==◌, ◌⊎◌, true, false, List, [], ◌∷◌, ◌++◌}
use Rattle.std.proofs.Common.{length, Result, Ok, Err, refl, sym, ap, subst, ◌∙◌, arith, inl, inr, length-append, lit≤}
use Rattle.std.proofs.Common.{if◌then◌else◌}
use Rattle.std.proofs.lemmas.Bool.{cases_lt, ne_eqb, eqb-true, cases_Bool}
use Rattle.std.specs.Char.{IsAsciiDigit, IsNotAsciiDigit}
use Rattle.sccs_sid.specs.Reading.{digits_after, number_at}
use Rattle.sccs_sid.specs.SidLists.{zero_fault, component_at}
use Rattle.sccs_sid.proofs.Decimals.{NoDigit, digits_stop}
use Rattle.sccs_sid.proofs.Digits.{digits_more, number_digit, number_other}

digit_or : (b : ℕ) → IsAsciiDigit b ⊎ IsNotAsciiDigit b
digit_or b =
    elim (cases_lt b 48) [
      | inl low ↦ inr (inl low)
      | inr high ↦ elim (cases_lt 57 b) [ inl over ↦ inr (inr over) | inr fits ↦ inl (high, fits) ]
    ]

-- The digits that are read behind a number, and the rest.
record Taken (most high : ℕ) (bytes : List ℕ) : Type 0 where
  ds : List ℕ
  rest : List ℕ
  n : ℕ
  split : bytes ≡ ds ++ rest
  few : length ds ≤ most
  onward : (r : List ℕ) → digits_after most high (ds ++ r) ≡ digits_after (most - length ds) n r
  ends : NoDigit rest ⊎ (length ds ≡ most)

one_more_digit : (most high b : ℕ) (r : List ℕ) → IsAsciiDigit b → digits_after (suc most) high (b ∷ r)
    ≡ digits_after most (high * 10 + (b - 48)) r
one_more_digit most high b r digit =
    digits_more (suc most) high b (b ∷ r) (omega arith) refl digit ∙ ap (λ k. digits_after k (high * 10 + (b - 48)) r)
    (omega arith)

taken : (most high : ℕ) (bytes : List ℕ) → Taken most high bytes
taken zero high bytes = record {
  ds = [];
  rest = bytes;
  n = high;
  split = refl;
  few = omega arith;
  onward = λ r. refl;
  ends = inr refl;
}
taken (suc most) high [] = record {
  ds = [];
  rest = [];
  n = high;
  split = refl;
  few = omega arith;
  onward =
      λ r. ap (λ k. digits_after k high r) (omega arith);
  ends = inl tt;
}
taken (suc most) high (b ∷ bytes) =
    elim (digit_or b) [
      | inl digit ↦
          let t : Taken most (high * 10 + (b - 48)) bytes = taken most (high * 10 + (b - 48)) bytes in
          record {
            ds = b ∷ t.ds;
            rest = t.rest;
            n = t.n;
            split = ap (λ (l : List ℕ). b ∷ l) t.split;
            few = omega (arith, t.few);
            onward = λ r. one_more_digit most high b (t.ds ++ r) digit
                ∙ (t.onward r ∙ ap (λ k. digits_after k t.n r) (omega arith));
            ends = elim t.ends [ inl none ↦ inl none | inr full ↦ inr (omega (arith, full)) ];
          }
      | inr other ↦ record {
        ds = [];
        rest = b ∷ bytes;
        n = high;
        split = refl;
        few = omega arith;
        onward =
            λ r. ap (λ k. digits_after k high r) (omega arith);
        ends = inl other;
      }
    ]

none_more : (n : ℕ) (bytes : List ℕ) → digits_after 0 n bytes ≡ (n, bytes)
unfolding digits_after
none_more n bytes = refl

-- the number and the rest, where no more digits can be read
stops : (most high : ℕ) (bytes : List ℕ) (t : Taken most high bytes) (r : List ℕ) → NoDigit r ⊎ (length t.ds ≡ most)
    → digits_after most high (t.ds ++ r) ≡ (t.n, r)
stops most high bytes t r (inl none) = t.onward r ∙ digits_stop (most - length t.ds) t.n r none
stops most high bytes t r (inr full) = t.onward r ∙ (ap (λ k. digits_after k t.n r) (omega arith) ∙ none_more t.n r)

-- what a number is as a component
abbrev judged : List ℕ → ℕ × List ℕ → Result (ℕ × List ℕ) ℕ
judged bytes x = if x.0 == 0 then Err (zero_fault bytes x.1) else Ok x

component_digit : (b : ℕ) (bytes : List ℕ) → IsAsciiDigit b → component_at (b ∷ bytes) ≡ judged (b ∷ bytes)
    (digits_after 3 (b - 48) bytes)
unfolding component_at
component_digit b bytes digit = rw (number_digit 4 b (b ∷ bytes) refl digit) refl

component_other : (b : ℕ) (bytes : List ℕ) → IsNotAsciiDigit b → component_at (b ∷ bytes) ≡ Err (suc (length bytes))
unfolding component_at
component_other b bytes other = rw (number_other 4 b (b ∷ bytes) refl other) refl

component_none : component_at [] ≡ Err 0
unfolding component_at number_at
component_none = refl

judged_ok : (bytes rest : List ℕ) (n : ℕ) → (n == 0) ≡ false → judged bytes (n, rest) ≡ Ok (n, rest)
judged_ok bytes rest n some = rw some refl

judged_err : (bytes rest : List ℕ) (n : ℕ) → (n == 0) ≡ true → judged bytes (n, rest) ≡ Err (zero_fault bytes rest)
judged_err bytes rest n none = rw none refl

-- A component was read: its digits, and what they are before other bytes.
pub record Component (bytes : List ℕ) (n : ℕ) (rest : List ℕ) : Type 0 where
  pub c : ℕ
  pub cs : List ℕ
  pub split : bytes ≡ c ∷ (cs ++ rest)
  pub before : (r : List ℕ) → NoDigit r → component_at (c ∷ (cs ++ r)) ≡ Ok (n, r)
  pub alike : (b : ℕ) (bs more : List ℕ) → rest ≡ b ∷ bs → component_at (c ∷ (cs ++ (b ∷ more))) ≡ Ok (n, b ∷ more)

same_start : (b : ℕ) (bs more rest : List ℕ) → rest ≡ b ∷ bs → NoDigit rest → NoDigit (b ∷ more)
same_start b bs more rest is none = subst NoDigit is none

read_digits : (b : ℕ) (bytes : List ℕ) (t : Taken 3 (b - 48) bytes) → IsAsciiDigit b → (t.n == 0) ≡ false
    → Component (b ∷ bytes) t.n t.rest
read_digits b bytes t digit some =
    let at : (r : List ℕ) → NoDigit r ⊎ (length t.ds ≡ 3) → component_at (b ∷ (t.ds ++ r)) ≡ Ok (t.n, r) =
    λ r ends. component_digit b (t.ds ++ r) digit ∙ (ap (judged (b ∷ (t.ds ++ r))) (stops 3 (b - 48) bytes t r ends)
    ∙ judged_ok (b ∷ (t.ds ++ r)) r t.n some) in
    record {
      c = b;
      cs = t.ds;
      split = ap (λ (l : List ℕ). b ∷ l) t.split;
      before = λ r none. at r (inl none);
      alike = λ d bs more is. at (d ∷ more) (elim t.ends [
        | inl none ↦ inl (same_start d bs more t.rest is none)
        | inr
            full ↦ inr full
      ]);
    }

whole_digits : (b : ℕ) (bytes : List ℕ) (t : Taken 3 (b - 48) bytes) → IsAsciiDigit b → component_at (b ∷ bytes)
    ≡ judged (b ∷ bytes) (t.n, t.rest)
whole_digits b bytes t digit =
    component_digit b bytes digit ∙ ap (judged (b ∷ bytes)) (ap (digits_after 3 (b - 48)) t.split
    ∙ stops 3 (b - 48) bytes t t.rest t.ends)

pub component_taken : (bytes : List ℕ) (x : ℕ × List ℕ) → component_at bytes ≡ Ok x → Component bytes x.0 x.1
component_taken [] x is = let none = component_none in cc
component_taken (b ∷ bytes) x is =
    elim (digit_or b) [
      | inl digit ↦
          let t = taken 3 (b - 48) bytes in
          let whole = whole_digits b bytes t digit in
          elim (cases_Bool (t.n == 0)) [
            | inl none ↦ let fault = judged_err (b ∷ bytes) t.rest t.n none in cc
            | inr some ↦
                let ok = judged_ok (b ∷ bytes) t.rest t.n some in
                let same : (t.n, t.rest) ≡ x = cc in subst (λ (y : ℕ × List ℕ). Component (b ∷ bytes) y.0 y.1) same
                (read_digits b bytes t digit some)
          ]
      | inr other ↦ let fault = component_other b bytes other in cc
    ]

-- Digits of zero were read: the ones before the fault, and what is left from it on.
record Zeros (most high : ℕ) (bytes rest : List ℕ) : Type 0 where
  zs : List ℕ
  bad : List ℕ
  split : bytes ≡ zs ++ bad
  few : length zs < most
  onward : (r : List ℕ) → digits_after most high (zs ++ r) ≡ digits_after (most - length zs) 0 r
  kind : (NoDigit bad × (bad ≡ rest)) ⊎ ((bad ≡ 48 ∷ rest) × (suc (length zs) ≡ most))

no_zeros : (most high : ℕ) (bytes rest : List ℕ) → high ≡ 0 → NoDigit bytes → bytes ≡ rest
    → Zeros (suc most) high bytes rest
no_zeros most high bytes rest zero_is none same =
    record {
      zs = [];
      bad = bytes;
      split = refl;
      few = omega arith;
      onward =
          λ r. ap (λ h. digits_after (suc most) h r) zero_is ∙ ap (λ k. digits_after k 0 r) (omega arith);
      kind =
          inl (none, same);
    }

zeros : (most high : ℕ) (bytes : List ℕ) (x : ℕ × List ℕ) → digits_after (suc most) high bytes ≡ x → x.0 ≡ 0
    → Zeros (suc most) high bytes x.1
zeros most high [] x is none =
    let stop = digits_stop (suc most) high [] tt in
    let same : (high, []) ≡ x = sym stop ∙ is in
    no_zeros most high [] x.1 (ap (λ (y : ℕ × List ℕ). y.0) same ∙ none) tt (ap (λ (y : ℕ × List ℕ). y.1) same)
zeros zero high (b ∷ bytes) x is none =
    elim (digit_or b) [
      | inl digit ↦
          let one = one_more_digit 0 high b bytes digit ∙ none_more (high * 10 + (b - 48)) bytes in
          let same : (high * 10 + (b - 48), bytes) ≡ x = sym one ∙ is in
          let value : high * 10 + (b - 48) ≡ 0 = ap (λ (y : ℕ × List ℕ). y.0) same ∙ none in
          let b_is : b ≡ 48 = omega (arith, digit.0) in
          let high_is : high ≡ 0 = omega arith in
          record {
            zs = [];
            bad = b ∷ bytes;
            split = refl;
            few = omega arith;
            onward = λ r. ap (λ h. digits_after 1 h r) high_is;
            kind = inr (
              ap (λ d. d ∷ bytes) b_is ∙ ap (λ (l : List ℕ). 48 ∷ l) (ap (λ (y : ℕ × List ℕ). y.1) same),
              refl,
            );
          }
      | inr other ↦
          let same : (high, b ∷ bytes) ≡ x = sym (digits_stop 1 high (b ∷ bytes) other) ∙ is in
          no_zeros 0 high (b ∷ bytes) x.1 (ap (λ (y : ℕ × List ℕ). y.0) same ∙ none) other
          (ap (λ (y : ℕ × List ℕ). y.1) same)
    ]
zeros (suc most) high (b ∷ bytes) x is none =
    elim (digit_or b) [
      | inl digit ↦
          let z : Zeros (suc most) (high * 10 + (b - 48)) bytes x.1 = zeros most (high * 10 + (b - 48)) bytes x
          (sym (one_more_digit (suc most) high b bytes digit) ∙ is) none in
          record {
            zs = b ∷ z.zs;
            bad = z.bad;
            split = ap (λ (l : List ℕ). b ∷ l) z.split;
            few = omega (arith, z.few);
            onward = λ r. one_more_digit (suc most) high b (z.zs ++ r) digit
                ∙ (z.onward r ∙ ap (λ k. digits_after k 0 r) (omega arith));
            kind = elim z.kind [ inl k ↦ inl k | inr k ↦ inr (k.0, omega (arith, k.1)) ];
          }
      | inr other ↦
          let same : (high, b ∷ bytes) ≡ x = sym (digits_stop (suc (suc most)) high (b ∷ bytes) other) ∙ is in
          no_zeros (suc most) high (b ∷ bytes) x.1 (ap (λ (y : ℕ × List ℕ). y.0) same ∙ none) other
          (ap (λ (y : ℕ × List ℕ). y.1) same)
    ]

-- No component goes on: the bytes before the fault can be followed to one, and with the byte there they can't.
pub record NoComponent (bytes : List ℕ) (left : ℕ) : Type 0 where
  pub good : List ℕ
  pub bad : List ℕ
  pub split : bytes ≡ good ++ bad
  pub count : length bad ≡ left
  pub goes : (r : List ℕ) → NoDigit r → component_at (good ++ (49 ∷ r)) ≡ Ok (1, r)
  pub stuck : (b : ℕ) (bs more : List ℕ) → bad ≡ b ∷ bs → component_at (good ++ (b ∷ more)) ≡ Err (suc (length more))

late_fault : (bytes rest : List ℕ) → length bytes ≡ 4 + length rest → zero_fault bytes rest ≡ length rest + 1
late_fault bytes rest is =
    let k : length bytes - length rest ≡ 4 = omega arith in ap (λ m. if m == 4 then length rest + 1 else length rest) k

early_fault : (bytes rest : List ℕ) (k : ℕ) → length bytes ≡ k + length rest → k < 4
    → zero_fault bytes rest ≡ length rest
early_fault bytes rest k is low =
    let m : length bytes - length rest ≡ k = omega arith in
    ap (λ m. if m == 4 then length rest + 1 else length rest) m ∙ ap (λ test. if test then length rest + 1
    else length rest) (ne_eqb k 4 (λ e. omega arith))

digit_one : (k : ℕ) (r : List ℕ) → NoDigit r → digits_after (suc k) 0 (49 ∷ r) ≡ (1, r)
digit_one k r none = one_more_digit k 0 49 r (lit≤ tt, lit≤ tt) ∙ digits_stop k 1 r none

digit_zero : (r : List ℕ) → digits_after 1 0 (48 ∷ r) ≡ (0, r)
digit_zero r = one_more_digit 0 0 48 r (lit≤ tt, lit≤ tt) ∙ none_more 0 r

-- a component after digits of zero
zeros_then : (b : ℕ) (bytes rest : List ℕ) (z : Zeros 3 (b - 48) bytes rest) (r : List ℕ) (x : ℕ × List ℕ)
    → IsAsciiDigit b → digits_after (3 - length z.zs) 0 r ≡ x → component_at (b ∷ (z.zs ++ r)) ≡ judged
    (b ∷ (z.zs ++ r)) x
zeros_then b bytes rest z r x digit is = component_digit b (z.zs ++ r) digit ∙ ap (judged (b ∷ (z.zs ++ r))) (z.onward r
    ∙ is)

zeros_length : (b : ℕ) (zs r : List ℕ) → length (b ∷ (zs ++ r)) ≡ suc (length zs) + length r
zeros_length b zs r = omega (arith, length-append zs r)

stuck_early : (b : ℕ) (bytes rest : List ℕ) (z : Zeros 3 (b - 48) bytes rest) (d : ℕ) (more : List ℕ) → IsAsciiDigit b
    → IsNotAsciiDigit d → component_at (b ∷ (z.zs ++ (d ∷ more))) ≡ Err (suc (length more))
stuck_early b bytes rest z d more digit other =
    zeros_then b bytes rest z (d ∷ more) (0, d ∷ more) digit (digits_stop (3 - length z.zs) 0 (d ∷ more) other)
    ∙ ap Err (early_fault (b ∷ (z.zs ++ (d ∷ more))) (d ∷ more) (suc (length z.zs)) (zeros_length b z.zs (d ∷ more))
    (omega (arith, z.few)))

stuck_late : (b : ℕ) (bytes rest : List ℕ) (z : Zeros 3 (b - 48) bytes rest) (more : List ℕ) → IsAsciiDigit b
    → suc (length z.zs) ≡ 3 → component_at (b ∷ (z.zs ++ (48 ∷ more))) ≡ Err (suc (length more))
stuck_late b bytes rest z more digit two =
    let one : 3 - length z.zs ≡ 1 = omega arith in
    zeros_then b bytes rest z (48 ∷ more) (0, more) digit (ap (λ k. digits_after k 0 (48 ∷ more)) one ∙ digit_zero more)
    ∙ ap Err (late_fault (b ∷ (z.zs ++ (48 ∷ more))) more (omega (arith, zeros_length b z.zs (48 ∷ more)))
    ∙ omega arith)

head_same : (b d : ℕ) (bytes bs : List ℕ) → b ∷ bytes ≡ d ∷ bs → b ≡ d
head_same b d bytes bs is = cc

zero_digits : (b : ℕ) (bytes rest : List ℕ) (z : Zeros 3 (b - 48) bytes rest) → IsAsciiDigit b → NoComponent (b ∷ bytes)
    (zero_fault (b ∷ bytes) rest)
zero_digits b bytes rest z digit =
    record {
      good = b ∷ z.zs;
      bad = z.bad;
      split = ap (λ (l : List ℕ). b ∷ l) z.split;
      count = elim z.kind [
        | inl k ↦ ap length k.1 ∙ sym (early_fault (b ∷ bytes) rest (suc (length z.zs))
            (ap (λ (l : List ℕ). length (b ∷ l)) z.split ∙ (zeros_length b z.zs z.bad
            ∙ ap (λ (l : List ℕ). suc (length z.zs) + length l) k.1)) (omega (arith, z.few)))
        | inr k ↦ ap length k.0 ∙ (omega arith
            ∙ sym (late_fault (b ∷ bytes) rest (omega (
              arith,
              ap (λ (l : List ℕ). length (b ∷ l)) z.split,
              zeros_length b z.zs z.bad,
              ap length k.0,
              k.1,
            ))))
      ];
      goes = λ r none. zeros_then b bytes rest z (49 ∷ r) (1, r) digit (ap (λ k. digits_after k 0 (49 ∷ r))
          (three_less z) ∙ digit_one (2 - length z.zs) r none);
      stuck = λ d bs more is. elim z.kind [
        | inl k ↦ stuck_early b bytes rest z d more digit (subst NoDigit is k.0)
        | inr k ↦ subst (λ e. component_at (b ∷ (z.zs ++ (e ∷ more))) ≡ Err (suc (length more)))
            (head_same 48 d rest bs (sym k.0 ∙ is)) (stuck_late b bytes rest z more digit k.1)
      ];
    }
  where
    three_less : (z : Zeros 3 (b - 48) bytes rest) → 3 - length z.zs ≡ suc (2 - length z.zs)
    three_less z = omega (arith, z.few)

pub component_one : (r : List ℕ) → NoDigit r → component_at (49 ∷ r) ≡ Ok (1, r)
component_one r none = component_digit 49 r (lit≤ tt, lit≤ tt) ∙ ap (judged (49 ∷ r)) (digits_stop 3 1 r none)

pub component_fault : (bytes : List ℕ) (left : ℕ) → component_at bytes ≡ Err left → NoComponent bytes left
component_fault [] left is =
    let none = component_none in
    let same : 0 ≡ left = cc in
    record {
      good = [];
      bad = [];
      split = refl;
      count = same;
      goes = component_one;
      stuck = λ d bs more is. cc;
    }
component_fault (b ∷ bytes) left is =
    elim (digit_or b) [
      | inl digit ↦
          let t = taken 3 (b - 48) bytes in
          let whole = whole_digits b bytes t digit in
          elim (cases_Bool (t.n == 0)) [
            | inl none ↦
                let fault = judged_err (b ∷ bytes) t.rest t.n none in
                let same : zero_fault (b ∷ bytes) t.rest ≡ left = cc in
                let read : digits_after 3 (b - 48) bytes ≡ (t.n, t.rest) = ap (digits_after 3 (b - 48)) t.split
                ∙ stops 3 (b - 48) bytes t t.rest t.ends in
                subst (NoComponent (b ∷ bytes)) same (zero_digits b bytes t.rest
                (zeros 2 (b - 48) bytes (t.n, t.rest) read (eqb-true t.n 0 none)) digit)
            | inr some ↦ let ok = judged_ok (b ∷ bytes) t.rest t.n some in cc
          ]
      | inr other ↦
          let fault = component_other b bytes other in
          let same : suc (length bytes) ≡ left = cc in
          record {
            good = [];
            bad = b ∷ bytes;
            split = refl;
            count = same;
            goes = component_one;
            stuck = λ d bs more is. component_other d more (subst IsNotAsciiDigit (head_same b d bytes bs is) other);
          }
    ]
