-- Control lines as they are written, at the front of bytes.
use Rattle.std.proofs.Common.{◌&&◌, Bool, Option, not, decimal, ◌≡◌, ◌≢◌, ◌⊎◌, inl, inr, ℕ, zero, suc, ◌+◌, ◌*◌, ◌-◌}
use Rattle.std.proofs.Common.{◌<◌, ◌==◌, nat_lt, true, false, List, [], ◌∷◌, ◌++◌, length, take, Some, Result, Ok, Err}
use Rattle.std.proofs.Common.{refl, sym, ap, ◌∙◌, subst, arith, length-append}
use Rattle.std.proofs.Math.Seq.{take-append_seam, take-append-add}
use Rattle.std.proofs.lemmas.Bool.{cases_Bool, and_parts, eqb-true, lt-ltb, ltb-true, ne_eqb, not-true}
use Rattle.std.proofs.lemmas.List.Elements.{All-cons, All-from_recursion}
use Rattle.sccs_base.specs.Cut.{HasNoLf}
use Rattle.sccs_sid.specs.Reading.{whole, digits_after, number_at, number}
use Rattle.sccs_sid.specs.SidLists.{begins}
use Rattle.sccs_history.specs.declared.headers.Item.{Item}
use Rattle.sccs_tokens.specs.Tokens.{serial, plain_serial, token, serial_field}
use Rattle.sccs_tokens.specs.Items.{IsWrittenItem, IsWrittenSerial, item_behind, item_read}
use Rattle.sccs_tokens.specs.Written.{IsSerial}
use Rattle.sccs_tokens.proofs.NumberLaws.{Stops, number_again}
use Rattle.sccs_tokens.proofs.TokenLaws.{LeadsOther, decimal_leads}
use Rattle.sccs_tokens.proofs.SerialFieldLaws.{none_below, number_high, placed}

-- ---- a number and what is behind it

-- digits that were read, and the bytes behind them
abbrev Splits : ℕ → ℕ → List ℕ → ℕ → List ℕ → Type 0
Splits most high bytes n behind = (ds : List ℕ) × (bytes ≡ ds ++ behind) × (digits_after most high ds ≡ (n, []))

stopped : (most high n : ℕ) (bytes behind : List ℕ) → digits_after most high [] ≡ (high, [])
    → ◌≡◌ {A = ℕ × List ℕ} (high, bytes) (n, behind) → Splits most high bytes n behind
stopped most high n bytes behind none is = (
  [],
  ap (λ (x : ℕ × List ℕ). x.1) is,
  none
      ∙ ap (λ (x : ℕ × List ℕ). (x.0, [])) is,
)

digit_on : (most high b : ℕ) (bytes : List ℕ) → nat_lt b 48 ≡ false → nat_lt 57 b ≡ false → digits_after (suc most) high
    (b ∷ bytes) ≡ digits_after most (high * 10 + (b - 48)) bytes
unfolding digits_after
digit_on most high b bytes digit last = rw (digit, last) refl

split_more : (most high b n : ℕ) (bytes behind : List ℕ) → (nat_lt b 48 ≡ true) ⊎ (nat_lt b 48 ≡ false)
    → (nat_lt 57 b ≡ true) ⊎ (nat_lt 57 b ≡ false)
    → digits_after (suc most) high (b ∷ bytes) ≡ (n, behind) → ((h : ℕ) → digits_after most h bytes ≡ (n, behind)
    → Splits most h bytes n behind) → Splits (suc most) high (b ∷ bytes) n behind
unfolding digits_after
split_more most high b n bytes behind (inl low) past is more = stopped (suc most) high n (b ∷ bytes) behind refl
    (rw low at is)
split_more most high b n bytes behind (inr digit) (inl past) is more = stopped (suc most) high n (b ∷ bytes) behind refl
    (rw (digit, past) at is)
split_more most high b n bytes behind (inr digit) (inr last) is more =
    let rest = more (high * 10 + (b - 48)) (sym (digit_on most high b bytes digit last) ∙ is) in
    (b ∷ rest.0, ap (λ bs. b ∷ bs) rest.1, digit_on most high b rest.0 digit last ∙ rest.2)

digits_split : (most high n : ℕ) (bytes behind : List ℕ) → digits_after most high bytes ≡ (n, behind)
    → Splits most high bytes n behind
unfolding digits_after
digits_split zero high n bytes behind is = stopped zero high n bytes behind refl is
digits_split (suc most) high n [] behind is = stopped (suc most) high n [] behind refl is
digits_split (suc most) high n (b ∷ bytes) behind is =
    split_more most high b n bytes behind (cases_Bool (nat_lt b 48)) (cases_Bool (nat_lt 57 b)) is
    (λ h. digits_split most h n bytes behind)

-- a number of some digits, and what is behind them
abbrev Reads : ℕ → List ℕ → ℕ → List ℕ → Type 0
Reads b bytes n behind = (ds : List ℕ) × (b ∷ bytes ≡ (b ∷ ds) ++ behind) × (number 5 (b ∷ ds) ≡ Some n)

ok_is : (x y : ℕ × List ℕ) → ◌≡◌ {A = Result (ℕ × List ℕ) ℕ} (Ok x) (Ok y) → x ≡ y
ok_is x y is = cc

no_number : {P : Type 0} (left n : ℕ) (behind : List ℕ) → ◌≡◌ {A = Result (ℕ × List ℕ) ℕ} (Err left) (Ok (n, behind))
    → P
no_number left n behind is = absurd cc

number_on : (b : ℕ) (bytes : List ℕ) → nat_lt b 48 ≡ false → nat_lt 57 b ≡ false → number_at 5 (b ∷ bytes) ≡ Ok
    (digits_after 4 (b - 48) bytes)
unfolding number_at
number_on b bytes digit last = rw (digit, last) refl

number_is : (b n : ℕ) (ds : List ℕ) → nat_lt b 48 ≡ false → nat_lt 57 b ≡ false → digits_after 4 (b - 48) ds ≡ (n, [])
    → number 5 (b ∷ ds) ≡ Some n
unfolding number
number_is b n ds digit last is = ap whole (number_on b ds digit last) ∙ ap (λ (x : ℕ × List ℕ). whole (Ok x)) is

number_first : (b n : ℕ) (bytes behind : List ℕ) → (nat_lt b 48 ≡ true) ⊎ (nat_lt b 48 ≡ false) → (nat_lt 57 b ≡ true)
    ⊎ (nat_lt 57 b ≡ false) → number_at 5 (b ∷ bytes) ≡ Ok (n, behind) → Reads b bytes n behind
unfolding number_at
number_first b n bytes behind (inl low) past is = no_number (suc (length bytes)) n behind (rw low at is)
number_first b n bytes behind (inr digit) (inl past) is = no_number (suc (length bytes)) n behind
    (rw (digit, past) at is)
number_first b n bytes behind (inr digit) (inr last) is =
    let rest = digits_split 4 (b - 48) n bytes behind (ok_is (digits_after 4 (b - 48) bytes) (n, behind)
    (sym (number_on b bytes digit last) ∙ is)) in
    (rest.0, ap (λ bs. b ∷ bs) rest.1, number_is b n rest.0 digit last rest.2)

-- ---- a serial before LF

plain_of : (b n : ℕ) (ds : List ℕ) → b == 48 ≡ false → 0 < n → n < 65536 → number 5 (b ∷ ds) ≡ Some n
    → plain_serial (b ∷ ds) ≡ Some n
unfolding serial
plain_of b n ds other some low is = rw (other, is, lt-ltb 0 n some, lt-ltb n 65536 low) refl

lf_first : (bytes : List ℕ) → begins 10 bytes ≡ true → (rest : List ℕ) × (bytes ≡ 10 ∷ rest)
lf_first [] is = absurd cc
lf_first (b ∷ bytes) is = (bytes, ap (λ c. c ∷ bytes) (eqb-true b 10 is))

serial_front : (b n : ℕ) (ds rest bytes : List ℕ) → bytes ≡ (b ∷ ds) ++ 10 ∷ rest → b == 48 ≡ false → 0 < n → n < 65536
    → number 5 (b ∷ ds) ≡ Some n → IsWrittenSerial bytes n (length (b ∷ ds))
serial_front b n ds rest bytes is other some low number_is =
    let word = b ∷ ds in
    let front : take (length word) bytes ≡ word = ap (take (length word)) is ∙ take-append_seam word (10 ∷ rest) in
    let more : take (length word + 1) bytes ≡ word ++ 10 ∷ [] = ap (take (length word + 1)) is ∙ take-append-add word
    (10 ∷ rest) 1 in
    let long : length bytes ≡ length word + suc (length rest) = ap length is ∙ length-append word (10 ∷ rest) in
    record {
      short = omega arith;
      ended = more ∙ ap (λ line. line ++ 10 ∷ []) (sym front);
      line = subst HasNoLf (sym front) (All-from_recursion (λ c. c ≢ 10) word (none_below 10 word (omega arith)
          (number_high 5 b ds n number_is)));
      serial = ap plain_serial front ∙ plain_of b n ds other some low number_is;
    }

pub written : (bytes behind : List ℕ) (n count : ℕ) → number_at 5 bytes ≡ Ok (n, behind) → begins 10 behind ≡ true
    → begins 48 bytes ≡ false → 0 < n → n < 65536 → count + length behind ≡ length bytes → IsWrittenSerial bytes n count
unfolding number_at
written [] behind n count is lf other some low long = no_number 0 n behind is
written (b ∷ bytes) behind n count is lf other some low long =
    let read = number_first b n bytes behind (cases_Bool (nat_lt b 48)) (cases_Bool (nat_lt 57 b)) is in
    let rest = lf_first behind lf in
    let whole_is : b ∷ bytes ≡ (b ∷ read.0) ++ 10 ∷ rest.0 = read.1 ∙ ap (λ bs. (b ∷ read.0) ++ bs) rest.1 in
    let many : length (b ∷ read.0) ≡ count = omega (
      arith,
      long,
      ap length read.1
          ∙ length-append (b ∷ read.0) behind,
    ) in
    subst (λ k. IsWrittenSerial (b ∷ bytes) n k) many (serial_front b n read.0 rest.0 (b ∷ bytes) whole_is other some
    low read.2)

-- what the test of such a serial says
pub written_so : (bytes behind : List ℕ) (n count : ℕ) → number_at 5 bytes ≡ Ok (n, behind)
    → (nat_lt 0 n && (nat_lt n 65536 && (begins 10 behind && not (begins 48 bytes)))) ≡ true
    → count + length behind ≡ length bytes → IsWrittenSerial bytes n count
written_so bytes behind n count is test long =
    let some = and_parts (nat_lt 0 n) _ test in
    let low = and_parts (nat_lt n 65536) _ some.1 in
    let ends = and_parts (begins 10 behind) (not (begins 48 bytes)) low.1 in
    written bytes behind n count is ends.0 (not-true (begins 48 bytes) ends.1) (ltb-true 0 n some.0)
    (ltb-true n 65536 low.0) long

-- ---- a serial that was written

stops_lf : (rest : List ℕ) → Stops (10 ∷ rest)
stops_lf rest = inl (omega arith)

serial_read : (n : ℕ) (rest bytes : List ℕ) → IsSerial n → bytes ≡ decimal n ++ 10 ∷ rest
    → number_at 5 bytes ≡ Ok (n, 10 ∷ rest)
serial_read n rest bytes is at = ap (number_at 5) at ∙ number_again 5 n (10 ∷ rest) (omega arith) (omega arith)
    (omega arith) (stops_lf rest)

pub no_fault : {P : Type 0} (n left : ℕ) (rest bytes : List ℕ) → IsSerial n → bytes ≡ decimal n ++ 10 ∷ rest
    → number_at 5 bytes ≡ Err left → P
no_fault n left rest bytes is at fault = no_number left n (10 ∷ rest) (sym fault ∙ serial_read n rest bytes is at)

leads : (word rest : List ℕ) → LeadsOther word → begins 48 (word ++ rest) ≡ false
leads [] rest other = absurd other
leads (b ∷ word) rest other = ne_eqb b 48 other

-- the number and what is behind it are those that were written
pub same_serial : (n m : ℕ) (rest behind bytes : List ℕ) → IsSerial n → bytes ≡ decimal n ++ 10 ∷ rest
    → number_at 5 bytes ≡ Ok (m, behind) → (m ≡ n) × (behind ≡ 10 ∷ rest)
same_serial n m rest behind bytes is at read =
    let same = ok_is (m, behind) (n, 10 ∷ rest) (sym read ∙ serial_read n rest bytes is at) in
    (ap (λ (x : ℕ × List ℕ). x.0) same, ap (λ (x : ℕ × List ℕ). x.1) same)

pub test_holds : (n m : ℕ) (rest behind bytes : List ℕ) → IsSerial n → bytes ≡ decimal n ++ 10 ∷ rest
    → number_at 5 bytes ≡ Ok (m, behind)
    → (nat_lt 0 m && (nat_lt m 65536 && (begins 10 behind && not (begins 48 bytes)))) ≡ true
test_holds n m rest behind bytes is at read =
    let same = same_serial n m rest behind bytes is at read in
    rw (same.0, same.1, at, lt-ltb 0 n is.0, lt-ltb n 65536 is.1, leads (decimal n) (10 ∷ rest) (decimal_leads n is))
    refl

pub count_is : (n m count : ℕ) (rest behind bytes : List ℕ) → IsSerial n → bytes ≡ decimal n ++ 10 ∷ rest
    → number_at 5 bytes ≡ Ok (m, behind) → count + length behind ≡ length bytes → count ≡ length (decimal n)
count_is n m count rest behind bytes is at read long =
    let same = same_serial n m rest behind bytes is at read in
    omega (arith, long, ap length same.1, ap length at ∙ length-append (decimal n) (10 ∷ rest))

pub some_pair : (m n a b : ℕ) → m ≡ n → a ≡ b → ◌≡◌ {A = Option (ℕ × ℕ)} (Some (m, a)) (Some (n, b))
some_pair m n a b first second = ap (λ k. Some (k, a)) first ∙ ap (λ k. Some (n, k)) second

pub clash : {P : Type 0} (b c : Bool) → b ≡ c → c ≡ false → b ≡ true → P
clash b true same off on = absurd cc
clash true false same off on = absurd cc
clash false false same off on = absurd cc

-- ---- a control line

three_more : (count : ℕ) → count + 3 ≡ suc (suc (suc count))
three_more count = omega arith

four_more : (count : ℕ) → count + 3 + 1 ≡ suc (suc (suc (count + 1)))
four_more count = omega arith

abbrev Other : ℕ → Type 0
Other b = b ≢ 10

token_control : (letter : ℕ) (bytes : List ℕ) → item_read (1 ∷ letter ∷ bytes) ≡ item_behind letter bytes
unfolding token
token_control letter bytes = refl

pub written_line : (letter n count : ℕ) (word : List ℕ) (item : Item) → letter ≢ 10 → IsWrittenSerial word n count
    → ((bytes : List ℕ) → serial_field bytes ≡ Some n → item_behind letter bytes ≡ Some item)
    → IsWrittenItem (1 ∷ letter ∷ 32 ∷ word) item (count + 3)
written_line letter n count word item other is makes =
    let bytes = 1 ∷ letter ∷ 32 ∷ word in
    let front : take (count + 3) bytes ≡ 1 ∷ letter ∷ 32 ∷ take count word =
    ap (λ k. take k bytes) (three_more count) in
    let more : take (count + 3 + 1) bytes ≡ 1 ∷ letter ∷ 32 ∷ take (count + 1) word =
    ap (λ k. take k bytes) (four_more count) in
    record {
      short = omega (arith, is.short);
      ended = more ∙ (ap (λ bs. 1 ∷ letter ∷ 32 ∷ bs) is.ended ∙ ap (λ line. line ++ 10 ∷ []) (sym front));
      line = subst HasNoLf (sym front) (All-cons Other 1 (letter ∷ 32 ∷ take count word) (omega arith)
          (All-cons Other letter (32 ∷ take count word) other (All-cons Other 32 (take count word)
          (omega arith) is.line)));
      token = ap item_read front ∙ (token_control letter (32 ∷ take count word) ∙ makes (32 ∷ take count word)
          (placed (take count word) n is.serial));
    }
