-- Bits for the bytes of a piece, 64 at a time.
use Rattle.std.proofs.Common.{◌≡◌, ◌≢◌, ℕ, zero, suc, ◌+◌, ◌-◌, ◌*◌, ◌/◌, ◌%◌, ◌^◌, ◌<◌, ◌≤◌, Bool, true, false, not}
use Rattle.std.proofs.Common.{◌==◌, List, [], ◌∷◌, length, map, replicate, take, drop, get_or, eq-eqb, refl, sym, ap}
use Rattle.std.proofs.Common.{◌∙◌, subst, arith, sum, ⊎_elim}
use Rattle.std.proofs.Math.Nat.{div-add-mod, div-eq_of_lt, mod-one, mod-eq_of_lt, mod-lt, mul_assoc}
use Rattle.std.proofs.Math.Nat.{mul-add-mod_self_left, two-pow-succ, zero-mod}
use Rattle.std.proofs.Math.Seq.{take-add}
use Rattle.std.specs.Prelude.{count_ones}
use Rattle.std.specs.Int.{bit_at}
use Rattle.std.specs.Simd.Lanes.{mask_l}
use Rattle.std.proofs.lemmas.Bool.{cases_lt, eqb-true}
use Rattle.std.proofs.lemmas.Nat.{pow_pos}
use Rattle.std.proofs.Math.Pow.{pow_mono}
use Rattle.std.proofs.lemmas.Nat.Bits.{bit_at-zero}
use Rattle.std.proofs.lemmas.List.{drop-drop, drop-replicate, get_or-map, length-map, length-replicate, length-take}
use Rattle.std.proofs.lemmas.List.{take_all, take-map, take-take}
use Rattle.std.proofs.lemmas.List.Elements.{All-drop}
use Rattle.std.proofs.lemmas.List.Sums.{count_by-le-length, sum_by-append, sum_by-take-drop}
use Rattle.std.proofs.lemmas.Simd.{bit_mask_l, get_or-chunk, length-chunk, mask_l-lt, none_from_empty_mask, ones-mask_l}
use lib.Count.{ones}
use Rattle.sccs_table.specs.Runs.{lf_count}
use Rattle.sccs_table.specs.declared.piece_marks.Known.TheVariants.{Nothing}
use Rattle.sccs_table.specs.declared.piece_marks.PieceMarks.{PieceMarks}
use Rattle.sccs_base.specs.Cut.{HasNoLf}
use Rattle.sccs_table.proofs.CountLaws.{no_lines}
use Rattle.sccs_table.specs.Marks.{AreMarked, AreSohs, Describes, HasNoSoh, KnowsLfs, MarksOf, bit, bits_of, byte_block}

-- ---- SOH

no_both : {b : Bool} → b ≡ true → b ≡ false → ⊥
no_both is isnt = absurd (cc)

-- a block without bits has none
pub none_in_block : (piece : List ℕ) (n : ℕ) → 64 * n + 64 ≤ length piece → bits_of 1 (byte_block n piece) ≡ 0
    → HasNoSoh piece (64 * n) (64 * n + 64)
none_in_block piece n fits none k low high is = no_both (eq-eqb (get_or piece k 0) 1 is)
    (none_from_empty_mask (λ b. b == 1) piece (64 * n) 64 0 fits none k low high)

pub no_soh_both : (piece : List ℕ) (a b c : ℕ) → HasNoSoh piece a b → HasNoSoh piece b c → HasNoSoh piece a c
no_soh_both piece a b c first second k low high is = ⊎_elim (λ l. first k low l is) (λ g. second k g high is)
    (cases_lt k b)

-- nor have several
pub none_in_blocks : (piece : List ℕ) (low high : ℕ) → 64 * high ≤ length piece → ((m : ℕ) → low ≤ m → m < high
    → bits_of 1 (byte_block m piece) ≡ 0) → HasNoSoh piece (64 * low) (64 * high)
none_in_blocks piece low high fits none k above below is = none_in_block piece (k / 64) (omega arith)
    (none (k / 64) (omega arith) (omega arith)) k (omega arith) (omega arith) is

empty_by : (test : Bool) (x : ℕ) → (x == 0) ≡ test → bit (not test) ≡ 0 → x ≡ 0
empty_by true x is none = eqb-true x 0 is
empty_by false x is none = absurd (omega (arith, none))

pub unmarked : (marks : PieceMarks) (piece : List ℕ) (m : ℕ) → MarksOf marks piece → m < 64 → bit_at marks.marked m ≡ 0
    → bits_of 1 (byte_block m piece) ≡ 0
unmarked marks piece m are low none = empty_by (bits_of 1 (byte_block m piece) == 0) _ refl (sym (are.marked_are m low)
    ∙ none)

-- where no block is marked there is none at all
pub none_marked : (marks : PieceMarks) (piece : List ℕ) (from : ℕ) → MarksOf marks piece → marks.marked ≡ 0
    → HasNoSoh piece from 4096
none_marked marks piece from are none k low high =
    none_in_blocks piece 0 64 (omega (arith, are.long)) (λ m above below. unmarked marks piece m are below
    (ap (λ b. bit_at b m) none ∙ bit_at-zero m)) k (omega arith) (omega arith)

-- a number with a bit is not 0
pub some_bit : (bits k : ℕ) → bit_at bits k ≡ 1 → bits ≢ 0
some_bit bits k set none = absurd (omega (arith, set, ap (λ b. bit_at b k) none ∙ bit_at-zero k))

soh_bit : (piece : List ℕ) (n k : ℕ) → 64 * n + 64 ≤ length piece → k < 64 → bit_at (bits_of 1 (byte_block n piece)) k
    ≡ bit (get_or piece (64 * n + k) 0 == 1)
soh_bit piece n k fits low =
    let long = length-chunk (64 * n) 64 piece fits in
    bit_mask_l (map (λ b. b == 1) (byte_block n piece)) k
    ∙ ap bit (get_or-map (λ b. b == 1) (byte_block n piece) k 0 false (omega (arith, long))
    ∙ ap (λ b. b == 1) (get_or-chunk (64 * n) 64 piece k 0 low))

is_by : (test : Bool) (x : ℕ) → (x == 1) ≡ test → bit test ≡ 1 → x ≡ 1
is_by true x is some = eqb-true x 1 is
is_by false x is some = absurd (omega (arith, some))

not_by : (test : Bool) (x : ℕ) → (x == 1) ≡ test → bit test ≡ 0 → x ≢ 1
not_by true x is none = absurd (omega (arith, none))
not_by false x is none = λ one. no_both (eq-eqb x 1 one) is

-- a bit that is set is an SOH, one that isn't is none
pub soh_at : (piece : List ℕ) (n k : ℕ) → 64 * n + 64 ≤ length piece → k < 64
    → bit_at (bits_of 1 (byte_block n piece)) k ≡ 1 → get_or piece (64 * n + k) 0 ≡ 1
soh_at piece n k fits low set = is_by (get_or piece (64 * n + k) 0 == 1) _ refl (sym (soh_bit piece n k fits low) ∙ set)

pub no_soh_at : (piece : List ℕ) (n k : ℕ) → 64 * n + 64 ≤ length piece → k < 64
    → bit_at (bits_of 1 (byte_block n piece)) k ≡ 0 → get_or piece (64 * n + k) 0 ≢ 1
no_soh_at piece n k fits low clear = not_by (get_or piece (64 * n + k) 0 == 1) _ refl (sym (soh_bit piece n k fits low)
    ∙ clear)

-- the bits from a place on to another are clear
pub none_between : (piece : List ℕ) (n a b : ℕ) → 64 * n + 64 ≤ length piece → b ≤ 64 → ((k : ℕ) → a ≤ k → k < b
    → bit_at (bits_of 1 (byte_block n piece)) k ≡ 0) → HasNoSoh piece (64 * n + a) (64 * n + b)
none_between piece n a b fits high clear k low below is =
    let at : k ≡ 64 * n + (k - 64 * n) = omega arith in
    no_soh_at piece n (k - 64 * n) fits (omega arith) (clear (k - 64 * n) (omega arith) (omega arith))
    (sym (ap (λ j. get_or piece j 0) at) ∙ is)

-- a bit of a 64-bit number
pub bit_within : (m k : ℕ) → m < 2 ^ 64 → bit_at m k ≡ 1 → k < 64
bit_within m k small set =
    ⊎_elim (λ l. l) (λ ge.
    let big : m < 2 ^ k = omega (arith, pow_mono {i = 64} {j = k} ge) in
    let clear : bit_at m k ≡ 0 = ap (λ x. x % 2) (div-eq_of_lt big) in
    absurd (omega (arith, set, clear))) (cases_lt k 64)

-- bits that were shifted down by one number and then by one more
pub clear_behind : (marked behind n r : ℕ) → ((k : ℕ) → bit_at behind k ≡ bit_at marked (n + (1 + k)))
    → ((k : ℕ) → k < r → bit_at behind k ≡ 0) → (m : ℕ) → n < m → m < n + 1 + r → bit_at marked m ≡ 0
clear_behind marked behind n r shifted clear m low high =
    let at : m ≡ n + (1 + (m - (n + 1))) = omega arith in
    ap (bit_at marked) at ∙ (sym (shifted (m - (n + 1))) ∙ clear (m - (n + 1)) (omega arith))

-- the first SOH of a block and those behind
pub first_in : (piece : List ℕ) (n from r : ℕ) → 64 * n + 64 ≤ length piece → from + r ≤ 64
    → ((k : ℕ) → k < r → bit_at (bits_of 1 (byte_block n piece)) (from + k) ≡ 0) → HasNoSoh piece (64 * n + from)
    (64 * n + (from + r))
first_in piece n from r fits low clear =
    none_between piece n from (from + r) fits (omega arith) (λ k above below.
    let at : k ≡ from + (k - from) = omega arith in
    ap (bit_at (bits_of 1 (byte_block n piece))) at ∙ clear (k - from) (omega arith))

pub first_here : (piece : List ℕ) (n r : ℕ) → 64 * n + 64 ≤ length piece → r ≤ 64
    → ((k : ℕ) → k < r → bit_at (bits_of 1 (byte_block n piece)) k ≡ 0) → HasNoSoh piece (64 * n) (64 * n + r)
first_here piece n r fits low clear = λ k above below. none_between piece n 0 r fits low (λ j from to. clear j to) k
    (omega arith) (omega arith)

pub bits_small : (piece : List ℕ) (n : ℕ) → 64 * n + 64 ≤ length piece → bits_of 1 (byte_block n piece) < 2 ^ 64
bits_small piece n fits = subst (λ k. bits_of 1 (byte_block n piece) < 2 ^ k) (length-map (byte_block n piece)
    (λ b. b == 1) ∙ length-chunk (64 * n) 64 piece fits) (mask_l-lt (map (λ b. b == 1) (byte_block n piece)))

-- ---- LF

bit_small : (b : Bool) → bit b < 2
bit_small true = omega arith
bit_small false = omega arith

low_bits : (c m p : ℕ) → c < 2 → 0 < p → (c + 2 * m) % (2 * p) ≡ c + 2 * (m % p)
low_bits c m p small pos =
    let whole : p * (m / p) + m % p ≡ m = div-add-mod m p in
    let rest : m % p < p = mod-lt m pos in
    let parts : c + 2 * m ≡ 2 * p * (m / p) + (c + 2 * (m % p)) = let same : 2 * p * (m / p) ≡ 2 * (p * (m / p)) =
    mul_assoc 2 p (m / p) in omega (arith, whole, same) in
    ap (λ n. n % (2 * p)) parts ∙ (mul-add-mod_self_left (2 * p) (m / p) (c + 2 * (m % p))
    ∙ mod-eq_of_lt (omega (arith, rest)))

-- the low bits are those of the first bytes
mask_take : (n : ℕ) (ms : List Bool) → mask_l ms % 2 ^ n ≡ mask_l (take n ms)
mask_take zero ms = mod-one (mask_l ms)
mask_take (suc n) [] = zero-mod (2 ^ suc n)
mask_take (suc n) (b ∷ ms) =
    let twice : 2 ^ suc n ≡ 2 * 2 ^ n = omega (arith, two-pow-succ n) in
    ap (λ p. (bit b + 2 * mask_l ms) % p) twice ∙ (low_bits (bit b) (mask_l ms) (2 ^ n) (bit_small b) (pow_pos n)
    ∙ ap (λ m. bit b + 2 * m) (mask_take n ms))

pub ends_in : (bytes : List ℕ) (n : ℕ) → count_ones (bits_of 10 bytes % 2 ^ n) ≡ lf_count (take n bytes)
ends_in bytes n = ap count_ones (mask_take n (map (λ b. b == 10) bytes) ∙ ap mask_l (take-map (λ b. b == 10) n bytes))
    ∙ ones-mask_l (λ b. b == 10) (take n bytes)

pub ends_all : (bytes : List ℕ) → count_ones (bits_of 10 bytes) ≡ lf_count bytes
ends_all bytes = ones-mask_l (λ b. b == 10) bytes

pub count_on : (piece : List ℕ) (start count : ℕ) → lf_count (take (start + count) piece) ≡ lf_count (take start piece)
    + lf_count (take count (drop start piece))
count_on piece start count = ap lf_count (take-add start count piece) ∙ sum_by-append (λ b. bit (b == 10))
    (take start piece) (take count (drop start piece))

-- one block more
pub count_block : (piece : List ℕ) (n : ℕ) → lf_count (take (64 * (n + 1)) piece) ≡ lf_count (take (64 * n) piece)
    + count_ones (bits_of 10 (byte_block n piece))
count_block piece n =
    let at : 64 * (n + 1) ≡ 64 * n + 64 = omega arith in
    ap (λ k. lf_count (take k piece)) at ∙ (count_on piece (64 * n) 64 ∙ ap (λ k. lf_count (take (64 * n) piece) + k)
    (sym (ends_all (byte_block n piece))))

-- the LFs before a place, by those before its block
pub count_to : (piece : List ℕ) (at : ℕ) → lf_count (take (64 * (at / 64)) piece) + count_ones
    (bits_of 10 (byte_block (at / 64) piece) % 2 ^ (at % 64)) ≡ lf_count (take at piece)
count_to piece at =
    let is : 64 * (at / 64) + at % 64 ≡ at = omega arith in
    let part : take (at % 64) (byte_block (at / 64) piece) ≡ take (at % 64) (drop (64 * (at / 64)) piece) =
    take-take (at % 64) 64 (drop (64 * (at / 64)) piece) (omega arith) in
    ap (λ k. lf_count (take (64 * (at / 64)) piece) + k) (ends_in (byte_block (at / 64) piece) (at % 64)
    ∙ ap lf_count part)
    ∙ (sym (count_on piece (64 * (at / 64)) (at % 64)) ∙ ap (λ k. lf_count (take k piece)) is)

pub count_bound : (piece : List ℕ) (n : ℕ) → lf_count (take n piece) ≤ n
count_bound piece n = omega (arith, count_by-le-length (λ b. b == 10) (take n piece), length-take n piece)

-- ---- block by block

pub on_to : (P : ℕ → Type 0) (n : ℕ) → ((m : ℕ) → m < n → P m) → P n → (m : ℕ) → m < n + 1 → P m
on_to P n below here m low = ⊎_elim (λ l. below m l) (λ ge. let is : n ≡ m = omega arith in subst P is here)
    (cases_lt m n)

pub marked_on : (piece : List ℕ) (marked marked2 n : ℕ) → AreMarked marked piece n
    → ((m : ℕ) → m < n → bit_at marked2 m ≡ bit_at marked m)
    → bit_at marked2 n ≡ bit (not (bits_of 1 (byte_block n piece) == 0)) → AreMarked marked2 piece (n + 1)
marked_on piece marked marked2 n are stay mark =
    on_to (λ m. bit_at marked2 m ≡ bit (not (bits_of 1 (byte_block m piece) == 0))) n (λ m low. stay m low
    ∙ are m low) mark

pub sohs_on : (piece sohs sohs2 : List ℕ) (n : ℕ) → AreSohs sohs piece n
    → ((m : ℕ) → m < n → get_or sohs2 m 0 ≡ get_or sohs m 0) → get_or sohs2 n 0 ≡ bits_of 1 (byte_block n piece)
    → AreSohs sohs2 piece (n + 1)
sohs_on piece sohs sohs2 n are stay here = on_to (λ m. get_or sohs2 m 0 ≡ bits_of 1 (byte_block m piece)) n
    (λ m low. stay m low ∙ are m low) here

pub described_on : (ends before ends2 before2 piece : List ℕ) (n : ℕ) → Describes ends before piece n
    → ((m : ℕ) → m < n → get_or ends2 m 0 ≡ get_or ends m 0) → get_or ends2 n 0 ≡ bits_of 10 (byte_block n piece)
    → ((m : ℕ) → m < n → get_or before2 m 0 ≡ get_or before m 0) → get_or before2 n 0 ≡ lf_count (take (64 * n) piece)
    → Describes ends2 before2 piece (n + 1)
described_on ends before ends2 before2 piece n are ends_stay end before_stay here = record {
  ends_are = on_to (λ m. get_or ends2 m 0 ≡ bits_of 10 (byte_block m piece)) n (λ m low. ends_stay m low
      ∙ are.ends_are m low) end;
  before_are = on_to (λ m. get_or before2 m 0 ≡ lf_count (take (64 * m) piece)) n (λ m low. before_stay m low
      ∙ are.before_are m low) here;
}

one_bit : (n : ℕ) → n < 64 → 1 * 2 ^ n % 2 ^ 64 ≡ 2 ^ n
one_bit n low =
    let small : 2 ^ n < 2 ^ 64 = omega (
      arith,
      two-pow-succ n,
      pow_pos n,
      pow_mono {i = suc n} {j = 64}
          (omega arith),
    ) in
    omega arith

all_lines : (before piece : List ℕ) (low : ℕ) → get_or before 64 0 ≡ lf_count piece → length piece ≡ 4096 → low ≡ 0
    → get_or before 64 0 + low ≡ lf_count (take 4096 piece)
all_lines before piece low all long none =
    omega (arith, all, none, ap lf_count (take_all 4096 piece (omega (arith, long))))

-- how many LFs stand before a place, by the numbers of its block
pub lines_at : (ends before piece : List ℕ) (at low : ℕ) → Describes ends before piece 64
    → get_or before 64 0 ≡ lf_count piece → length piece ≡ 4096 → at ≤ 4096
    → low ≡ count_ones (get_or ends (at / 64) 0 % (1 * 2 ^ (at % 64) % 2 ^ 64)) → get_or before (at / 64) 0 + low
    ≡ lf_count (take at piece)
unfolding ones
lines_at ends before piece at low are all long fits is =
    ⊎_elim (λ l.
    let within : at / 64 < 64 = omega arith in
    let bits = is ∙ (ap (λ p. count_ones (get_or ends (at / 64) 0 % p)) (one_bit (at % 64) (omega arith))
    ∙ ap (λ x. count_ones (x % 2 ^ (at % 64))) (are.ends_are (at / 64) within)) in
    omega (arith, are.before_are (at / 64) within, bits, count_to piece at))
    (λ ge.
    let last : 4096 ≡ at = omega arith in
    subst (λ k. low ≡ count_ones (get_or ends (k / 64) 0 % (1 * 2 ^ (k % 64) % 2 ^ 64)) → get_or before (k / 64) 0 + low
    ≡ lf_count (take k piece)) last (λ none. all_lines before piece low all long (none
    ∙ ap count_ones (mod-one (get_or ends 64 0)))) is)
    (cases_lt at 4096)

-- behind the place of the last LF all are counted
pub counted_all : (piece : List ℕ) (count last at : ℕ) → count ≡ lf_count piece → HasNoLf (drop last piece) → last ≤ at
    → count ≡ lf_count (take at piece)
counted_all piece count last at is none low =
    let behind : HasNoLf (drop (at - last) (drop last piece)) = All-drop (λ b. b ≢ 10) (at - last)
    (drop last piece) none in
    let place : drop (at - last) (drop last piece) ≡ drop at piece = drop-drop (at - last) last piece
    ∙ ap (λ n. drop n piece) (omega arith) in
    omega (
      arith,
      is,
      sum_by-take-drop (λ b. bit (b == 10)) piece at,
      no_lines (drop at piece)
          (subst HasNoLf place behind),
    )

-- ---- no SOH at all

no_bit : (test : Bool) (b rest : ℕ) → (b == 1) ≡ test → b ≢ 1 → rest ≡ 0 → bit test + 2 * rest ≡ 0
no_bit true b rest is isnt none = absurd (isnt (eqb-true b 1 is))
no_bit false b rest is isnt none = omega (arith, none)

pub no_bits : (bytes : List ℕ) → ((k : ℕ) → k < length bytes → get_or bytes k 0 ≢ 1) → bits_of 1 bytes ≡ 0
no_bits [] none = refl
no_bits (b ∷ bytes) none = no_bit (b == 1) b (bits_of 1 bytes) refl (none 0 (omega arith))
    (no_bits bytes (λ k low. none (suc k) (omega (arith, low))))

few_zeros : (k m : ℕ) → bits_of 1 (take k (replicate m 0)) ≡ 0
few_zeros zero m = refl
few_zeros (suc k) zero = refl
few_zeros (suc k) (suc m) = no_bit false 0 (bits_of 1 (take k (replicate m 0))) refl (λ is. absurd cc) (few_zeros k m)

-- no SOH stands in a piece of zeros
pub zeros_marked : (marks : PieceMarks) (piece : List ℕ) (m : ℕ) → m ≡ 4096 → marks.marked ≡ 0 → marks.known ≡ Nothing
    → piece ≡ replicate m 0 → MarksOf marks piece
zeros_marked marks piece m long none nothing is = record {
  long = ap length is ∙ (length-replicate m 0 ∙ long);
  marked_are = λ n low. ap (λ k. bit_at k n) none
      ∙ (bit_at-zero n ∙ ap (λ b. bit (not (b == 0))) (sym (ap (λ l. bits_of 1 (byte_block n l)) is
      ∙ (ap (λ l. bits_of 1 (take 64 l)) (drop-replicate (64 * n) m 0) ∙ few_zeros 64 (m - 64 * n)))));
  sohs_are = λ some. absurd (some none);
  ends_known = subst (λ k. KnowsLfs k marks piece) (sym nothing) tt;
}

-- ---- the sum

remainder : (total part more : ℕ) → more ≡ (total % 65536 + part) % 65536 → more ≡ (total + part) % 65536
remainder total part more is = omega (arith, is)

-- one block more
pub sum_block : (piece : List ℕ) (n total more : ℕ) → total ≡ sum (take (64 * n) piece) % 65536
    → more ≡ (total + sum (byte_block n piece)) % 65536 → more ≡ sum (take (64 * (n + 1)) piece) % 65536
sum_block piece n total more so is =
    let at : 64 * (n + 1) ≡ 64 * n + 64 = omega arith in
    let parts : sum (take (64 * (n + 1)) piece) ≡ sum (take (64 * n) piece) + sum (byte_block n piece) =
    ap (λ k. sum (take k piece)) at ∙ (ap sum (take-add (64 * n) 64 piece) ∙ sum_by-append (λ b. b)
    (take (64 * n) piece) (byte_block n piece)) in
    remainder (sum (take (64 * n) piece)) (sum (byte_block n piece)) more (is
    ∙ ap (λ t. (t + sum (byte_block n piece)) % 65536) so) ∙ ap (λ s. s % 65536) (sym parts)

-- one block more of LFs
pub lines_block : (piece : List ℕ) (n : ℕ) → lf_count (take (64 * (n + 1)) piece) ≡ lf_count (take (64 * n) piece)
    + lf_count (byte_block n piece)
lines_block piece n = count_block piece n ∙ ap (λ k. lf_count (take (64 * n) piece) + k) (ends_all (byte_block n piece))

-- no byte of a block below its lane, which isn't as low as SOH
pub none_below : (least piece : List ℕ) (n : ℕ) → length piece ≡ 4096 → n < 64
    → ((k : ℕ) → k < 64 → get_or least k 0 ≤ get_or (byte_block n piece) k 0)
    → ((k : ℕ) → k < 64 → 1 < get_or least k 0) → bits_of 1 (byte_block n piece) ≡ 0
none_below least piece n long low below high =
    let size = length-chunk (64 * n) 64 piece (omega (arith, long)) in
    no_bits (byte_block n piece) (λ k within is. absurd (omega (
      arith,
      is,
      below k (omega (arith, within, size)),
      high k
          (omega (arith, within, size)),
    )))

pub whole : (piece : List ℕ) → length piece ≡ 4096 → take (64 * 64) piece ≡ piece
whole piece long = take_all 4096 piece (omega (arith, long))
