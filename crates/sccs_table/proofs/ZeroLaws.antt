-- The blocks behind which a piece has only zeros.
use Rattle.std.proofs.Common.{◌≡◌, ℕ, zero, suc, ◌+◌, ◌-◌, ◌*◌, ◌%◌, ◌<◌, ◌≤◌, false, not, ◌==◌, List, length}
use Rattle.std.proofs.Common.{replicate, take, drop, get_or, refl, sym, ap, ◌∙◌, subst, arith, sum, ⊎_elim}
use Rattle.std.proofs.Math.Nat.{mul-zero}
use Rattle.std.specs.Prelude.{count_ones}
use Rattle.std.specs.Int.{bit_at}
use Rattle.std.proofs.lemmas.Bool.{cases_lt}
use Rattle.std.proofs.lemmas.List.{drop-drop, drop-replicate, get_or-drop, get_or-replicate, get_or-take, take_all}
use Rattle.std.proofs.lemmas.List.Folds.{sum_by-replicate}
use Rattle.std.proofs.lemmas.List.Sums.{sum_by-take-drop}
use lib.Count.{ones}
use lib.ListN.{drop_of_length-le}
use Rattle.sccs_table.specs.Runs.{lf_count}
use Rattle.sccs_table.specs.Marks.{AreMarked, AreSohs, Describes, IsZeroFrom, bit, bits_of, byte_block}
use Rattle.sccs_table.proofs.MarkLaws.{count_on, ends_all}

-- what isn't 0 stands nowhere in zeros
no_bits_set : (byte k m : ℕ) → (0 == byte) ≡ false → bits_of byte (take k (replicate m 0)) ≡ 0
no_bits_set byte zero m other = refl
no_bits_set byte (suc k) zero other = refl
no_bits_set byte (suc k) (suc m) other = ap (λ b. bit b + 2 * bits_of byte (take k (replicate m 0))) other
    ∙ omega (arith, no_bits_set byte k m other)

-- what is zeros from a place on is so from a later one
zeros_from : (piece : List ℕ) (at m k : ℕ) → drop at piece ≡ replicate m 0 → at ≤ k → drop k piece
    ≡ replicate (m - (k - at)) 0
zeros_from piece at m k is low =
    let place : drop (k - at) (drop at piece) ≡ drop k piece = drop-drop (k - at) at piece
    ∙ ap (λ n. drop n piece) (omega arith) in
    sym place ∙ (ap (drop (k - at)) is ∙ drop-replicate (k - at) m 0)

zero_block : (byte : ℕ) (piece : List ℕ) (blocks n : ℕ) → (0 == byte) ≡ false → IsZeroFrom piece (64 * blocks)
    → blocks ≤ n → bits_of byte (byte_block n piece) ≡ 0
zero_block byte piece blocks n other rest low =
    ap (λ l. bits_of byte (take 64 l)) (zeros_from piece (64 * blocks) (4096 - 64 * blocks) (64 * n) rest (omega arith))
    ∙ no_bits_set byte 64 (4096 - 64 * blocks - (64 * n - 64 * blocks)) other

-- ---- numbers of which those behind a place were made the same

stays_before : (old new : List ℕ) (at n : ℕ) → take at new ≡ take at old → n < at → get_or new n 0 ≡ get_or old n 0
stays_before old new at n same low = sym (get_or-take at new n 0 low) ∙ (ap (λ l. get_or l n 0) same
    ∙ get_or-take at old n 0 low)

is_behind : (new : List ℕ) (at m number n : ℕ) → drop at new ≡ replicate m number → at ≤ n → n < at + m
    → get_or new n 0 ≡ number
is_behind new at m number n same low high =
    let place : n ≡ at + (n - at) = omega arith in
    ap (λ k. get_or new k 0) place ∙ (sym (get_or-drop at new (n - at) 0) ∙ (ap (λ l. get_or l (n - at) 0) same
    ∙ get_or-replicate m (n - at) number 0 (omega arith)))

-- ---- all blocks, by those in front

pub marked_all : (piece : List ℕ) (marked n blocks : ℕ) → blocks ≤ n → AreMarked marked piece n
    → ((k : ℕ) → n ≤ k → bit_at marked k ≡ 0) → IsZeroFrom piece (64 * blocks) → AreMarked marked piece 64
marked_all piece marked n blocks end are above rest m low =
    ⊎_elim (are m) (λ ge. above m ge
    ∙ ap (λ b. bit (not (b == 0))) (sym (zero_block 1 piece blocks m refl rest (omega (arith, ge, end)))))
    (cases_lt m n)

pub sohs_all : (piece old new : List ℕ) (n blocks : ℕ) → blocks ≤ n → AreSohs old piece n → length old ≡ 64
    → take blocks new ≡ take blocks old → drop blocks new ≡ replicate (length old - blocks) 0
    → IsZeroFrom piece (64 * blocks) → AreSohs new piece 64
sohs_all piece old new n blocks end are long front behind rest m low =
    ⊎_elim (λ l. stays_before old new blocks m front l ∙ are m (omega (arith, end)))
    (λ ge. is_behind new blocks (length old - blocks) 0 m behind ge (omega (arith, long))
    ∙ sym (zero_block 1 piece blocks m refl rest ge))
    (cases_lt m blocks)

-- no LF stands in zeros
lines_from : (piece : List ℕ) (blocks k : ℕ) → IsZeroFrom piece (64 * blocks) → 64 * blocks ≤ k
    → lf_count (take (64 * blocks) piece) ≡ lf_count (take k piece)
unfolding ones
lines_from piece blocks k rest low =
    let place : 64 * blocks + (k - 64 * blocks) ≡ k = omega arith in
    let zeros = take (k - 64 * blocks) (drop (64 * blocks) piece) in
    let none : lf_count zeros ≡ 0 = sym (ends_all zeros)
    ∙ ap count_ones (ap (λ l. bits_of 10 (take (k - 64 * blocks) l)) rest
    ∙ no_bits_set 10 (k - 64 * blocks) (4096 - 64 * blocks) refl) in
    omega (
      arith,
      none,
      count_on piece (64 * blocks) (k - 64 * blocks),
      ap (λ j. lf_count (take j piece)) place,
    )

pub lines_all : (piece : List ℕ) (blocks : ℕ) → length piece ≡ 4096 → blocks ≤ 64 → IsZeroFrom piece (64 * blocks)
    → lf_count (take (64 * blocks) piece) ≡ lf_count piece
lines_all piece blocks long fits rest = lines_from piece blocks 4096 rest (omega arith)
    ∙ ap lf_count (take_all 4096 piece (omega (arith, long)))

pub described_all : (piece ends before ends2 before2 : List ℕ) (n blocks count : ℕ) → blocks ≡ n → blocks ≤ 64
    → Describes ends before piece n → length ends ≡ 65 → length before ≡ 65 → take blocks ends2 ≡ take blocks ends
    → drop blocks ends2 ≡ replicate (length ends - blocks) 0 → take blocks before2 ≡ take blocks before
    → drop blocks before2 ≡ replicate (length before - blocks) count → count ≡ lf_count (take (64 * n) piece)
    → IsZeroFrom piece (64 * blocks) → Describes ends2 before2 piece 64
described_all piece ends before ends2 before2 n blocks count end fits are ends_long before_long ends_front ends_behind
    before_front before_behind counted rest = record {
      ends_are = λ m low.
          ⊎_elim (λ l. stays_before ends ends2 blocks m ends_front l ∙ are.ends_are m (omega (arith, end)))
          (λ ge. is_behind ends2 blocks (length ends - blocks) 0 m ends_behind ge (omega (arith, ends_long))
          ∙ sym (zero_block 10 piece blocks m refl rest ge))
          (cases_lt m blocks);
      before_are = λ m low.
          ⊎_elim (λ l. stays_before before before2 blocks m before_front l ∙ are.before_are m (omega (arith, end)))
          (λ ge. is_behind before2 blocks (length before - blocks) count m before_behind ge (omega (arith, before_long))
          ∙ (counted ∙ (ap (λ k. lf_count (take (64 * k) piece)) (sym end)
          ∙ lines_from piece blocks (64 * m) rest (omega arith))))
          (cases_lt m blocks);
    }

pub counted_last : (piece before before2 : List ℕ) (n blocks count : ℕ) → blocks ≡ n → blocks ≤ 64
    → length piece ≡ 4096 → length before ≡ 65 → drop blocks before2 ≡ replicate (length before - blocks) count
    → count ≡ lf_count (take (64 * n) piece) → IsZeroFrom piece (64 * blocks) → get_or before2 64 0 ≡ lf_count piece
counted_last piece before before2 n blocks count end fits long before_long behind counted rest =
    is_behind before2 blocks (length before - blocks) count 64 behind fits (omega (arith, before_long)) ∙ (counted
    ∙ (ap (λ k. lf_count (take (64 * k) piece)) (sym end) ∙ lines_all piece blocks long fits rest))

-- zeros add nothing to a sum
pub sum_all : (piece : List ℕ) (total n blocks : ℕ) → blocks ≡ n → IsZeroFrom piece (64 * blocks)
    → total ≡ sum (take (64 * n) piece) % 65536 → total ≡ sum piece % 65536
sum_all piece total n blocks end rest is =
    let none : sum (drop (64 * blocks) piece) ≡ 0 = ap sum rest
    ∙ (sum_by-replicate (λ b. b) (4096 - 64 * blocks) 0 ∙ mul-zero (4096 - 64 * blocks)) in
    let whole : sum (take (64 * blocks) piece) + sum (drop (64 * blocks) piece) ≡ sum piece =
    sum_by-take-drop (λ b. b) piece (64 * blocks) in
    let all : sum (take (64 * blocks) piece) ≡ sum piece = omega (arith, none, whole) in
    is ∙ ap (λ s. s % 65536) (ap (λ k. sum (take (64 * k) piece)) (sym end) ∙ all)

-- a piece is zeros from its last block of a front on
pub zero_blocks : (piece : List ℕ) (filled blocks : ℕ) → filled ≤ 4096 → filled ≤ 64 * blocks
    → IsZeroFrom piece filled → IsZeroFrom piece (64 * blocks)
zero_blocks piece filled blocks fits low rest =
    let same : 4096 - filled - (64 * blocks - filled) ≡ 4096 - 64 * blocks = omega arith in
    zeros_from piece filled (4096 - filled) (64 * blocks) rest low ∙ ap (λ m. replicate m 0) same

-- nothing is behind a piece
pub zero_end : (piece : List ℕ) → length piece ≡ 4096 → IsZeroFrom piece 4096
zero_end piece long = drop_of_length-le piece {i = 4096} (omega (arith, long))
