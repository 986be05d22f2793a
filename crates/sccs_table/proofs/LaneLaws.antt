-- Counts and least bytes in lanes.
use Rattle.std.proofs.Common.{◌≡◌, ℕ, zero, suc, ◌+◌, ◌*◌, ◌%◌, ◌<◌, ◌≤◌, ◌^◌, Bool, true, false, not, cond, ◌==◌, List}
use Rattle.std.proofs.Common.{[], ◌∷◌, length, take, map, replicate, get_or, refl, sym, ap, ◌∙◌, subst, arith, w8, w16}
use Rattle.std.proofs.Common.{eqb, ltb, leb, Fits}
use Rattle.std.specs.Prelude.{sum}
use Rattle.std.specs.Simd.Lanes.{Each1, Each2, sel_l, sum_l, mask_l}
use Rattle.std.proofs.lemmas.List.Sums.{sum_by-cons}
use Rattle.std.proofs.lemmas.Bool.{eqb-true, leb-false, ltb-false, ltb-true}
use Rattle.std.proofs.lemmas.List.{length-map, map-id, take_all}
use Rattle.std.proofs.lemmas.Simd.{Each2-of, bytes_below, Each1-zip2, get_or-sel_l, get_or-zip2, length-zip2, map-map}
use Rattle.std.proofs.lemmas.Simd.{none_from_empty_mask, bitmask_splat, sum-zip2, sum_bound, sum_fits, fold-sum}
use Rattle.std.proofs.lemmas.Simd.{tops_compared, zip2_splat}
use lib.Lanes.{zip2, top, fold_l, Steps}
use Rattle.sccs_table.specs.Runs.{lf_count}

-- ---- one for each LF

ones_by : (ms : List Bool) (n : ℕ) → length ms ≡ n → sel_l {A = ℕ} ms (replicate n 1) (replicate n 0) ≡ map
    (λ m. cond m 1 0) ms
ones_by [] n is = refl
ones_by (m ∷ ms) zero is = absurd (omega (arith, is))
ones_by (m ∷ ms) (suc n) is = ap (λ l. cond m 1 0 ∷ l) (ones_by ms n (omega (arith, is)))

-- the lanes of a comparison with LF, as ones and zeros
abbrev pub found : List ℕ → List ℕ
found xs = sel_l {A = ℕ} (map (top 7) (zip2 (λ a b. cond (eqb a b) 255 0) xs (replicate 64 10))) (replicate 64 1)
    (replicate 64 0)

abbrev ones : List ℕ → List ℕ
ones xs = map (λ x. cond (eqb x 10) 1 0) xs

ones_of : (ms : List Bool) (xs : List ℕ) → ms ≡ map (λ x. eqb x 10) xs → length xs ≡ 64
    → sel_l {A = ℕ} ms (replicate 64 1) (replicate 64 0) ≡ ones xs
ones_of ms xs is long = subst (λ bs. sel_l {A = ℕ} bs (replicate 64 1) (replicate 64 0) ≡ ones xs) (sym is)
    (ones_by (map (λ x. eqb x 10) xs) 64 (length-map xs (λ x. eqb x 10) ∙ long) ∙ map-map (λ m. cond m 1 0)
    (λ x. eqb x 10) xs)

found_is : (xs : List ℕ) → length xs ≡ 64 → found xs ≡ ones xs
found_is xs long = ones_of _ xs (tops_compared w8 eqb xs (replicate 64 10) ∙ zip2_splat eqb xs 64 10 long) long

sum_ones : (xs : List ℕ) → sum_l (ones xs) ≡ lf_count xs
sum_ones [] = refl
sum_ones (x ∷ xs) = ap (λ s. cond (eqb x 10) 1 0 + s) (sum_ones xs) ∙ sym (sum_by-cons (λ b. cond (eqb b 10) 1 0) x xs)

one_small : (b : Bool) → cond b 1 0 ≤ 1
one_small true = omega arith
one_small false = omega arith

ones_small : (xs : List ℕ) → Each1 (λ f. f ≤ 1) (ones xs)
ones_small [] = tt
ones_small (x ∷ xs) = (one_small (eqb x 10), ones_small xs)

ones_long : (xs : List ℕ) → length (ones xs) ≡ length xs
ones_long xs = length-map xs (λ x. cond (eqb x 10) 1 0)

pub ends_fit : (ends lanes : List ℕ) → length lanes ≡ 64 → Each1 (λ e. e < 255) ends
    → Each2 (λ a b. Fits w8 (a + b)) ends (found lanes)
ends_fit ends lanes long small = subst (Each2 (λ a b. Fits w8 (a + b)) ends) (sym (found_is lanes long))
    (Each2-of (λ e. e < 255) (λ f. f ≤ 1) (λ a b. Fits w8 (a + b))
    (λ a b low one. record { fits = omega (arith, low, one) }) ends (ones lanes) small (ones_small lanes))

pub ends_sum : (ends lanes : List ℕ) → length ends ≡ 64 → length lanes ≡ 64
    → sum_l (zip2 (λ a b. a + b) ends (found lanes)) ≡ sum_l ends + lf_count lanes
ends_sum ends lanes is long = sum-zip2 ends (found lanes) (is ∙ sym (ap length (found_is lanes long)
    ∙ (ones_long lanes ∙ long))) ∙ ap (λ s. sum_l ends + s) (ap sum_l (found_is lanes long) ∙ sum_ones lanes)

pub ends_bound : (ends lanes : List ℕ) (n : ℕ) → length lanes ≡ 64 → Each1 (λ e. e ≤ n) ends
    → Each1 (λ e. e ≤ n + 1) (zip2 (λ a b. a + b) ends (found lanes))
ends_bound ends lanes n long small =
    Each1-zip2 (λ a b. a + b) (λ e. e ≤ n + 1) ends (found lanes) (subst (Each2 (λ a b. a + b ≤ n + 1) ends)
    (sym (found_is lanes long)) (Each2-of (λ e. e ≤ n) (λ f. f ≤ 1) (λ a b. a + b ≤ n + 1)
    (λ a b low one. omega (arith, low, one)) ends (ones lanes) small (ones_small lanes)))

-- ---- the sum of the counts

-- the lanes are made wider first, which changes no number
pub lanes_fit : (ends : List ℕ) → Each1 (λ e. e ≤ 64) ends → length ends ≡ 64 → Steps (λ s x. Fits w16 (s + x))
    (λ s x. s + x) 0 (map (λ e. e) ends)
lanes_fit ends small long = subst (Steps (λ s x. Fits w16 (s + x)) (λ s x. s + x) 0) (sym (map-id ends))
    (sum_fits w16 0 ends (omega (arith, sum_bound 64 ends small, ap (λ n. 64 * n) long)))

pub lanes_sum : (ends : List ℕ) → fold_l (λ s x. s + x) 0 (map (λ e. e) ends) ≡ sum_l ends
lanes_sum ends = ap (fold_l (λ s x. s + x) 0) (map-id ends) ∙ omega (arith, fold-sum 0 ends)

-- ---- the sum of 64 bytes

sum_is : (xs : List ℕ) → sum_l xs ≡ sum xs
sum_is [] = refl
sum_is (x ∷ xs) = ap (λ s. x + s) (sum_is xs) ∙ sym (sum_by-cons (λ b. b) x xs)

pub bytes_fit : (bytes : List ℕ) → Each1 (Fits w8) bytes → length bytes ≡ 64 → Steps (λ s x. Fits w16 (s + x))
    (λ s x. s + x) 0 (map (λ b. b) bytes)
bytes_fit bytes fit long = subst (Steps (λ s x. Fits w16 (s + x)) (λ s x. s + x) 0) (sym (map-id bytes))
    (sum_fits w16 0 bytes (omega (arith, sum_bound 255 bytes (bytes_below bytes fit), ap (λ n. 255 * n) long)))

pub bytes_sum : (bytes : List ℕ) → fold_l (λ s x. s + x) 0 (map (λ b. b) bytes) ≡ sum bytes
bytes_sum bytes = lanes_sum bytes ∙ sum_is bytes

-- ---- the lesser byte

-- the lesser of two, lane by lane
abbrev pub lesser : List ℕ → List ℕ → List ℕ
lesser xs ys = sel_l {A = ℕ} (map (top 7) (zip2 (λ a b. cond (ltb a b) 255 0) xs ys)) xs ys

lesser_is : (xs ys : List ℕ) (k : ℕ) → length xs ≡ 64 → length ys ≡ 64 → k < 64 → get_or (lesser xs ys) k 0 ≡ cond
    (ltb (get_or xs k 0) (get_or ys k 0)) (get_or xs k 0) (get_or ys k 0)
lesser_is xs ys k wide long low =
    let same : length xs ≡ length ys = wide ∙ sym long in
    let tests = zip2 ltb xs ys in
    let many : length tests ≡ 64 = length-zip2 ltb xs ys same ∙ wide in
    ap (λ ms. get_or (sel_l {A = ℕ} ms xs ys) k 0) (tops_compared w8 ltb xs ys)
    ∙ (get_or-sel_l tests xs ys k 0 (omega (arith, many)) (omega (arith, wide)) (omega (arith, long))
    ∙ ap (λ (b : Bool). cond b (get_or xs k 0) (get_or ys k 0)) (get_or-zip2 ltb xs ys k 0 0 false (omega (arith, wide))
    (omega (arith, long))))

less_by : (test : Bool) (x y : ℕ) → ltb x y ≡ test → (cond test x y ≤ x) × (cond test x y ≤ y)
less_by true x y is = (omega arith, omega (arith, ltb-true x y is))
less_by false x y is = (omega (arith, ltb-false x y is), omega arith)

pub lesser_bounds : (xs ys : List ℕ) (k : ℕ) → length xs ≡ 64 → length ys ≡ 64 → k < 64
    → (get_or (lesser xs ys) k 0 ≤ get_or xs k 0) × (get_or (lesser xs ys) k 0 ≤ get_or ys k 0)
lesser_bounds xs ys k wide long low = subst (λ n. (n ≤ get_or xs k 0) × (n ≤ get_or ys k 0))
    (sym (lesser_is xs ys k wide long low)) (less_by _ (get_or xs k 0) (get_or ys k 0) refl)

zero_by : (test : Bool) (n : ℕ) → (n == 0) ≡ test → not test ≡ false → n ≡ 0
zero_by true n is none = eqb-true n 0 is
zero_by false n is none = absurd (cc)

-- where no lane is as low as SOH
pub none_low : (xs : List ℕ) → length xs ≡ 64
    → not (mask_l (map (top 7) (zip2 (λ a b. cond (leb a b) 255 0) xs (replicate 64 1))) % 2 ^ 64 == 0) ≡ false
    → (k : ℕ) → k < 64 → 1 < get_or xs k 0
none_low xs wide none k low =
    let mask : mask_l (map (top 7) (zip2 (λ a b. cond (leb a b) 255 0) xs (replicate 64 1))) % 2 ^ 64 ≡ 0 =
    zero_by _ _ refl none in
    let all : take 64 xs ≡ xs = take_all 64 xs (omega (arith, wide)) in
    let empty : mask_l (map (λ x. leb x 1) (take 64 xs)) ≡ 0 = ap (λ ys. mask_l (map (λ x. leb x 1) ys)) all
    ∙ (sym (bitmask_splat w8 leb xs 64 1 wide (omega arith)) ∙ mask) in
    let high : leb (get_or xs k 0) 1 ≡ false = none_from_empty_mask (λ x. leb x 1) xs 0 64 0 (omega (arith, wide)) empty
    k (omega arith) low in
    omega (arith, leb-false (get_or xs k 0) 1 high)
