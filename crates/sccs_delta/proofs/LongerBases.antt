-- A script that fits a base does to a longer one what it does to it.
use Rattle.std.proofs.Common.{◌≡◌, ℕ, zero, suc, ◌+◌, ◌-◌, ◌<◌, ◌≤◌, nat_lt, Bool, true, false, cond, List, [], ◌∷◌}
use Rattle.std.proofs.Common.{◌++◌, length, map, replicate, Result, Ok, Err, refl, sym, ap, ◌∙◌, arith, append_assoc}
use Rattle.std.specs.List.{AllByRecursion}
use Rattle.std.proofs.lemmas.Bool.{ltb-false, le-ltb}
use Rattle.sccs_script_laws.specs.Plans.{Base, Cell, New, added_from, cells_of, deleted_from, is_there, plan, struck}
use Rattle.sccs_script_laws.specs.Plans.{with_added}
use Rattle.sccs_script_laws.specs.Scripts.{put_after, run, step, take_away}
use Rattle.sccs_script_laws.specs.declared.scripts.Added.{Added}
use Rattle.sccs_script_laws.specs.declared.scripts.Order.{Order}
use Rattle.sccs_script_laws.specs.declared.scripts.OrderKind.{OrderKind}
use Rattle.sccs_script_laws.specs.declared.scripts.OrderKind.TheVariants.{Append, Change, Delete}
use Rattle.sccs_script.specs.Checks.{length_after, length_by, ranged}
use Rattle.sccs_script.specs.Commands.{HasNumbers}
use Rattle.sccs_script.specs.declared.faults.ScriptFault.{ScriptFault}
use Rattle.sccs_script.specs.declared.faults.ScriptFault.TheVariants.{ScriptRange}
use Rattle.sccs_delta.specs.Versions.{IsOrdered}

-- how many cells are there
abbrev there : List Cell → ℕ
there [] = 0
there (Base true ∷ cells) = there cells
there (Base false ∷ cells) = suc (there cells)
there (New text ∷ cells) = suc (there cells)

there_both : (xs ys : List Cell) → there (xs ++ ys) ≡ there xs + there ys
there_both [] ys = omega arith
there_both (Base true ∷ xs) ys = there_both xs ys
there_both (Base false ∷ xs) ys = omega (arith, there_both xs ys)
there_both (New text ∷ xs) ys = omega (arith, there_both xs ys)

news_there : (texts : List (List ℕ)) → there (map New texts) ≡ length texts
news_there [] = refl
news_there (text ∷ texts) = ap suc (news_there texts)

-- ---- new lines

put_longer : (k : ℕ) (new xs ys : List Cell) → k ≤ there xs → put_after is_there k new (xs ++ ys) ≡ put_after is_there k
    new xs ++ ys
put_longer zero new xs ys low = sym (append_assoc new xs ys)
put_longer (suc k) new [] ys low = absurd (omega (arith, low))
put_longer (suc k) new (Base true ∷ xs) ys low = ap (λ l. Base true ∷ l) (put_longer (suc k) new xs ys low)
put_longer (suc k) new (Base false ∷ xs) ys low = ap (λ l. Base false ∷ l) (put_longer k new xs ys (omega (arith, low)))
put_longer (suc k) new (New text ∷ xs) ys low = ap (λ l. New text ∷ l) (put_longer k new xs ys (omega (arith, low)))

put_there : (k : ℕ) (new xs : List Cell) → k ≤ there xs → there (put_after is_there k new xs) ≡ there xs + there new
put_there zero new xs low = omega (arith, there_both new xs)
put_there (suc k) new [] low = absurd (omega (arith, low))
put_there (suc k) new (Base true ∷ xs) low = put_there (suc k) new xs low
put_there (suc k) new (Base false ∷ xs) low = omega (arith, put_there k new xs (omega (arith, low)))
put_there (suc k) new (New text ∷ xs) low = omega (arith, put_there k new xs (omega (arith, low)))

-- ---- lines taken away

take_longer : (k count : ℕ) (xs ys : List Cell) → k + count ≤ there xs → take_away is_there struck k count (xs ++ ys)
    ≡ take_away is_there struck k count xs ++ ys
take_longer zero zero xs ys low = refl
take_longer (suc k) zero xs ys low = refl
take_longer zero (suc count) [] ys low = absurd (omega (arith, low))
take_longer (suc k) (suc count) [] ys low = absurd (omega (arith, low))
take_longer (suc k) (suc count) (Base true ∷ xs) ys low =
    ap (λ l. Base true ∷ l) (take_longer (suc k) (suc count) xs ys low)
take_longer (suc k) (suc count) (Base false ∷ xs) ys low = ap (λ l. Base false ∷ l) (take_longer k (suc count) xs ys
    (omega (arith, low)))
take_longer (suc k) (suc count) (New text ∷ xs) ys low = ap (λ l. New text ∷ l) (take_longer k (suc count) xs ys
    (omega (arith, low)))
take_longer zero (suc count) (Base true ∷ xs) ys low = ap (λ l. Base true ∷ l) (take_longer zero (suc count) xs ys low)
take_longer zero (suc count) (Base false ∷ xs) ys low = ap (λ l. Base true ∷ l) (take_longer zero count xs ys
    (omega (arith, low)))
take_longer zero (suc count) (New text ∷ xs) ys low = take_longer zero count xs ys (omega (arith, low))

take_there : (k count : ℕ) (xs : List Cell) → k + count ≤ there xs → there (take_away is_there struck k count xs)
    + count ≡ there xs
take_there zero zero xs low = omega arith
take_there (suc k) zero xs low = omega arith
take_there zero (suc count) [] low = absurd (omega (arith, low))
take_there (suc k) (suc count) [] low = absurd (omega (arith, low))
take_there (suc k) (suc count) (Base true ∷ xs) low = take_there (suc k) (suc count) xs low
take_there (suc k) (suc count) (Base false ∷ xs) low = omega (arith, take_there k (suc count) xs (omega (arith, low)))
take_there (suc k) (suc count) (New text ∷ xs) low = omega (arith, take_there k (suc count) xs (omega (arith, low)))
take_there zero (suc count) (Base true ∷ xs) low = take_there zero (suc count) xs low
take_there zero (suc count) (Base false ∷ xs) low = omega (arith, take_there zero count xs (omega (arith, low)))
take_there zero (suc count) (New text ∷ xs) low = omega (arith, take_there zero count xs (omega (arith, low)))

-- ---- an order

abbrev do_step : OrderKind → ℕ → ℕ → List (List ℕ) → List Cell → List Cell
do_step kind first last new cells = step is_there struck New kind first last new cells

step_longer : (kind : OrderKind) (first last : ℕ) (new : List (List ℕ)) (xs ys : List Cell) → HasNumbers kind first last
    → last ≤ there xs → do_step kind first last new (xs ++ ys) ≡ do_step kind first last new xs ++ ys
step_longer Append first last new xs ys has low = put_longer first (map New new) xs ys (omega (arith, has.rising, low))
step_longer Delete first last new xs ys has low = take_longer (first - 1) (last - (first - 1)) xs ys
    (omega (arith, has.rising, low))
step_longer Change first last new xs ys has low =
    let fits : (first - 1) + (last - (first - 1)) ≤ there xs = omega (arith, has.rising, low) in
    let left : there (take_away is_there struck (first - 1) (last - (first - 1)) xs) + (last - (first - 1)) ≡ there xs =
    take_there (first - 1) (last - (first - 1)) xs fits in
    ap (put_after is_there (first - 1) (map New new)) (take_longer (first - 1) (last - (first - 1)) xs ys fits)
    ∙ put_longer (first - 1) (map New new) (take_away is_there struck (first - 1) (last - (first - 1)) xs) ys
    (omega (arith, left, fits))

from_one : (first : ℕ) → nat_lt 0 first ≡ true → 0 < first
from_one zero h = absurd cc
from_one (suc n) h = omega arith

step_there : (kind : OrderKind) (first last : ℕ) (new : List (List ℕ)) (xs : List Cell) → HasNumbers kind first last
    → last ≤ there xs → there (do_step kind first last new xs) ≡ length_by kind first last (length new) (there xs)
step_there Append first last new xs has low = put_there first (map New new) xs (omega (arith, has.rising, low))
    ∙ ap (λ n. there xs + n) (news_there new)
step_there Delete first last new xs has low =
    let some : 0 < first = from_one first has.low in
    let left : there (take_away is_there struck (first - 1) (last - (first - 1)) xs) + (last - (first - 1)) ≡ there xs =
    take_there (first - 1) (last - (first - 1)) xs (omega (arith, has.rising, low)) in
    omega (arith, some, left, has.rising, low)
step_there Change first last new xs has low =
    let some : 0 < first = from_one first has.low in
    let fits : (first - 1) + (last - (first - 1)) ≤ there xs = omega (arith, has.rising, low) in
    let left : there (take_away is_there struck (first - 1) (last - (first - 1)) xs) + (last - (first - 1)) ≡ there xs =
    take_there (first - 1) (last - (first - 1)) xs fits in
    let put : there (put_after is_there (first - 1) (map New new) (take_away is_there struck (first - 1)
    (last - (first - 1)) xs)) ≡ there (take_away is_there struck (first - 1) (last - (first - 1)) xs) + there
    (map New new) =
    put_there (first - 1) (map New new) (take_away is_there struck (first - 1) (last - (first - 1)) xs)
    (omega (arith, left, fits)) in
    omega (arith, some, left, put, news_there new, has.rising, low)

-- ---- all orders

within : (line lines last : ℕ) (rest : Result (Unit {0}) ScriptFault) (past : Bool) → nat_lt lines last ≡ past
    → cond past (Err (ScriptRange line lines)) rest ≡ Ok tt → (last ≤ lines) × (rest ≡ Ok tt)
within line lines last rest true is ok = absurd cc
within line lines last rest false is ok = (ltb-false lines last is, ok)

run_longer : (orders : List Order) (xs ys : List Cell) → AllByRecursion IsOrdered orders → ranged orders (there xs)
    ≡ Ok tt → run is_there struck New orders (xs ++ ys) ≡ run is_there struck New orders xs ++ ys
run_longer [] xs ys ordered fits = refl
run_longer (order ∷ orders) xs ys ordered fits =
    let here = within order.line (there xs) order.last (ranged orders (length_after order (there xs)))
    (nat_lt (there xs) order.last) refl fits in
    let next : List Cell = do_step order.kind order.first order.last order.lines xs in
    ap (run is_there struck New orders) (step_longer order.kind order.first order.last order.lines xs ys ordered.0
    here.0)
    ∙ run_longer orders next ys ordered.1 (ap (ranged orders) (step_there order.kind order.first order.last order.lines
    xs ordered.0 here.0) ∙ here.1)

after_longer : (kind : OrderKind) (first last new lines more : ℕ) → HasNumbers kind first last → last ≤ lines
    → length_by kind first last new (lines + more) ≡ length_by kind first last new lines + more
after_longer Append first last new lines more has low = omega arith
after_longer Delete first last new lines more has low = let some : 0 < first = from_one first has.low in
    omega (arith, some, low, has.rising)
after_longer Change first last new lines more has low = let some : 0 < first = from_one first has.low in
    omega (arith, some, low, has.rising)

pub fits_longer : (orders : List Order) (count more : ℕ) → AllByRecursion IsOrdered orders → ranged orders count ≡ Ok tt
    → ranged orders (count + more) ≡ Ok tt
fits_longer [] count more ordered fits = refl
fits_longer (order ∷ orders) count more ordered fits =
    let here = within order.line count order.last (ranged orders (length_after order count)) (nat_lt count order.last)
    refl fits in
    ap (λ t. cond t (Err (ScriptRange order.line (count + more))) (ranged orders (length_after order (count + more))))
    (le-ltb (count + more) order.last (omega (arith, here.0)))
    ∙ (ap (ranged orders) (after_longer order.kind order.first order.last (length order.lines) count more ordered.0
    here.0)
    ∙ fits_longer orders (length_after order count) more ordered.1 here.1)

-- ---- the plan

bases_there : (count : ℕ) → there (replicate count (Base false)) ≡ count
bases_there zero = refl
bases_there (suc count) = ap suc (bases_there count)

bases_both : (count more : ℕ) → replicate (count + more) (Base false) ≡ replicate count (Base false) ++ replicate more
    (Base false)
bases_both zero more = ap (λ n. replicate n (Base false)) (none_added more)
  where
    none_added : (n : ℕ) → 0 + n ≡ n
    none_added n = omega arith
bases_both (suc count) more = ap (λ n. replicate n (Base false)) (one_more count more) ∙ ap (λ l. Base false ∷ l)
    (bases_both count more)
  where
    one_more : (n m : ℕ) → suc n + m ≡ suc (n + m)
    one_more n m = omega arith

none_deleted : (k more : ℕ) → deleted_from k (replicate more (Base false)) ≡ []
none_deleted k zero = refl
none_deleted k (suc more) = none_deleted (suc k) more

deleted_longer : (k : ℕ) (cells : List Cell) (more : ℕ) → deleted_from k (cells ++ replicate more (Base false))
    ≡ deleted_from k cells
deleted_longer k [] more = none_deleted k more
deleted_longer k (Base true ∷ cells) more = ap (λ l. suc k ∷ l) (deleted_longer (suc k) cells more)
deleted_longer k (Base false ∷ cells) more = deleted_longer (suc k) cells more
deleted_longer k (New text ∷ cells) more = deleted_longer k cells more

none_added_from : (k more : ℕ) → added_from k [] (replicate more (Base false)) ≡ []
none_added_from k zero = refl
none_added_from k (suc more) = none_added_from (suc k) more

last_added : (k : ℕ) (texts : List (List ℕ)) (more : ℕ) → added_from k texts (replicate more (Base false))
    ≡ with_added k texts []
last_added k texts zero = refl
last_added k texts (suc more) = ap (with_added k texts) (none_added_from (suc k) more)

added_longer : (k : ℕ) (texts : List (List ℕ)) (cells : List Cell) (more : ℕ)
    → added_from k texts (cells ++ replicate more (Base false)) ≡ added_from k texts cells
added_longer k texts [] more = last_added k texts more
added_longer k texts (Base deleted ∷ cells) more = ap (with_added k texts) (added_longer (suc k) [] cells more)
added_longer k texts (New text ∷ cells) more = added_longer k (texts ++ text ∷ []) cells more

pub plan_longer : (orders : List Order) (count more : ℕ) → AllByRecursion IsOrdered orders → ranged orders count ≡ Ok tt
    → plan orders (count + more) ≡ plan orders count
plan_longer orders count more ordered fits =
    let cells : cells_of orders (count + more) ≡ cells_of orders count ++ replicate more (Base false) =
    ap (run is_there struck New orders) (bases_both count more)
    ∙ run_longer orders (replicate count (Base false)) (replicate more (Base false)) ordered
    (ap (ranged orders) (bases_there count) ∙ fits) in
    ap (λ (c : List Cell). record { deleted = deleted_from 0 c; added = added_from 0 [] c }) cells
    ∙ (ap (λ (d : List ℕ). record {
      deleted = d;
      added = added_from 0 [] (cells_of orders count ++ replicate more
          (Base false));
    }) (deleted_longer 0 (cells_of orders count) more)
    ∙ ap (λ (a : List Added). record { deleted = deleted_from 0 (cells_of orders count); added = a })
    (added_longer 0 [] (cells_of orders count) more))
