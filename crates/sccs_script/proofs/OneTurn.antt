-- How reading goes on with a line.
use Rattle.std.proofs.Common.{◌≡◌, ℕ, ◌+◌, ◌<◌, ◌≤◌, List, [], ◌∷◌, ◌++◌, Option, Some, Result, length, drop, get_or}
use Rattle.std.proofs.Common.{slice_get, sym, ap, ◌∙◌, arith, add-one}
use Rattle.std.proofs.lemmas.List.{at_drop_all, drop_more}
use Rattle.std.proofs.lemmas.Option.{slice_get-get_or}
use Rattle.sccs_script_laws.specs.declared.scripts.Order.{Order}
use Rattle.std.specs.List.{AllByRecursion}
use Rattle.sccs_script.specs.Commands.{at_end, FitsIn, open_in, orders_from, turn_at, unless_bad, whole_in}
use Rattle.sccs_script.specs.declared.faults.ScriptFault.{ScriptFault}
use Rattle.sccs_script.specs.declared.turns.Turn.{Turn}

-- the item at a place, and the rest
pub drop_at_place : {A : Type 0} (xs : List A) (i : ℕ) (x : A) → i < length xs → slice_get xs i ≡ Some x
    → drop i xs ≡ x ∷ drop (i + 1) xs
drop_at_place xs i x low at =
    let same : get_or xs i x ≡ x = cc (slice_get-get_or xs i x low) in drop_more xs i x low
    ∙ ap (λ y. y ∷ drop (i + 1) xs) same

-- behind a turn
abbrev pub behind_turn : List Order → Turn → ℕ → List (List ℕ) → Result (List Order) ScriptFault
behind_turn orders t count lines = unless_bad t (orders_from (whole_in orders t) (open_in t) count lines)

pub one_turn : (orders : List Order) (text : Option Order) (count : ℕ) (lines : List (List ℕ)) (line : List ℕ)
    (t : Turn) → count < length lines → slice_get lines count ≡ Some line
    → t ≡ turn_at text (count + 1) line → orders_from orders text count (drop count lines) ≡ behind_turn orders t
    (count + 1) (drop (count + 1) lines)
unfolding orders_from
one_turn orders text count lines line t low at is =
    ap (λ l. orders_from orders text count l) (drop_at_place lines count line low at)
    ∙ (ap (λ n. behind_turn orders (turn_at text n line) n (drop (count + 1) lines)) (sym (add-one count))
    ∙ ap (λ k. behind_turn orders k (count + 1) (drop (count + 1) lines)) (sym is))

-- at the end of the lines
pub no_line : (orders : List Order) (text : Option Order) (count : ℕ) (lines : List (List ℕ)) → length lines ≤ count
    → orders_from orders text count (drop count lines) ≡ at_end orders text
unfolding orders_from
no_line orders text count lines past = at_drop_all (λ l. orders_from orders text count l) lines count past

-- an order whose text ends before a line's number, beside others
pub fit_push : (orders : List Order) (order : Order) (next : ℕ) → AllByRecursion (FitsIn 18446744073709551616) orders
    → next ≤ 18446744073709551616 → FitsIn next order → AllByRecursion (FitsIn 18446744073709551616)
    (orders ++ order ∷ [])
fit_push [] order next fit le fits = (record { numbers = fits.numbers; within = omega (arith, fits.within) }, tt)
fit_push (first ∷ orders) order next fit le fits = (fit.0, fit_push orders order next fit.1 le fits)
