-- The numbers of a script's plan rise.
use Rattle.std.proofs.Common.{ℕ, suc, ◌≤◌, Bool, true, false, List, [], ◌∷◌, ◌++◌, arith}
use Rattle.sccs_history.specs.Numbers.{front_if}
use Rattle.sccs_script_laws.specs.Plans.{added_from, Base, Cell, cells_of, deleted_from, IsInOrder, New, places_of}
use Rattle.sccs_script_laws.specs.Plans.{plan, RisesFrom, with_added}
use Rattle.sccs_script_laws.specs.declared.scripts.Added.{Added}
use Rattle.sccs_script_laws.specs.declared.scripts.Order.{Order}

pub rises_wider : (low high : ℕ) (ns : List ℕ) → low ≤ high → RisesFrom high ns → RisesFrom low ns
rises_wider low high [] le rises = tt
rises_wider low high (n ∷ ns) le rises = (omega (arith, rises.0), rises.1)

deleted_rise : (k : ℕ) (cells : List Cell) → RisesFrom (suc k) (deleted_from k cells)
deleted_rise k [] = tt
deleted_rise k (Base deleted ∷ cells) = front deleted (deleted_rise (suc k) cells)
  where
    front : (t : Bool) → RisesFrom (suc (suc k)) (deleted_from (suc k) cells)
        → RisesFrom (suc k) (front_if t (suc k) (deleted_from (suc k) cells))
    front true rest = (omega arith, rest)
    front false rest = rises_wider (suc k) (suc (suc k)) (deleted_from (suc k) cells) (omega arith) rest
deleted_rise k (New text ∷ cells) = deleted_rise k cells

with_rises : (k : ℕ) (texts : List (List ℕ)) (rest : List Added) → RisesFrom (suc k) (places_of rest)
    → RisesFrom k (places_of (with_added k texts rest))
with_rises k [] rest rises = rises_wider k (suc k) (places_of rest) (omega arith) rises
with_rises k (text ∷ texts) rest rises = (omega arith, rises)

added_rise : (k : ℕ) (texts : List (List ℕ)) (cells : List Cell) → RisesFrom k (places_of (added_from k texts cells))
added_rise k texts [] = with_rises k texts [] tt
added_rise k texts (Base deleted ∷ cells) = with_rises k texts (added_from (suc k) [] cells)
    (added_rise (suc k) [] cells)
added_rise k texts (New text ∷ cells) = added_rise k (texts ++ text ∷ []) cells

pub plan_in_order : (orders : List Order) (count : ℕ) → IsInOrder (plan orders count)
plan_in_order orders count =
    record { deleted = deleted_rise 0 (cells_of orders count); added = added_rise 0 [] (cells_of orders count) }
