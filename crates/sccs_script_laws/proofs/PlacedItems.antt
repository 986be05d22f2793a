-- The items of a new delta.
use Rattle.std.proofs.Common.{◌≡◌, ℕ, ◌<◌, ◌≤◌, nat_lt, false, ◌&&◌, List, [], ◌∷◌, length, sym, ap, ◌∙◌, arith}
use Rattle.std.specs.List.{AllByRecursion}
use Rattle.sccs_history.specs.Numbers.{first, has, Falls}
use Rattle.sccs_history.specs.Body.{is_delete, is_insert, mark, above, inserters, inserter, deleters, line_at}
use Rattle.sccs_history.specs.Body.{lines_behind, lines_of}
use Rattle.sccs_history.specs.Select.{select}
use Rattle.sccs_history.specs.declared.headers.Item.{Item}
use Rattle.sccs_history.specs.declared.headers.Item.TheVariants.{Text, Insert, Delete, End}
use Rattle.sccs_history.proofs.Falling.{Falls-falling, Falls-wider}
use Rattle.sccs_script_laws.specs.Scripts.{apply}
use Rattle.sccs_script_laws.specs.Weave.{AreBelow, IsBelow, weave}
use Rattle.sccs_script_laws.specs.Plans.{plan}
use Rattle.sccs_script_laws.specs.Places.{places}
use Rattle.sccs_script_laws.specs.declared.scripts.Order.{Order}
use Rattle.sccs_script_laws.proofs.Plants.{weave_planted}
use Rattle.sccs_script_laws.proofs.Selects.{select_other, select_woven}
use Rattle.sccs_script_laws.proofs.Spreads.{lines_spliced}

first_below : (n : ℕ) (ns : List ℕ) → 0 < n → Falls n ns → first ns < n
first_below n [] some falls = some
first_below n (m ∷ ns) some falls = falls.0

all_below : (n b : ℕ) (ns : List ℕ) → b ≤ n → Falls b ns → AllByRecursion (λ d. d < n) ns
all_below n b [] le falls = tt
all_below n b (m ∷ ns) le falls = (omega (arith, falls.0), all_below n m ns (omega (arith, falls.0)) falls.1)

-- a serial above those that items name is above those of their lines
line_below : (n : ℕ) (before : List Item) (text : List ℕ) → 0 < n → above before ≤ n → IsBelow n (line_at before text)
line_below n before text some high = record {
  inserter = first_below n (inserters before) some (Falls-wider (above before) n (inserters before) high
      (Falls-falling (above before) (λ m. is_insert (mark m before))));
  deleters = all_below n (above before) (deleters before) high (Falls-falling (above before)
      (λ m. is_delete (mark m before) && nat_lt (inserter before) m));
}

lines_below : (n : ℕ) (before items : List Item) → 0 < n → above before ≤ n → above items ≤ n
    → AreBelow n (lines_behind before items)
lines_below n before [] some low high = tt
lines_below n before (Text text ∷ items) some low high =
    (line_below n before text some low, lines_below n (Text text ∷ before) items some low high)
lines_below n before (Insert m ∷ items) some low high = lines_below n (Insert m ∷ before) items some (omega arith)
    (omega arith)
lines_below n before (Delete m ∷ items) some low high = lines_below n (Delete m ∷ before) items some (omega arith)
    (omega arith)
lines_below n before (End m ∷ items) some low high = lines_below n (End m ∷ before) items some (omega arith)
    (omega arith)

module _ (items : List Item) (set : List ℕ) (orders : List Order) (n : ℕ) (some : 0 < n) (high : above items ≤ n) where
  below : AreBelow n (lines_of items)
  below = lines_below n [] items some (omega arith) high

  pub lines_placed : lines_of (places items set orders n) ≡ weave set n orders (lines_of items)
  lines_placed =
      lines_spliced n set (plan orders (length (select set (lines_of items)))) items some high
      ∙ sym (weave_planted n set orders (lines_of items) below)

  pub select_placed : select (n ∷ set) (lines_of (places items set orders n)) ≡ apply orders
      (select set (lines_of items))
  select_placed = ap (select (n ∷ set)) lines_placed ∙ select_woven n set orders (lines_of items) below

  pub other_placed : (other : List ℕ) → has other n ≡ false → select other (lines_of (places items set orders n))
      ≡ select other (lines_of items)
  other_placed other none = ap (select other) lines_placed ∙ select_other n other set orders (lines_of items) none
