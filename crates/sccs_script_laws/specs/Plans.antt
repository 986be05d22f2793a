-- What a script does to a base by the numbers of its lines, and to the lines of a history by such a plan.
use Rattle.std.specs.Prelude.{ℕ, suc, ◌+◌, ◌≤◌, ◌==◌, Bool, true, false, not, List, [], ◌∷◌, ◌++◌, length, map}
use Rattle.std.specs.Prelude.{replicate, if◌then◌else◌}
use Rattle.sccs_history.specs.Numbers.{front_if, has}
use Rattle.sccs_history.specs.Body.{HistoryLine}
use Rattle.sccs_script_laws.specs.Scripts.{run}
use Rattle.sccs_script_laws.specs.Weave.{marked, new_line}
use Rattle.sccs_script_laws.specs.declared.scripts.Added.{Added}
use Rattle.sccs_script_laws.specs.declared.scripts.Order.{Order}
use Rattle.sccs_script_laws.specs.declared.scripts.Plan.{Plan}

-- a base line, deleted or not, or a new line
pub data Cell : Type 0 where
  Base : (deleted : Bool) → Cell
  New : (text : List ℕ) → Cell

abbrev pub is_there : Cell → Bool
is_there (Base deleted) = not deleted
is_there (New text) = true

-- what stands in the place of a cell that is deleted
abbrev pub struck : Cell → List Cell
struck (Base deleted) = Base true ∷ []
struck (New text) = []

-- what the orders make of a base of so many lines
abbrev pub cells_of : List Order → ℕ → List Cell
cells_of orders count = run is_there struck New orders (replicate count (Base false))

-- the numbers of the deleted base lines, where the last one before had number k
abbrev pub deleted_from : ℕ → List Cell → List ℕ
deleted_from k [] = []
deleted_from k (Base deleted ∷ cells) = front_if deleted (suc k) (deleted_from (suc k) cells)
deleted_from k (New text ∷ cells) = deleted_from k cells

-- lines after base line k, where there are any
abbrev pub with_added : ℕ → List (List ℕ) → List Added → List Added
with_added k [] rest = rest
with_added k (text ∷ texts) rest = record { after = k; lines = text ∷ texts } ∷ rest

-- the new lines, where the last base line before had number k and these lines follow it already
abbrev pub added_from : ℕ → List (List ℕ) → List Cell → List Added
added_from k texts [] = with_added k texts []
added_from k texts (Base deleted ∷ cells) = with_added k texts (added_from (suc k) [] cells)
added_from k texts (New text ∷ cells) = added_from k (texts ++ text ∷ []) cells

-- the plan of a script for a base of so many lines
abbrev pub plan : List Order → ℕ → Plan
plan orders count = record {
  deleted = deleted_from 0 (cells_of orders count);
  added =
      added_from 0 [] (cells_of orders count);
}

-- the lines added directly after base line k, or before all where k is 0
abbrev pub added_after : ℕ → List Added → List (List ℕ)
added_after k [] = []
added_after k (a ∷ rest) = if a.after == k then a.lines else added_after k rest

-- the line, with the serial among its deleters where the plan deletes base line k
abbrev pub struck_line : Plan → ℕ → ℕ → HistoryLine → HistoryLine
struck_line p n k line = if has p.deleted k then marked n line else line

-- what a plan adds after base line k, as lines of a serial
abbrev pub added_lines : Plan → ℕ → ℕ → List HistoryLine
added_lines p n k = map (new_line n) (added_after k p.added)

-- the lines with those of a plan, where the last visible one before had number k
abbrev pub planted_from : (HistoryLine → Bool) → Plan → ℕ → ℕ → List HistoryLine → List HistoryLine
planted_from seen p n k [] = []
planted_from seen p n k (line ∷ lines) =
    if seen line then struck_line p n (suc k) line ∷ (added_lines p n (suc k) ++ planted_from seen p n (suc k) lines)
    else line ∷ planted_from seen p n k lines

-- The lines of a history with those of a plan: the serial is among the deleters of the visible lines that the plan
-- deletes, and new lines of the serial stand directly after their visible line, or before all.
abbrev pub planted : (HistoryLine → Bool) → Plan → ℕ → List HistoryLine → List HistoryLine
planted seen p n lines = added_lines p n 0 ++ planted_from seen p n 0 lines

-- numbers that rise, from a bound on
abbrev pub RisesFrom : ℕ → List ℕ → Type 0
RisesFrom bound [] = Unit {0}
RisesFrom bound (n ∷ ns) = (bound ≤ n) × RisesFrom (suc n) ns

-- the base lines that new lines follow
abbrev pub places_of : List Added → List ℕ
places_of added = map (λ (a : Added). a.after) added

-- The numbers of a plan rise: those of its deleted lines from 1 on, those of the lines that new ones follow from 0 on.
pub record IsInOrder (p : Plan) : Type 0 where
  pub deleted : RisesFrom 1 p.deleted
  pub added : RisesFrom 0 (places_of p.added)

-- how many lines are added
abbrev pub added_count : List Added → ℕ
added_count [] = 0
added_count (a ∷ rest) = length a.lines + added_count rest
