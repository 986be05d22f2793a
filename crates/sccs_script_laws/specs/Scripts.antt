-- What the orders of an edit script do to lines (POSIX ed). Line k is the k-th that is seen; a new line is made by
-- `made`, and `gone` is what stands in the place of a deleted one.
use Rattle.std.specs.Prelude.{ℕ, zero, suc, ◌-◌, Bool, true, List, [], ◌∷◌, ◌++◌, map, if◌then◌else◌}
use Rattle.sccs_script_laws.specs.declared.scripts.Order.{Order}
use Rattle.sccs_script_laws.specs.declared.scripts.OrderKind.{OrderKind}
use Rattle.sccs_script_laws.specs.declared.scripts.OrderKind.TheVariants.{Append, Change, Delete}

-- new lines directly after line k, before all lines where k is 0
abbrev pub put_after : {A : Type 0} → (A → Bool) → ℕ → List A → List A → List A
put_after seen zero new lines = new ++ lines
put_after seen (suc k) new [] = []
put_after seen (suc k) new (line ∷ lines) = line ∷ put_after seen (if seen line then k else suc k) new lines

-- as many lines as are counted taken away, from the one after line k on
abbrev pub take_away : {A : Type 0} → (A → Bool) → (A → List A) → ℕ → ℕ → List A → List A
take_away seen gone k zero lines = lines
take_away seen gone k (suc count) [] = []
take_away seen gone (suc k) (suc count) (line ∷ lines) = line ∷ take_away seen gone (if seen line then k else suc k)
    (suc count) lines
take_away seen gone zero (suc count) (line ∷ lines) =
    (if seen line then gone line else line ∷ []) ++ take_away seen gone zero (if seen line then count else suc count)
    lines

-- one order: a change is a deletion, and then new lines after the line before
abbrev pub step : {A : Type 0} → (A → Bool) → (A → List A) → (List ℕ → A) → OrderKind → ℕ → ℕ → List (List ℕ) → List A
    → List A
step seen gone made Append first last new lines = put_after seen first (map made new) lines
step seen gone made Delete first last new lines = take_away seen gone (first - 1) (last - (first - 1)) lines
step seen gone made Change first last new lines = put_after seen (first - 1) (map made new)
    (take_away seen gone (first - 1) (last - (first - 1)) lines)

-- the orders in turn, each on the lines that the one before left
abbrev pub run : {A : Type 0} → (A → Bool) → (A → List A) → (List ℕ → A) → List Order → List A → List A
run seen gone made [] lines = lines
run seen gone made (order ∷ orders) lines = run seen gone made orders
    (step seen gone made order.kind order.first order.last order.lines lines)

-- the orders on a text, where each line is seen and a deleted one is gone
abbrev pub apply : List Order → List (List ℕ) → List (List ℕ)
apply orders text = run (λ _. true) (λ _. []) (λ line. line) orders text
