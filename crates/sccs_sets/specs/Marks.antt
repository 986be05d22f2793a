-- Marks by serial, as the pass over a table sets them.
use Rattle.std.specs.Prelude.{ℕ, Bool, false, List, Option, None, Some, length, slice_index_or, if◌then◌else◌}
use Rattle.sccs_history.specs.Numbers.{falling, has}

-- the places of a row of marks that are set, greatest first
abbrev pub marked_places : List Bool → List ℕ
marked_places marks = falling (length marks) (λ n. slice_index_or marks n false)

-- what is said first, or else
abbrev pub or_else : Option Bool → Option Bool → Option Bool
or_else None otherwise = otherwise
or_else (Some said) otherwise = Some said

-- what a list says of a number
abbrev pub said_by : List ℕ → Bool → ℕ → Option Bool
said_by numbers value n = if has numbers n then Some value else None
