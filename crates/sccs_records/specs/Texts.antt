-- The texts of a record as they are made (own).
use Rattle.std.specs.Prelude.{ℕ, List, [], ◌∷◌}

-- the lines of a comment, of which there is one at least
abbrev pub some_lines : List (List ℕ) → List (List ℕ)
some_lines [] = [] ∷ []
some_lines (line ∷ lines) = line ∷ lines
