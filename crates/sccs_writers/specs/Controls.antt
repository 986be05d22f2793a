-- A control line of a body as it is written.
use Rattle.std.specs.Prelude.{ℕ, List, ◌∷◌, ◌++◌, decimal}

-- SOH, a letter, a blank and a serial
abbrev pub control_line : List ℕ → ℕ → List ℕ
control_line letter n = 1 ∷ letter ++ (32 ∷ decimal n)
