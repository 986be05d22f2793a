-- The lines that a batch writes.
use Rattle.std.specs.Prelude.{ℕ, List, ◌++◌, codes, decimal}

-- the status of an entry
abbrev pub status_line : ℕ → List ℕ
status_line status = codes "= " ++ (decimal status ++ codes "\n")

-- the number of the line that is no entry
abbrev pub bad_entry_line : ℕ → List ℕ
bad_entry_line number = codes "BATCH: line " ++ (decimal number ++ codes "\n")
