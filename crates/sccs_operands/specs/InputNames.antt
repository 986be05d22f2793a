-- The lines of an input that are taken for names.
use Rattle.std.specs.Prelude.{◌≡◌, ℕ, ◌<◌, ◌≤◌, List, length, Result, Ok, Err}
use Rattle.sccs_base.specs.Cut.{text_of}
use Rattle.sccs_base.specs.declared.streams.TakeFault.{TakeFault}
use Rattle.sccs_base.specs.declared.streams.TakeFault.TheVariants.{TooLong}

-- the lines are those of the input, or it is longer than the limit, or it wasn't taken whole
abbrev pub GivesLines : ℕ → List ℕ → Result (List (List ℕ)) TakeFault → Type 0
GivesLines limit input (Ok lines) = (length input ≤ limit) × (lines ≡ text_of input)
GivesLines limit input (Err TooLong) = limit < length input
GivesLines limit input (Err fault) = Unit {0}
