-- The kinds of usage faults, by their numbers.
use Rattle.std.specs.Prelude.{ℕ}

abbrev pub unknown_utility : ℕ
unknown_utility = 1

abbrev pub unknown_option : ℕ
unknown_option = 2

abbrev pub missing_argument : ℕ
missing_argument = 3

abbrev pub given_twice : ℕ
given_twice = 4

abbrev pub exclude : ℕ
exclude = 5

abbrev pub malformed : ℕ
malformed = 6

abbrev pub no_operand : ℕ
no_operand = 7

abbrev pub option_needed : ℕ
option_needed = 8

abbrev pub too_many : ℕ
too_many = 9
