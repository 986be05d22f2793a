-- The arguments of options, whatever words they stand in.
use Rattle.std.specs.Prelude.{◌≡◌, ℕ, map, Result, Ok, Err}
use Rattle.sccs_words.specs.Scan.{CommandLine}
use Rattle.sccs_words.specs.declared.scanning.OptionArgument.{OptionArgument}
use Rattle.sccs_words.specs.declared.scanning.OptionArgument.TheVariants.{Unknown, Bare, Missing, Value}
use Rattle.sccs_words.specs.declared.scanning.Use.{Use}
use Rattle.sccs_words.specs.declared.commands.Command.{Command}
use Rattle.sccs_words.specs.declared.commands.Usage.{Usage}

abbrev pub argument_only : OptionArgument → OptionArgument
argument_only Unknown = Unknown
argument_only Bare = Bare
argument_only Missing = Missing
argument_only (Value bytes n) = Value bytes 0

-- a use without the numbers of its words
abbrev pub unplaced : Use → Use
unplaced one = record { letter = one.letter; word = 0; argument = argument_only one.argument }

-- the same letters have the same arguments, and the operands are the same
pub record SameUses (a b : CommandLine) : Type 0 where
  pub uses : map unplaced a.uses ≡ map unplaced b.uses
  pub operands : a.operands ≡ b.operands

-- the command, or the kind of the fault
abbrev pub kinds : Result Command Usage → Result Command ℕ
kinds (Ok command) = Ok command
kinds (Err fault) = Err fault.kind
