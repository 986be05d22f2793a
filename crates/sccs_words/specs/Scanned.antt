-- What the code's types of scanning stand for.
use Rattle.std.specs.Prelude.{ℕ, ◌+◌, List, drop}
use Rattle.sccs_words.specs.Scan.{Kind, Letters, Ends, Operand, CommandLine, scanned_line}
use Rattle.sccs_words.specs.declared.scanning.WordKind.{WordKind}
use Rattle.sccs_words.specs.declared.scanning.WordKind.TheVariants as kinds
use Rattle.sccs_words.specs.declared.scanning.Scanned.{Scanned}
use Rattle.sccs_words.specs.declared.command_lines.CommandLine as held

abbrev pub kind_view : WordKind → Kind
kind_view (kinds.Letters bytes) = Letters bytes.now
kind_view kinds.Ends = Ends
kind_view kinds.Operand = Operand

-- the command line, the first of these words having that number
abbrev pub line_view : ℕ → List (List ℕ) → Scanned → CommandLine
line_view number words s = scanned_line s.uses.items (number + s.before) (drop s.before words)

-- a command line, without where it lies
abbrev pub command_line : held.CommandLine → CommandLine
command_line l = scanned_line l.uses.now l.first l.operands.now
