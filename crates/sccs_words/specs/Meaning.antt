-- The command or the usage fault that words are.
use Rattle.std.specs.Prelude.{◌≡◌, ℕ, ◌+◌, List, [], ◌∷◌, length, Option, None, Some, option_and_then, Result, Ok, Err}
use Rattle.std.specs.Prelude.{codes, if◌then◌else◌}
use Rattle.std.specs.Str.{bytes_eq}
use Rattle.sccs_sid.specs.declared.sids.Sid.{Sid}
use Rattle.sccs_words.specs.Letters as opt
use Rattle.sccs_words.specs.Synopsis.{options_of}
use Rattle.sccs_words.specs.UsageKinds as kinds
use Rattle.sccs_words.specs.Values.{sid_value, name_value, soak_number}
use Rattle.sccs_words.specs.Scan.{CommandLine, scanned}
use Rattle.sccs_words.specs.Judge.{has_use, usage_fault}
use Rattle.sccs_words.specs.Records.{value_of, admin_words, get_words, delta_line_words, unget_words, cdc_words}
use Rattle.sccs_words.specs.Records.{prs_words, val_words, operand_words}
use Rattle.sccs_words.specs.declared.scanning.Use.{Use}
use Rattle.sccs_words.specs.declared.tables.Utility.{Utility}
use Rattle.sccs_words.specs.declared.tables.Utility.TheVariants as u
use Rattle.sccs_words.specs.declared.commands.Usage.{Usage}
use Rattle.sccs_words.specs.declared.commands.Command.{Command}
use Rattle.sccs_words.specs.declared.commands.Command.TheVariants as c
use Rattle.sccs_words.specs.declared.commands.WordsFault.{WordsFault}
use Rattle.sccs_words.specs.declared.commands.WordsFault.TheVariants as faults

-- what a call that may run out of memory returned, against the meaning
abbrev pub GivesCommand : Result Command WordsFault → Result Command Usage → Type 0
GivesCommand (Ok command) meant = meant ≡ Ok command
GivesCommand (Err (faults.Usage usage)) meant = meant ≡ Err usage
GivesCommand (Err faults.Memory) meant = Unit {0}

abbrev pub bad : ℕ → ℕ → Result Command Usage
bad kind word = Err (record { kind = kind; word = word })

-- the utilities that POSIX lacks: our own, and cdc
abbrev pub own_utility : List ℕ → Option Utility
own_utility word =
    if bytes_eq word (codes "recover") then Some u.Recover
    else if bytes_eq word (codes "tell") then Some u.Tell
    else if bytes_eq word (codes "check") then Some u.Check
    else if bytes_eq word (codes "import") then Some u.Import
    else if bytes_eq word (codes "batch") then Some u.Batch
    else if bytes_eq word (codes "group") then Some u.Group
    else if bytes_eq word (codes "soak") then Some u.Soak
    else if bytes_eq word (codes "cdc") then Some u.Cdc
    else None

unfoldable pub utility_of : List ℕ → Option Utility
utility_of word =
    if bytes_eq word (codes "admin") then Some u.Admin
    else if bytes_eq word (codes "get") then Some u.Get
    else if bytes_eq word (codes "delta") then Some u.Delta
    else if bytes_eq word (codes "unget") then Some u.Unget
    else if bytes_eq word (codes "sact") then Some u.Sact
    else if bytes_eq word (codes "rmdel") then Some u.Rmdel
    else if bytes_eq word (codes "prs") then Some u.Prs
    else if bytes_eq word (codes "val") then Some u.Val
    else if bytes_eq word (codes "what") then Some u.What
    else own_utility word

abbrev pub first_text : List (List ℕ) → Option (List ℕ)
first_text [] = None
first_text (word ∷ words) = Some word

abbrev pub with_name : List Use → ℕ → Option (List ℕ) → Result Command Usage
with_name uses n None = bad kinds.no_operand n
with_name uses n (Some name) = Ok (c.Delta (delta_line_words uses) name)

abbrev pub with_sid : List (List ℕ) → ℕ → Option Sid → Result Command Usage
with_sid operands n None = bad kinds.option_needed n
with_sid operands n (Some sid) = Ok (c.Rmdel sid (operand_words operands))

abbrev pub with_changes : List Use → List (List ℕ) → ℕ → Option Sid → Result Command Usage
with_changes uses operands n None = bad kinds.option_needed n
with_changes uses operands n (Some sid) = Ok (c.Cdc (cdc_words sid uses) (operand_words operands))

abbrev pub with_number : ℕ → Option ℕ → Result Command Usage
with_number n None = bad kinds.no_operand n
with_number n (Some number) = Ok (c.Soak number)

-- the command of a line without a fault; n is the number of words plus one
abbrev pub line_command : Utility → CommandLine → ℕ → Result Command Usage
line_command u.Admin l n = Ok (c.Admin (admin_words l.uses) (operand_words l.operands))
line_command u.Get l n = Ok (c.Get (get_words l.uses) (operand_words l.operands))
line_command u.Delta l n = with_name l.uses n (option_and_then name_value (first_text l.operands))
line_command u.Unget l n = Ok (c.Unget (unget_words l.uses) (operand_words l.operands))
line_command u.Sact l n = Ok (c.Sact (operand_words l.operands))
line_command u.Tell l n = Ok (c.Tell (operand_words l.operands))
line_command u.Check l n = Ok (c.Check (operand_words l.operands))
line_command u.Rmdel l n = with_sid l.operands n (option_and_then sid_value (value_of opt.r l.uses))
line_command u.Cdc l n = with_changes l.uses l.operands n (option_and_then sid_value (value_of opt.r l.uses))
line_command u.Prs l n = Ok (c.Prs (prs_words l.uses) (operand_words l.operands))
line_command u.Val l n = Ok (c.Val (val_words l))
line_command u.What l n = Ok (c.What (has_use opt.s l.uses) (operand_words l.operands))
line_command u.Recover l n = Ok (c.Recover (operand_words l.operands))
line_command u.Import l n = Ok (c.Import (operand_words l.operands))
line_command u.Batch l n = Ok c.Batch
line_command u.Group l n = Ok c.Group
line_command u.Soak l n = with_number n (option_and_then soak_number (first_text l.operands))

-- val's faults are bits of its command
abbrev pub words_fault : Utility → CommandLine → ℕ → Option Usage
words_fault u.Val l n = None
words_fault utility l n = usage_fault utility l n

abbrev pub unless_fault : Option Usage → Result Command Usage → Result Command Usage
unless_fault (Some usage) meant = Err usage
unless_fault None meant = meant

unfoldable pub line_meaning : Utility → CommandLine → ℕ → Result Command Usage
line_meaning utility l n = unless_fault (words_fault utility l n) (line_command utility l n)

abbrev pub meaning_by : Option Utility → List (List ℕ) → Result Command Usage
meaning_by None words = bad kinds.unknown_utility 1
meaning_by (Some utility) words = line_meaning utility (scanned (options_of utility) 2 [] None words) (length words + 2)

-- the command or the usage fault of these words, the utility's word among them
unfoldable pub meaning : List (List ℕ) → Result Command Usage
meaning [] = bad kinds.unknown_utility 1
meaning (word ∷ words) = meaning_by (utility_of word) words
