-- What is said of words: the kind of their fault and the number of its word, or the bits of val's command.
use Rattle.std.proofs.Common.{◌≡◌, ℕ, List, Result, Ok, Err}
use Rattle.sccs_words.specs.Meaning.{meaning}
use Rattle.sccs_words.specs.declared.commands.Usage.{Usage}
use Rattle.sccs_words.specs.declared.commands.Command.{Command}
use Rattle.sccs_words.specs.declared.commands.Command.TheVariants.{Val}

-- 0 where it is no command of val
abbrev pub bits_of : Command → ℕ
bits_of (Val words) = words.fault
bits_of _ = 0

-- kind 0 where there is no fault
abbrev pub outcome : Result Command Usage → ℕ × ℕ
outcome (Err usage) = (usage.kind, usage.word)
outcome (Ok command) = (0, bits_of command)

abbrev pub Says : List (List ℕ) → ℕ → ℕ → Type 0
Says words kind number = outcome (meaning words) ≡ (kind, number)
