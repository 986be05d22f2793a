-- What the words of a run ask for: a command, or two where a word of the front end stands for two.
use Rattle.std.specs.Prelude.{◌≡◌, ℕ, ◌-◌, List, [], ◌∷◌, length, IfOk, Result, Ok, Err}
use Rattle.sccs_words.specs.Meaning.{meaning}
use Rattle.sccs_words.specs.ValidValues.{HasValidValues}
use Rattle.sccs_words.specs.declared.commands.Command.{Command}
use Rattle.sccs_words.specs.declared.commands.Usage.{Usage}
use Rattle.sccs_words.specs.declared.commands.WordsFault.{WordsFault}
use Rattle.sccs_words.specs.declared.commands.WordsFault.TheVariants as faults
use Rattle.sccs_edit.specs.Front.{front_of}
use Rattle.sccs_top.specs.declared.asking.Asked.{Asked}
use Rattle.sccs_top.specs.declared.asking.Asked.TheVariants as ask

-- the place of a fault in the words as they were typed: those that the front end adds stand before their arguments
abbrev pub typed_place : List (List ℕ) → List (List ℕ) → Usage → Usage
typed_place words first usage = record { kind = usage.kind; word = usage.word - (length first - length words) }

abbrev pub as_typed : List (List ℕ) → List (List ℕ) → Result Command Usage → Result Command Usage
as_typed words first (Ok command) = Ok command
as_typed words first (Err usage) = Err (typed_place words first usage)

-- one command
abbrev pub one_asked : Result Command Usage → Result Asked Usage
one_asked (Ok command) = Ok (ask.One command)
one_asked (Err usage) = Err usage

-- a command and what follows it; a usage fault of the first one stands alone
abbrev pub two_asked : Result Command Usage → Result Command Usage → Result Asked Usage
two_asked (Ok command) next = Ok (ask.Two command next)
two_asked (Err usage) next = Err usage

-- by the commands that the front end makes of the words; other words are a command themselves
abbrev pub asked_by : List (List ℕ) → List (List (List ℕ)) → Result Asked Usage
asked_by words [] = one_asked (meaning words)
asked_by words (first ∷ []) = one_asked (as_typed words first (meaning first))
asked_by words (first ∷ next ∷ rest) = two_asked (as_typed words first (meaning first)) (meaning next)

abbrev pub asked_of : List (List ℕ) → Result Asked Usage
asked_of words = asked_by words (front_of words)

-- what a call that may run out of memory returned, against that
abbrev pub GivesAsked : Result Asked WordsFault → Result Asked Usage → Type 0
GivesAsked (Ok asked) meant = meant ≡ Ok asked
GivesAsked (Err (faults.Usage usage)) meant = meant ≡ Err usage
GivesAsked (Err faults.Memory) meant = Unit {0}

-- each command has valid values
abbrev pub HasValidCommands : Asked → Type 0
HasValidCommands (ask.One command) = HasValidValues command
HasValidCommands (ask.Two first next) = HasValidValues first × IfOk next HasValidValues
