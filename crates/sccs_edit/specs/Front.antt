-- The lists of commands that words of the front end stand for.
use Rattle.std.specs.Prelude.{ℕ, Bool, false, true, List, [], ◌∷◌, Option, None, Some, Result, Ok, Err, codes}
use Rattle.std.specs.Prelude.{if◌then◌else◌}
use Rattle.std.specs.Str.{bytes_eq}
use Rattle.sccs_words.specs.Meaning.{meaning}
use Rattle.sccs_words.specs.declared.commands.Command.{Command}
use Rattle.sccs_words.specs.declared.commands.Command.TheVariants as c
use Rattle.sccs_words.specs.declared.commands.Usage.{Usage}

-- the get that follows a delta: of its s-file, for an edit or not
abbrev pub next_get : Bool → List ℕ → List (List ℕ)
next_get edit name = if edit then codes "get" ∷ codes "-e" ∷ name ∷ [] else codes "get" ∷ name ∷ []

-- the s-file of a delta
abbrev pub delta_name : Command → Option (List ℕ)
delta_name (c.Delta given name) = Some name
delta_name command = None

abbrev pub meant_name : Result Command Usage → Option (List ℕ)
meant_name (Ok command) = delta_name command
meant_name (Err usage) = None

-- words that are a delta have a get behind them; others stand alone
abbrev pub with_get : Bool → List (List ℕ) → Option (List ℕ) → List (List (List ℕ))
with_get edit words None = words ∷ []
with_get edit words (Some name) = words ∷ next_get edit name ∷ []

abbrev pub delta_and_get : Bool → List (List ℕ) → List (List (List ℕ))
delta_and_get edit words = with_get edit words (meant_name (meaning words))

-- the commands of a word of the front end and the words behind it; none for any other word
abbrev pub front_by : List ℕ → List (List ℕ) → List (List (List ℕ))
front_by word args =
    if bytes_eq word (codes "edit") then (codes "get" ∷ codes "-e" ∷ args) ∷ []
    else if bytes_eq word (codes "unedit") then (codes "unget" ∷ args) ∷ []
    else if bytes_eq word (codes "delget") then delta_and_get false (codes "delta" ∷ args)
    else if bytes_eq word (codes "deledit") then delta_and_get true (codes "delta" ∷ args)
    else []

-- the commands of a command line
unfoldable pub front_of : List (List ℕ) → List (List (List ℕ))
front_of [] = []
front_of (word ∷ args) = front_by word args
