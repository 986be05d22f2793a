-- How many lines a script makes of a text.
use Rattle.std.specs.Prelude.{◌≡◌, ℕ, suc, ◌+◌, ◌-◌, ◌<◌, ◌≤◌, List, [], ◌∷◌, length, Option, None, Some, Result, Ok}
use Rattle.std.specs.Prelude.{Err}
use Rattle.sccs_trunks.specs.Changes.{Change, Strike, Put, changes_from, changes_of}
use Rattle.sccs_trunks.specs.declared.revisions.ScriptCommand.{ScriptCommand}
use Rattle.sccs_trunks.specs.declared.revisions.ScriptCommand.TheVariants.{Delete, Add}
use Rattle.sccs_trunks.specs.declared.checking.ScriptPlace.{ScriptPlace}

-- how many lines changes add, and take away
abbrev pub put_count : List Change → ℕ
put_count [] = 0
put_count (Strike first count ∷ changes) = put_count changes
put_count (Put after line ∷ changes) = suc (put_count changes)

abbrev pub struck_count : List Change → ℕ
struck_count [] = 0
struck_count (Strike first count ∷ changes) = count + struck_count changes
struck_count (Put after line ∷ changes) = struck_count changes

-- the number of lines behind changes, where some were added and some struck before, or the fault
abbrev pub counted : ℕ → ℕ → Result (List Change) ℕ → Result ℕ ℕ
counted lines struck (Ok changes) = Ok (lines + put_count changes - (struck + struck_count changes))
counted lines struck (Err left) = Err left

-- how many lines a script makes of so many, or its first line at fault
abbrev pub checked : ℕ → List (List ℕ) → Result ℕ ℕ
checked lines script = counted lines 0 (changes_of lines script)

abbrev pub struck_by : ScriptCommand → ℕ
struck_by (Delete line count) = count
struck_by (Add line count) = 0

-- what reading on from a place gives, the rest of the script being these lines
abbrev pub read_on : ℕ → ScriptPlace → List (List ℕ) → Result ℕ ℕ
read_on lines place rest = counted (lines + place.added) place.struck (changes_from lines place.last place.taken rest)

-- A place that a text of so many lines has, where so many lines of the script are left.
pub record IsPlace (lines left : ℕ) (place : ScriptPlace) : Type 0 where
  pub within : place.last ≤ lines
  pub fewer : place.struck ≤ place.last
  pub added_few : place.added + left < 4611686018427387904

-- what a line says at a place: with it reading goes on from another place, or it is at fault
abbrev pub ReadsLine : ℕ → ℕ → ScriptPlace → List ℕ → Option ScriptPlace → Type 0
ReadsLine lines left place line (Some next) =
    IsPlace lines left next × (next.added + left ≤ place.added + suc left) × ((rest : List (List ℕ))
    → length rest ≡ left → read_on lines next rest ≡ read_on lines place (line ∷ rest))
ReadsLine lines left place line None = (rest : List (List ℕ)) → length rest ≡ left
    → changes_from lines place.last place.taken (line ∷ rest) ≡ Err (suc left)
