-- The scripts of RCS revisions (rcsfile(5), "deltatext"): the changes that the lines of a script say, and the text that
-- they make. The lines of a text count from 1.
use Rattle.std.specs.Prelude.{ℕ, zero, suc, ◌+◌, ◌-◌, ◌^◌, ◌<◌, ◌==◌, nat_le, nat_lt, Bool, false, not, ◌&&◌, ◌||◌}
use Rattle.std.specs.Prelude.{List, [], ◌∷◌, ◌++◌, length, Option, None, Some, Result, Ok, Err, if◌then◌else◌}
use Rattle.sccs_base.specs.Constants.{blank}
use Rattle.sccs_sid.specs.Reading.{byte_at, number_at, only, whole}
use Rattle.sccs_sid.specs.SidLists.{begins}
use Rattle.sccs_sid.specs.Words.{◌>>=◌, found}
use Rattle.sccs_history.specs.Numbers.{front_if}
use Rattle.sccs_trunks.specs.declared.revisions.ScriptCommand.{ScriptCommand}
use Rattle.sccs_trunks.specs.declared.revisions.ScriptCommand.TheVariants.{Delete, Add}

-- One change: so many lines go, from line `first` on; or one line comes after line `after`, before all where that is 0.
pub data Change : Type 0 where
  Strike : (first : ℕ) → (count : ℕ) → Change
  Put : (after : ℕ) → (line : List ℕ) → Change

-- whether line k goes
abbrev pub strikes : List Change → ℕ → Bool
strikes [] k = false
strikes (Strike first count ∷ changes) k = (nat_le first k && nat_lt k (first + count)) || strikes changes k
strikes (Put after line ∷ changes) k = strikes changes k

-- the lines that come after line k, in the order of the changes
abbrev pub added : List Change → ℕ → List (List ℕ)
added [] k = []
added (Strike first count ∷ changes) k = added changes k
added (Put after line ∷ changes) k = front_if (after == k) line (added changes k)

-- what the changes make of the lines behind line k
abbrev pub revised_from : List Change → ℕ → List (List ℕ) → List (List ℕ)
revised_from changes k [] = []
revised_from changes k (line ∷ lines) =
    front_if (not (strikes changes (suc k))) line (added changes (suc k) ++ revised_from changes (suc k) lines)

-- what the changes make of a text
abbrev pub revised : List Change → List (List ℕ) → List (List ℕ)
revised changes text = added changes 0 ++ revised_from changes 0 text

-- ---- the lines of a script

-- behind the verb a number of one to ten digits, a blank and another one
unfoldable pub numbers_of : List ℕ → Option (ℕ × ℕ)
numbers_of bytes = do
  line ← found (number_at 10 bytes)
  second ← found (byte_at blank line.1)
  count ← whole (number_at 10 second)
  Some (line.0, count)

-- the numbers of a command have at most ten digits
abbrev pub IsShort : ScriptCommand → Type 0
IsShort (Delete line count) = (line < 10 ^ 10) × (count < 10 ^ 10)
IsShort (Add line count) = (line < 10 ^ 10) × (count < 10 ^ 10)

-- the command of a letter, `d` or `a`
abbrev pub command_by : ℕ → ℕ × ℕ → Option ScriptCommand
command_by b (line, count) = if b == 100 then Some (Delete line count) else if b == 97 then Some (Add line count)
    else None

-- the command that a line is
unfoldable pub command_of : List ℕ → Option ScriptCommand
command_of [] = None
command_of (b ∷ bytes) = numbers_of bytes >>= command_by b

-- Whether a command fits a text of so many lines, where those up to `last` are behind it and `left` lines of the script
-- follow: lines are deleted and passed in the text's order.
abbrev pub fits : ℕ → ℕ → ℕ → ScriptCommand → Bool
fits lines last left (Delete line count) = nat_lt 0 count && (nat_lt last line && nat_le (line + count) (suc lines))
fits lines last left (Add line count) = nat_lt 0 count && (nat_le last line && (nat_le line lines && nat_le count left))

-- the fit command that a line is, which doesn't begin with SOH
abbrev pub fit_command : ℕ → ℕ → ℕ → List ℕ → Option ScriptCommand
fit_command lines last left line = do
  command ← command_of line
  only (fits lines last left command) command

-- the last line of the text that is behind, after a command
abbrev pub last_of : ScriptCommand → ℕ
last_of (Delete line count) = line + count - 1
last_of (Add line count) = line

-- how many lines of the script are a command's text
abbrev pub taken_by : ScriptCommand → ℕ
taken_by (Delete line count) = 0
taken_by (Add line count) = count

-- the change that a command is by itself, in front of others
abbrev pub with_command : ScriptCommand → List Change → List Change
with_command (Delete line count) changes = Strike line count ∷ changes
with_command (Add line count) changes = changes

-- What is said of the changes that lines of a script make: a fault is the number of lines that are left where it
-- stands, with the line itself.
abbrev pub then_changes : (List Change → List Change) → Result (List Change) ℕ → Result (List Change) ℕ
then_changes more (Ok changes) = Ok (more changes)
then_changes more (Err left) = Err left

-- the value, or a fault at the line before `rest`
abbrev pub or_at : {A : Type 0} → List (List ℕ) → Option A → (A → Result (List Change) ℕ) → Result (List Change) ℕ
or_at rest None next = Err (suc (length rest))
or_at rest (Some x) next = next x

-- The changes of a script for a text of so many lines, where those up to `last` are behind it and `taken` more lines of
-- the
-- script come after line `last`. Each line must be bare, and where a command must stand a fit command.
abbrev pub changes_from : ℕ → ℕ → ℕ → List (List ℕ) → Result (List Change) ℕ
changes_from lines last taken [] = Ok []
changes_from lines last zero (line ∷ rest) =
    if begins 1 line then Err (suc (length rest)) else
    or_at rest (fit_command lines last (length rest) line) (λ command.
    then_changes (with_command command) (changes_from lines (last_of command) (taken_by command) rest))
changes_from lines last (suc taken) (line ∷ rest) =
    if begins 1 line then Err (suc (length rest)) else
    then_changes (λ changes. Put last line ∷ changes) (changes_from lines last taken rest)

-- a fault by the number of its line, from 1
abbrev pub at_line : List (List ℕ) → Result (List Change) ℕ → Result (List Change) ℕ
at_line script (Ok changes) = Ok changes
at_line script (Err left) = Err (suc (length script) - left)

-- the changes of a script for a text of so many lines, or its first line at fault
abbrev pub changes_of : ℕ → List (List ℕ) → Result (List Change) ℕ
changes_of lines script = at_line script (changes_from lines 0 0 script)
