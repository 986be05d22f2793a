-- How a script is read, line by line (POSIX ed).
use Rattle.std.specs.Prelude.{◌≡◌, ◌<◌, ◌≤◌, ◌+◌, ℕ, suc, nat_le, nat_lt, ◌==◌, Bool, true, false, not, ◌&&◌, ◌||◌}
use Rattle.std.specs.Prelude.{List, [], ◌∷◌, ◌++◌, drop, length, Option, None, Some, Result, Ok, Err, if◌then◌else◌}
use Rattle.sccs_base.specs.Cut.{text_of}
use Rattle.sccs_sid.specs.Reading.{is_empty, number_at, only}
use Rattle.sccs_sid.specs.SidLists.{begins}
use Rattle.sccs_script_laws.specs.declared.scripts.Order.{Order}
use Rattle.sccs_script_laws.specs.declared.scripts.OrderKind.{OrderKind}
use Rattle.sccs_script_laws.specs.declared.scripts.OrderKind.TheVariants.{Append, Change, Delete}
use Rattle.sccs_script.specs.declared.commands.Command.{Command}
use Rattle.sccs_script.specs.declared.faults.ScriptFault.{ScriptFault}
use Rattle.sccs_script.specs.declared.faults.ScriptFault.TheVariants.{BadScript, Memory}
use Rattle.sccs_script.specs.declared.turns.Turn.{Turn}
use Rattle.sccs_script.specs.declared.turns.Turn.TheVariants.{Bad, Open, Whole}

-- a step of reading that may find nothing
abbrev pub then_read : {A B : Type 0} → Option A → (A → Option B) → Option B
then_read None next = None
then_read (Some x) next = next x

-- a number of a line: one to ten digits, at most 4,294,967,295
abbrev pub small : Result (ℕ × List ℕ) ℕ → Option (ℕ × List ℕ)
small (Ok x) = only (nat_le x.0 4294967295) x
small (Err left) = None

unfoldable pub line_number_at : List ℕ → Option (ℕ × List ℕ)
line_number_at bytes = small (number_at 10 bytes)

-- the letter of a command
abbrev pub order_kind : ℕ → Option OrderKind
order_kind b = if b == 97 then Some Append else if b == 99 then Some Change else if b == 100 then Some Delete else None

-- the letter that all the bytes are
abbrev pub command_letter : List ℕ → Option OrderKind
command_letter [] = None
command_letter (b ∷ bytes) = if is_empty bytes then order_kind b else None

abbrev pub is_append : OrderKind → Bool
is_append Append = true
is_append Change = false
is_append Delete = false

abbrev pub is_deletion : OrderKind → Bool
is_deletion Append = false
is_deletion Change = false
is_deletion Delete = true

-- one line is named: from 1 on, where it is replaced or taken away
abbrev pub at_line : ℕ → OrderKind → Option Command
at_line first kind = only (is_append kind || nat_lt 0 first) (record { kind = kind; first = first; last = first })

-- a first and a last line are named, which are replaced or taken away
abbrev pub at_lines : ℕ → ℕ → OrderKind → Option Command
at_lines first last kind = only (not (is_append kind) && (nat_lt 0 first && nat_le first last))
    (record { kind = kind; first = first; last = last })

unfoldable pub to_last : ℕ → List ℕ → Option Command
to_last first bytes = then_read (line_number_at bytes) (λ last. then_read (command_letter last.1)
    (λ kind. at_lines first last.0 kind))

-- behind the first number: a letter, or a comma, a second number and a letter
unfoldable pub after_first_number : ℕ → List ℕ → Option Command
after_first_number first bytes = if begins 44 bytes then to_last first (drop 1 bytes)
    else then_read (command_letter bytes) (λ kind. at_line first kind)

-- what a command line says
unfoldable pub script_command : List ℕ → Option Command
script_command line = then_read (line_number_at line) (λ first. after_first_number first.0 first.1)

-- the single dot that ends a text
abbrev pub is_end_of_text : List ℕ → Bool
is_end_of_text [] = false
is_end_of_text (b ∷ bytes) = b == 46 && is_empty bytes

-- the order of a command on a line with this number
abbrev pub order_of : ℕ → Command → Order
order_of at c = record { kind = c.kind; line = at; first = c.first; last = c.last; lines = [] }

-- a deletion is whole, and the others have a text
abbrev pub opened_order : Bool → Order → Turn
opened_order true order = Whole order
opened_order false order = Open order

abbrev pub begun_order : ℕ → Option Command → Turn
begun_order at None = Bad at
begun_order at (Some c) = opened_order (is_deletion c.kind) (order_of at c)

-- the order with one more line of text, or whole at the dot
abbrev pub with_line : Bool → Order → List ℕ → Turn
with_line true order line = Whole order
with_line false order line = Open (record order { lines = order.lines ++ line ∷ [] })

-- where reading goes on behind the next line: a text goes on, or a command comes
abbrev pub turn_at : Option Order → ℕ → List ℕ → Turn
turn_at None at line = begun_order at (script_command line)
turn_at (Some order) at line = with_line (is_end_of_text line) order line

-- behind a line: the text that is open, and the orders that are whole
abbrev pub open_in : Turn → Option Order
open_in (Whole order) = None
open_in (Open order) = Some order
open_in (Bad line) = None

abbrev pub whole_in : List Order → Turn → List Order
whole_in orders (Whole order) = orders ++ order ∷ []
whole_in orders (Open order) = orders
whole_in orders (Bad line) = orders

abbrev pub unless_bad : Turn → Result (List Order) ScriptFault → Result (List Order) ScriptFault
unless_bad (Whole order) rest = rest
unless_bad (Open order) rest = rest
unless_bad (Bad line) rest = Err (BadScript line)

-- a text that isn't ended
abbrev pub at_end : List Order → Option Order → Result (List Order) ScriptFault
at_end orders None = Ok orders
at_end orders (Some order) = Err (BadScript order.line)

-- the orders so far and those of the lines behind as many lines as are counted, where a text may be open
unfoldable pub orders_from : List Order → Option Order → ℕ → List (List ℕ) → Result (List Order) ScriptFault
orders_from orders text count [] = at_end orders text
orders_from orders text count (line ∷ lines) =
    unless_bad (turn_at text (suc count) line) (orders_from (whole_in orders (turn_at text (suc count) line))
    (open_in (turn_at text (suc count) line)) (suc count) lines)

-- The orders of a script, or the line of the first command that isn't one or whose text isn't ended.
abbrev pub orders_of : List ℕ → Result (List Order) ScriptFault
orders_of bytes = orders_from [] None 0 (text_of bytes)

-- what was read, or want of memory
abbrev pub ReadsScript : Result (List Order) ScriptFault → Result (List Order) ScriptFault → Type 0
ReadsScript (Ok orders) read = read ≡ Ok orders
ReadsScript (Err Memory) read = Unit {0}
ReadsScript (Err fault) read = read ≡ Err fault

-- A command whose lines are named in order, from 1 on where they are to be there.
pub record HasNumbers (kind : OrderKind) (first last : ℕ) : Type 0 where
  pub low : (is_append kind || nat_lt 0 first) ≡ true
  pub rising : first ≤ last

-- An order with such numbers whose text ends before the script's line with this number.
pub record FitsIn (next : ℕ) (order : Order) : Type 0 where
  pub numbers : HasNumbers order.kind order.first order.last
  pub within : order.line + length order.lines < next

-- so it is with what was read of a line, before the line with this number
abbrev pub TurnFits : ℕ → Turn → Type 0
TurnFits next (Whole order) = FitsIn next order
TurnFits next (Open order) = FitsIn next order
TurnFits next (Bad line) = Unit {0}
