-- Which scripts fit a text of so many lines.
use Rattle.std.specs.Prelude.{◌≡◌, ℕ, suc, ◌+◌, ◌-◌, nat_lt, false, List, [], ◌∷◌, length, Option, None, Some, Result}
use Rattle.std.specs.Prelude.{Ok, Err, if◌then◌else◌}
use Rattle.std.specs.List.{AllByRecursion}
use Rattle.sccs_base.specs.Cut.{HasNoLf}
use Rattle.sccs_sid.specs.SidLists.{begins}
use Rattle.sccs_script_laws.specs.declared.scripts.Order.{Order}
use Rattle.sccs_script_laws.specs.declared.scripts.OrderKind.{OrderKind}
use Rattle.sccs_script_laws.specs.declared.scripts.OrderKind.TheVariants.{Append, Change, Delete}
use Rattle.sccs_script.specs.declared.faults.ScriptFault.{ScriptFault}
use Rattle.sccs_script.specs.declared.faults.ScriptFault.TheVariants.{BadText, ScriptRange}

-- how many lines a text of so many has after an order
abbrev pub length_by : OrderKind → ℕ → ℕ → ℕ → ℕ → ℕ
length_by Append first last new lines = lines + new
length_by Delete first last new lines = lines - (suc last - first)
length_by Change first last new lines = (lines - (suc last - first)) + new

abbrev pub length_after : Order → ℕ → ℕ
length_after order lines = length_by order.kind order.first order.last (length order.lines) lines

-- the first order that names a line past the text that it begins with, and how long that is
abbrev pub ranged : List Order → ℕ → Result (Unit {0}) ScriptFault
ranged [] lines = Ok tt
ranged (order ∷ orders) lines = if nat_lt lines order.last then Err (ScriptRange order.line lines)
    else ranged orders (length_after order lines)

-- the first line that begins with SOH, where the line before has this number
abbrev pub bad_line : ℕ → List (List ℕ) → Option ℕ
bad_line before [] = None
bad_line before (line ∷ lines) = if begins 1 line then Some (suc before) else bad_line (suc before) lines

abbrev pub or_bad : Option ℕ → Result (Unit {0}) ScriptFault → Result (Unit {0}) ScriptFault
or_bad (Some line) rest = Err (BadText line)
or_bad None rest = rest

-- the first line of a text that begins with SOH
abbrev pub bare_soh : List Order → Result (Unit {0}) ScriptFault
bare_soh [] = Ok tt
bare_soh (order ∷ orders) = or_bad (bad_line order.line order.lines) (bare_soh orders)

abbrev pub both_ok : Result (Unit {0}) ScriptFault → Result (Unit {0}) ScriptFault → Result (Unit {0}) ScriptFault
both_ok (Ok x) rest = rest
both_ok (Err fault) rest = Err fault

-- a script for a text of so many lines: first its numbers are judged, then its texts
abbrev pub checked_script : List Order → ℕ → Result (Unit {0}) ScriptFault
checked_script orders lines = both_ok (ranged orders lines) (bare_soh orders)

-- the lines of a script's texts have no LF, and none begins with SOH
abbrev pub HaveLines : List Order → Type 0
HaveLines orders =
    AllByRecursion (λ (o : Order). AllByRecursion (λ text. (begins 1 text ≡ false) × HasNoLf text) o.lines) orders
