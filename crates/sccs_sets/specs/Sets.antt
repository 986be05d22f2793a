-- Lists that a call gives, and what may be wrong with them.
use Rattle.std.specs.Prelude.{◌≡◌, ℕ, ◌==◌, List, Option, Some, option_map, option_and_then, find}
use Rattle.sccs_sid.specs.declared.sids.Sid.{Sid}
use Rattle.sccs_history.specs.Numbers.{has}
use Rattle.sccs_history.specs.declared.headers.Record.{Record}
use Rattle.sccs_sets.specs.declared.faults.SetFault.{SetFault}
use Rattle.sccs_sets.specs.declared.faults.SetFault.TheVariants.{BadList, Memory}

-- the first number of one list that is in the other
abbrev pub first_shared : List ℕ → List ℕ → Option ℕ
first_shared include exclude = find (λ n. has exclude n) include

-- the record of a serial
abbrev pub record_at : List Record → ℕ → Option Record
record_at records n = find (λ r. r.serial == n) records

-- the SID of a serial of the table
abbrev pub sid_at : List Record → ℕ → Option Sid
sid_at records n = option_map (λ r. r.sid) (record_at records n)

-- the SID of the first serial that is both taken in and left out
abbrev pub both_listed : List Record → List ℕ → List ℕ → Option Sid
both_listed records include exclude = option_and_then (sid_at records) (first_shared include exclude)

-- A fault has its cause: a bad list is that of this SID, and of want of memory nothing is said.
abbrev pub Explains : Option Sid → SetFault → Type 0
Explains bad (BadList sid) = bad ≡ Some sid
Explains bad Memory = Unit {0}
