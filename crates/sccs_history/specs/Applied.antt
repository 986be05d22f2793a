-- The set of deltas that a version is made of.
use Rattle.std.specs.Prelude.{◌≡◌, ℕ, ◌<◌, ℤ, int_lt, nat_lt, ◌==◌, Bool, true, false, not, ◌&&◌, ◌||◌, List, [], ◌∷◌}
use Rattle.std.specs.Prelude.{◌++◌, Option, None, Some, unwrap_or, filter, Contains, if◌then◌else◌}
use Rattle.std.specs.List.{AllByRecursion}
use Rattle.sccs_history.specs.Numbers.{front_if, has}
use Rattle.sccs_history.specs.Body.{HistoryLine}
use Rattle.sccs_history.specs.Select.{select}
use Rattle.sccs_history.specs.declared.headers.Record.{Record}

-- What a call asks for: a target, serials to take in and to leave out, and the last second that counts.
pub record Asked : Type 0 where
  pub target : ℕ
  pub include : List ℕ
  pub exclude : List ℕ
  pub cutoff : Option ℤ

-- the serials of a table, which is newest first
abbrev pub serials_of : List Record → List ℕ
serials_of [] = []
serials_of (r ∷ rs) = r.serial ∷ serials_of rs

-- each predecessor is a smaller number than its record's serial
abbrev pub GoesBack : List Record → Type 0
GoesBack records = AllByRecursion (λ r. r.predecessor < r.serial) records

-- a delta that is in the table, and its predecessors back to the first
abbrev pub path : ℕ → List Record → List ℕ
path wanted [] = []
path wanted (r ∷ rs) = front_if (r.serial == wanted) r.serial (path (if r.serial == wanted then r.predecessor
    else wanted) rs)

-- The same as a relation: a delta of the table is on its own path, and so is all that is on its predecessor's.
pub data OnPath (records : List Record) : ℕ → ℕ → Type 0 where
  itself : (r : Record) → Contains records r → OnPath records r.serial r.serial
  before : (r : Record) (n : ℕ) → Contains records r → OnPath records r.predecessor n → OnPath records r.serial n

-- the record is removed, or later than the cutoff
abbrev pub is_barred : Option ℤ → Record → Bool
is_barred None r = r.removed
is_barred (Some last) r = r.removed || int_lt last r.moment.seconds

-- what two lists say of a serial, or else
abbrev pub listed : List ℕ → List ℕ → ℕ → Option Bool → Option Bool
listed include exclude n otherwise = if has include n then Some true else (if has exclude n then Some false
    else otherwise)

-- what the first of the records that names a serial says of it
abbrev pub named : List Record → ℕ → Option Bool
named [] n = None
named (r ∷ rs) n = listed r.include r.exclude n (named rs n)

-- What the rules say of one record: a removed one and one later than the cutoff isn't applied; else the call's lists
-- decide, else the greatest applied record above it that names it, else whether it is on the target's path.
abbrev pub says : Asked → List ℕ → List Record → Record → Bool
says asked way above r =
    not (is_barred asked.cutoff r) && unwrap_or (listed asked.include asked.exclude r.serial (named above r.serial))
    (has way r.serial)

-- the applied serials of records, with the applied records above them, greatest first
abbrev pub applied_below : Asked → List ℕ → List Record → List Record → List ℕ
applied_below asked way above [] = []
applied_below asked way above (r ∷ rs) =
    front_if (says asked way above r) r.serial (applied_below asked way (if says asked way above r then above ++ r ∷ []
    else above) rs)

-- the applied serials of a table, greatest first
abbrev pub applied : Asked → List Record → List ℕ
applied asked records = applied_below asked (path asked.target records) [] records

-- the records of a set above a serial, greatest first
abbrev pub above_in : (ℕ → Bool) → ℕ → List Record → List Record
above_in set n records = filter (λ a. set a.serial && nat_lt n a.serial) records

-- the set agrees with the rules at each record of the table
abbrev pub IsApplied : Asked → List Record → (ℕ → Bool) → Type 0
IsApplied asked records set =
    AllByRecursion (λ r. set r.serial ≡ says asked (path asked.target records) (above_in set r.serial records) r)
    records

-- what the version of a delta asks for
abbrev pub version_of : ℕ → Asked
version_of n = record { target = n; include = []; exclude = []; cutoff = None }

-- the text of a delta's version
abbrev pub version : ℕ → List Record → List HistoryLine → List (List ℕ)
version n records lines = select (applied (version_of n) records) lines

-- the serials of the live records
abbrev pub live_serials : List Record → List ℕ
live_serials [] = []
live_serials (r ∷ rs) = front_if (not r.removed) r.serial (live_serials rs)

-- the serial of the newest record, 0 in an empty table
abbrev pub newest : List Record → ℕ
newest [] = 0
newest (r ∷ rs) = r.serial
