-- The delta that a get gets, by the SID or the front of one that is given.
use Rattle.std.specs.Prelude.{ℕ, ◌==◌, nat_le, max, Bool, true, false, not, ◌&&◌, List, Option, None, Some, option_map}
use Rattle.std.specs.Prelude.{option_and_then, map, filter, find, if◌then◌else◌}
use Rattle.std.specs.List.{reduce}
use Rattle.sccs_sid.specs.declared.sids.Sid.{Sid}
use Rattle.sccs_sid.specs.declared.sids.Spec.{Spec}
use Rattle.sccs_sid.specs.declared.sids.Spec.TheVariants.{Release, Branch, Full}
use Rattle.sccs_history.specs.History.{same_sid}
use Rattle.sccs_history.specs.declared.headers.Record.{Record}

-- the live records whose SID passes a test
abbrev pub live_where : (Sid → Bool) → List Record → List Record
live_where test records = filter (λ r. not r.removed && test r.sid) records

-- the greatest live serial whose SID passes a test; the table is newest first
abbrev pub newest_where : (Sid → Bool) → List Record → Option ℕ
newest_where test records = option_map (λ r. r.serial) (find (λ r. not r.removed && test r.sid) records)

-- the serial of a live SID
abbrev pub serial_of : List Record → Sid → Option ℕ
serial_of records sid = newest_where (λ s. same_sid s sid) records

-- not past a limit, where there is one
abbrev pub is_within : Option ℕ → ℕ → Bool
is_within None release = true
is_within (Some limit) release = nat_le release limit

-- the greatest live release of the trunk that isn't past a limit
abbrev pub trunk_release : List Record → Option ℕ → Option ℕ
trunk_release records limit =
    reduce max (map (λ r. r.sid.release) (live_where (λ s. s.branch == 0 && is_within limit s.release) records))

-- the greatest live level of the trunk in a release
abbrev pub trunk_level : List Record → ℕ → Option ℕ
trunk_level records release =
    reduce max (map (λ r. r.sid.level) (live_where (λ s. s.branch == 0 && s.release == release) records))

-- the greatest live sequence of a branch
abbrev pub branch_sequence : List Record → ℕ → ℕ → ℕ → Option ℕ
branch_sequence records release level branch =
    reduce max (map (λ r. r.sid.sequence)
    (live_where (λ s. s.release == release && (s.level == level && s.branch == branch)) records))

abbrev pub trunk_sid : ℕ → ℕ → Sid
trunk_sid release level = record { release = release; level = level; branch = 0; sequence = 0 }

abbrev pub branch_sid : ℕ → ℕ → ℕ → ℕ → Sid
branch_sid release level number sequence =
    record { release = release; level = level; branch = number; sequence = sequence }

-- the newest delta of the trunk, in the greatest release that isn't past a limit
abbrev pub trunk_tip : List Record → Option ℕ → Option ℕ
trunk_tip records limit =
    option_and_then (λ release. option_and_then (λ level. serial_of records (trunk_sid release level))
    (trunk_level records release)) (trunk_release records limit)

-- the newest delta of a branch
abbrev pub branch_tip : List Record → ℕ → ℕ → ℕ → Option ℕ
branch_tip records release level number =
    option_and_then (λ sequence. serial_of records (branch_sid release level number sequence))
    (branch_sequence records release level number)

-- the greatest serial of a release, branches included; without one, of the newest release of the trunk
abbrev pub top_of : List Record → Option ℕ → Option ℕ
top_of records None = option_and_then (λ release. newest_where (λ s. s.release == release) records)
    (trunk_release records None)
top_of records (Some release) = newest_where (λ s. s.release == release) records

-- the greatest serial of a release and level, branches included; a branch SID is itself
abbrev pub top_at : List Record → Sid → Option ℕ
top_at records sid =
    if sid.branch == 0 then newest_where (λ s. s.release == sid.release && s.level == sid.level) records
    else serial_of records sid

-- the serial that is got where a SID or a front of one, or none, is given, and whether the top is asked for
abbrev pub retrieved : List Record → Option Spec → Bool → Option ℕ
retrieved records None false = trunk_tip records None
retrieved records None true = top_of records None
retrieved records (Some (Release release)) false = trunk_tip records (Some release)
retrieved records (Some (Release release)) true = top_of records (Some release)
retrieved records (Some (Branch release level number)) top = branch_tip records release level number
retrieved records (Some (Full sid)) false = serial_of records sid
retrieved records (Some (Full sid)) true = top_at records sid
