-- The table of the SIDs that are got and made where nothing is reserved, row by row: POSIX get, "Determination of SCCS
-- Identification String".
use Rattle.std.specs.Prelude.{ℕ, ◌==◌, nat_lt, max, Bool, true, false, not, ◌&&◌, List, [], ◌∷◌, Option, None, Some}
use Rattle.std.specs.Prelude.{option_map, option_and_then, unwrap_or, map, filter, if◌then◌else◌}
use Rattle.std.specs.List.{list_any, reduce}
use Rattle.sccs_sid.specs.declared.sids.Sid.{Sid}
use Rattle.sccs_sid.specs.declared.sids.Spec.{Spec}
use Rattle.sccs_sid.specs.declared.sids.Spec.TheVariants.{Release, Branch, Full}
use Rattle.sccs_history.specs.declared.headers.Record.{Record}
use Rattle.sccs_sets.specs.Made.{comes_after, live_branch, next}
use Rattle.sccs_sets.specs.Retrieved.{branch_sequence, branch_sid, live_where, trunk_level, trunk_release, trunk_sid}

-- A row: its number, whether a branch is asked for (None: either way), a condition, the SID got and the SID to be made.
pub record Row : Type 0 where
  pub number : ℕ
  pub branch : Option Bool
  pub condition : Bool
  pub got : Option Sid
  pub made : Option Sid

-- the SID to be made is a function of the SID got
abbrev pub row : ℕ → Option Bool → Bool → Option Sid → (Sid → Option Sid) → Row
row number branch condition got made =
    record { number = number; branch = branch; condition = condition; got = got; made = option_and_then made got }

-- ---- what the columns say

-- a test of the greatest live release of the trunk, where there is one
abbrev pub passes : Option ℕ → (ℕ → Bool) → Bool
passes None test = false
passes (Some newest) test = test newest

-- a live delta of the trunk has the release
abbrev pub is_trunk_release : List Record → ℕ → Bool
is_trunk_release records release = list_any (λ r. not r.removed && (r.sid.branch == 0 && r.sid.release == release))
    records

-- the greatest live release of the trunk below another
abbrev pub release_below : List Record → ℕ → Option ℕ
release_below records release =
    reduce max (map (λ r. r.sid.release) (live_where (λ s. s.branch == 0 && nat_lt s.release release) records))

-- the greatest live SID of the trunk in a release
abbrev pub last_level : List Record → ℕ → Option Sid
last_level records release = option_map (λ level. trunk_sid release level) (trunk_level records release)

-- the greatest live SID of the trunk
abbrev pub newest_sid : List Record → Option Sid
newest_sid records = option_and_then (last_level records) (trunk_release records None)

-- the greatest live SID of a branch
abbrev pub last_sequence : List Record → ℕ → ℕ → ℕ → Option Sid
last_sequence records release level number =
    option_map (λ sequence. branch_sid release level number sequence) (branch_sequence records release level number)

-- a live SID comes after it on its line, the trunk or a branch
abbrev pub has_successor : List Record → Sid → Bool
has_successor records sid = list_any (λ r. not r.removed && comes_after sid r.sid) records

-- R.(L+1) of R.L
abbrev pub level_up : Sid → Option Sid
level_up got = option_map (λ level. trunk_sid got.release level) (next got.level)

-- R.L.B.(S+1) of R.L.B.S
abbrev pub sequence_up : Sid → Option Sid
sequence_up got = option_map (λ sequence. branch_sid got.release got.level got.branch sequence) (next got.sequence)

-- R.L.(mB+1).1 of a SID of release R and level L, mB being the greatest live branch there, 0 where none is
abbrev pub branch_up : List Record → Sid → Option Sid
branch_up records got =
    option_map (λ number. branch_sid got.release got.level number 1) (next (unwrap_or (live_branch records got) 0))

-- ---- the rows

-- nothing is given
abbrev pub rows_alone : List Record → List Row
rows_alone records =
    row 1 (Some false) true (newest_sid records) level_up
    ∷ row 2 (Some true) true (newest_sid records) (branch_up records)
    ∷ []

-- R is given: above the newest release, the newest one, or below it and there or not
abbrev pub rows_of_release : List Record → ℕ → Bool → Bool → Bool → Bool → List Row
rows_of_release records release above newest below there =
    row 3 (Some false) above (newest_sid records) (λ got. Some (trunk_sid release 1))
    ∷ row 4 (Some false) newest (newest_sid records) level_up
    ∷ row 5 (Some true) above (newest_sid records) (branch_up records)
    ∷ row 6 (Some true) newest (newest_sid records) (branch_up records)
    ∷ row 7 None (below && not there) (option_and_then (last_level records) (release_below records release))
    (branch_up records)
    ∷ row 8 None (below && there) (last_level records release) (branch_up records)
    ∷ []

-- R.L is given, which has a successor or not
abbrev pub rows_of_level : List Record → Sid → Bool → List Row
rows_of_level records sid followed =
    row 9 (Some false) (not followed) (Some sid) level_up
    ∷ row 10 (Some true) (not followed) (Some sid) (branch_up records)
    ∷ row 11 None followed (Some sid) (branch_up records)
    ∷ []

-- R.L.B is given
abbrev pub rows_of_branch : List Record → ℕ → ℕ → ℕ → List Row
rows_of_branch records release level number =
    row 12 (Some false) true (last_sequence records release level number) sequence_up
    ∷ row 13 (Some true) true (last_sequence records release level number) (branch_up records)
    ∷ []

-- R.L.B.S is given, which has a successor or not
abbrev pub rows_of_sequence : List Record → Sid → Bool → List Row
rows_of_sequence records sid followed =
    row 14 (Some false) (not followed) (Some sid) sequence_up
    ∷ row 15 (Some true) (not followed) (Some sid) (branch_up records)
    ∷ row 16 None followed (Some sid) (branch_up records)
    ∷ []

-- the rows for what is given
abbrev pub rows : List Record → Option Spec → List Row
rows records None = rows_alone records
rows records (Some (Release release)) =
    rows_of_release records release (passes (trunk_release records None) (λ newest. nat_lt newest release))
    (passes (trunk_release records None) (λ newest. newest == release)) (passes (trunk_release records None)
    (λ newest. nat_lt release newest)) (is_trunk_release records release)
rows records (Some (Branch release level number)) = rows_of_branch records release level number
rows records (Some (Full sid)) =
    if sid.branch == 0 then rows_of_level records sid (has_successor records sid) else rows_of_sequence records sid
    (has_successor records sid)

-- a row is for a branch that is asked for, or for none, or for both
abbrev pub is_for : Option Bool → Bool → Bool
is_for None branch = true
is_for (Some true) branch = branch
is_for (Some false) branch = not branch

-- the rows that fit; a branch is asked for by -b where the flag b is set
abbrev pub fitting_rows : Bool → List Row → List Row
fitting_rows branch rows = filter (λ (r : Row). is_for r.branch branch && r.condition) rows

-- the SIDs of the row that fits
abbrev pub got_in : List Row → Option Sid
got_in [] = None
got_in (r ∷ rows) = r.got

abbrev pub made_in : List Row → Option Sid
made_in [] = None
made_in (r ∷ rows) = r.made
