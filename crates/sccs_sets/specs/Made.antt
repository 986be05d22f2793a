-- The SID that a delta on a version is to have (POSIX, get -e, "SID to be made"). That the SIDs of pending deltas
-- count, and
-- how, is own.
use Rattle.std.specs.Prelude.{ℕ, ◌+◌, ◌==◌, nat_lt, max, Bool, not, ◌&&◌, ◌||◌, List, Option, None, Some, option_map}
use Rattle.std.specs.Prelude.{option_and_then, unwrap_or, map, filter, if◌then◌else◌}
use Rattle.std.specs.List.{list_any, reduce}
use Rattle.sccs_sid.specs.declared.sids.Sid.{Sid}
use Rattle.sccs_sid.specs.declared.sids.Spec.{Spec}
use Rattle.sccs_sid.specs.declared.sids.Spec.TheVariants.{Release}
use Rattle.sccs_history.specs.FlagText.{flag_b}
use Rattle.sccs_history.specs.declared.headers.Header.{Header}
use Rattle.sccs_history.specs.declared.headers.Record.{Record}
use Rattle.sccs_flags.specs.FlagValues.{has_flag}
use Rattle.sccs_sets.specs.Naming.{one_line, not_after}
use Rattle.sccs_sets.specs.Retrieved.{live_where, trunk_sid, branch_sid}
use Rattle.sccs_sets.specs.Sets.{sid_at}

-- some SID that is taken passes a test: that of a live delta, or a reserved one
abbrev pub is_taken : List Record → List Sid → (Sid → Bool) → Bool
is_taken records reserved test = list_any (λ r. not r.removed && test r.sid) records || list_any test reserved

-- a SID comes after another on its line, the trunk or one branch
abbrev pub comes_after : Sid → Sid → Bool
comes_after got s = one_line got s && not (not_after s got)

-- of the same release and level
abbrev pub is_beside : Sid → Sid → Bool
is_beside got s = s.release == got.release && s.level == got.level

-- the greatest branch of live deltas, and of reserved SIDs, of a release and level
abbrev pub live_branch : List Record → Sid → Option ℕ
live_branch records got = reduce max (map (λ r. r.sid.branch) (live_where (is_beside got) records))

abbrev pub reserved_branch : List Sid → Sid → Option ℕ
reserved_branch reserved got = reduce max (map (λ s. s.branch) (filter (is_beside got) reserved))

-- the greatest branch that is taken there, 0 where none is
abbrev pub taken_branch : List Record → List Sid → Sid → ℕ
taken_branch records reserved got = max (unwrap_or (live_branch records got) 0)
    (unwrap_or (reserved_branch reserved got) 0)

-- the next component, at most 9999
abbrev pub next : ℕ → Option ℕ
next n = if nat_lt n 9999 then Some (n + 1) else None

-- the first delta of a release above that of a trunk SID that is given, else the next level
abbrev pub next_level : Sid → Option Sid
next_level got = option_map (λ level. trunk_sid got.release level) (next got.level)

abbrev pub next_on_trunk : Sid → Option Spec → Option Sid
next_on_trunk got (Some (Release release)) = if nat_lt got.release release then Some (trunk_sid release 1)
    else next_level got
next_on_trunk got spec = next_level got

-- the next one on the line of a SID
abbrev pub next_on_line : Sid → Option Spec → Option Sid
next_on_line got spec =
    if got.branch == 0 then next_on_trunk got spec
    else option_map (λ sequence. branch_sid got.release got.level got.branch sequence) (next got.sequence)

-- the first one of a new branch
abbrev pub on_new_branch : List Record → List Sid → Sid → Option Sid
on_new_branch records reserved got =
    option_map (λ number. branch_sid got.release got.level number 1) (next (taken_branch records reserved got))

-- The SID to be made on the SID got, where a SID or a front of one is given or not, and a branch is asked for or not:
-- the next
-- one on its line where no branch is asked for and no SID that is taken comes after it there, else the first of a new
-- branch. None where a component would pass 9999.
abbrev pub made_on : List Record → List Sid → Sid → Option Spec → Bool → Option Sid
made_on records reserved got spec branch =
    if branch || is_taken records reserved (comes_after got) then on_new_branch records reserved got
    else next_on_line got spec

-- the same on a live delta of a table; asking for a branch counts where the flag b is set
abbrev pub to_be_made : Header → List Sid → ℕ → Option Spec → Bool → Option Sid
to_be_made header reserved got spec branch =
    option_and_then (λ on. made_on header.records reserved on spec (branch && has_flag header.flags flag_b))
    (sid_at header.records got)
