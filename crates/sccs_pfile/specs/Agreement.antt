-- When the entries of a p-file and a delta table agree (own).
use Rattle.std.specs.Prelude.{◌≡◌, ℕ, suc, ◌==◌, Bool, true, not, ◌&&◌, List, length, filter, is_none, position, Option}
use Rattle.std.specs.Prelude.{option_map}
use Rattle.std.specs.List.{AllByRecursion, list_all, list_any}
use Rattle.sccs_sid.specs.declared.sids.Sid.{Sid}
use Rattle.sccs_sid.specs.declared.sid_lists.Range.{Range}
use Rattle.sccs_history.specs.History.{lives, same_sid}
use Rattle.sccs_history.specs.declared.headers.Record.{Record}
use Rattle.sccs_sets.specs.Naming.{in_range, range_fault}
use Rattle.sccs_pfile.specs.declared.entries.Edit.{Edit}

-- each range goes over live deltas: its ends are live and on one line, in order
abbrev pub are_ranges : List Record → List Range → Bool
are_ranges records ranges = list_all (λ range. is_none (range_fault records range)) ranges

-- some range of the list goes over the SID
abbrev pub is_listed : List Range → Sid → Bool
is_listed ranges sid = list_any (λ range. in_range range sid) ranges

-- some live SID is in both lists
abbrev pub share_sid : List Record → List Range → List Range → Bool
share_sid records include exclude =
    list_any (λ r. not r.removed && (is_listed include r.sid && is_listed exclude r.sid)) records

-- the lists of an entry name live SIDs, and share none
abbrev pub has_lists : List Record → Edit → Bool
has_lists records e =
    are_ranges records e.include && (are_ranges records e.exclude && not (share_sid records e.include e.exclude))

-- how many of the entries are to make the SID
abbrev pub makers : List Edit → Sid → ℕ
makers edits sid = length (filter (λ e. same_sid sid e.made) edits)

-- an entry agrees: its SID got is live, its SID to be made is neither live nor that of another entry, and its lists are
-- fine
abbrev pub agrees : List Record → List Edit → Edit → Bool
agrees records edits e =
    lives records e.got && (not (lives records e.made) && (makers edits e.made == 1 && has_lists records e))

-- all entries agree with the table
abbrev pub Agrees : List Record → List Edit → Type 0
Agrees records edits = AllByRecursion (λ e. agrees records edits e ≡ true) edits

-- the number, from 1, of the first entry that doesn't agree
abbrev pub first_disagreeing : List Record → List Edit → Option ℕ
first_disagreeing records edits = option_map suc (position (λ e. not (agrees records edits e)) edits)
