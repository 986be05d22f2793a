-- Which delta may be removed, and by whom: POSIX, rmdel. Which delta is a leaf and who its owner is, in full, is own.
use Rattle.std.specs.Prelude.{ℕ, ◌==◌, Bool, false, not, ◌&&◌, ◌||◌, List, [], ◌∷◌, Option}
use Rattle.std.specs.List.{find, list_any}
use Rattle.std.specs.Str.{bytes_eq}
use Rattle.sccs_sid.specs.declared.sids.Sid.{Sid}
use Rattle.sccs_history.specs.History.{same_sid}
use Rattle.sccs_history.specs.Numbers.{has}
use Rattle.sccs_history.specs.declared.headers.Record.{Record}
use Rattle.sccs_sets.specs.Made.{comes_after}
use Rattle.sccs_pfile.specs.Agreement.{is_listed}
use Rattle.sccs_pfile.specs.declared.entries.Edit.{Edit}

-- the live delta of a SID
abbrev pub live_delta : List Record → Sid → Option Record
live_delta records sid = find (λ r. not r.removed && same_sid r.sid sid) records

-- a live delta comes after a SID on its line, the trunk or one branch
abbrev pub has_later : List Record → Sid → Bool
has_later records sid = list_any (λ r. not r.removed && comes_after sid r.sid) records

-- a live delta is made on that of a serial, or takes it in or leaves it out
abbrev pub rests_on : ℕ → Record → Bool
rests_on n r = not r.removed && (r.predecessor == n || (has r.include n || has r.exclude n))

-- some live delta does
abbrev pub is_base : List Record → ℕ → Bool
is_base records n = list_any (rests_on n) records

-- the first delta of a file passes a test; the table is newest first, so it stands last
abbrev pub first_made : (Record → Bool) → List Record → Bool
first_made test [] = false
first_made test (r ∷ []) = test r
first_made test (r ∷ s ∷ rs) = first_made test (s ∷ rs)

-- it isn't the first delta of the file, but the newest one of its branch, and no other rests on it
abbrev pub is_leaf : List Record → Record → Bool
is_leaf records r =
    not (first_made (λ a. a.serial == r.serial) records)
    && (not (has_later records r.sid) && not (is_base records r.serial))

-- the login made the delta, or the first one of the file
abbrev pub is_owner : List Record → Record → List ℕ → Bool
is_owner records r login = bytes_eq r.login login || first_made (λ a. bytes_eq a.login login) records

-- a pending edit got the SID, or names it in a list
abbrev pub is_edited : List Edit → Sid → Bool
is_edited edits sid = list_any (λ e. same_sid e.got sid || (is_listed e.include sid || is_listed e.exclude sid)) edits
