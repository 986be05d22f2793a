-- Which pending entry a login means (POSIX, delta and unget, -r).
use Rattle.std.specs.Prelude.{ℕ, ◌+◌, Bool, true, ◌&&◌, ◌||◌, List, drop, Option, None, Some, position, if◌then◌else◌}
use Rattle.std.specs.List.{list_any}
use Rattle.std.specs.Str.{bytes_eq}
use Rattle.sccs_sid.specs.declared.sids.Sid.{Sid}
use Rattle.sccs_history.specs.History.{same_sid}
use Rattle.sccs_pfile.specs.declared.entries.Edit.{Edit}
use Rattle.sccs_pfile.specs.declared.choosing.Choice.{Choice}
use Rattle.sccs_pfile.specs.declared.choosing.Choice.TheVariants.{One, NoEdit, ManyEdits}

-- where a SID is given: the entry is to make it, or got it, where that counts too
abbrev pub is_of_sid : Option Sid → Bool → Edit → Bool
is_of_sid None by_got e = true
is_of_sid (Some sid) by_got e = same_sid e.made sid || (by_got && same_sid e.got sid)

-- the entry is the login's, and of the SID where one is given
abbrev pub fits : List ℕ → Option Sid → Bool → Edit → Bool
fits login sid by_got e = bytes_eq e.login login && is_of_sid sid by_got e

-- the entry at a place, where no later one fits
abbrev pub choice_at : Option ℕ → (Edit → Bool) → List Edit → Choice
choice_at None test edits = NoEdit
choice_at (Some place) test edits = if list_any test (drop (place + 1) edits) then ManyEdits else One (place + 1)

-- the number, from 1, of the one entry that fits
abbrev pub choice : (Edit → Bool) → List Edit → Choice
choice test edits = choice_at (position test edits) test edits
