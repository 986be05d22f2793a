-- The serials that a list of SIDs names.
use Rattle.std.specs.Prelude.{◌≡◌, ℕ, ◌==◌, nat_lt, nat_le, Bool, true, false, not, ◌&&◌, ◌||◌, List, [], ◌∷◌, ◌++◌}
use Rattle.std.specs.Prelude.{Option, None, Some, Result, Ok, Err, map, fold, slice_index_or, if◌then◌else◌}
use Rattle.sccs_sid.specs.declared.sids.Sid.{Sid}
use Rattle.sccs_sid.specs.declared.sid_lists.Range.{Range}
use Rattle.sccs_history.specs.Numbers.{has}
use Rattle.sccs_history.specs.History.{lives}
use Rattle.sccs_history.specs.declared.headers.Record.{Record}
use Rattle.sccs_sets.specs.Retrieved.{live_where}
use Rattle.sccs_sets.specs.declared.faults.SetFault.{SetFault}
use Rattle.sccs_sets.specs.declared.faults.SetFault.TheVariants.{BadList, Memory}
use Rattle.sccs_sets.specs.declared.naming.Named.{Named}

-- both SIDs are on the trunk, or on one branch
abbrev pub one_line : Sid → Sid → Bool
one_line a b =
    if a.branch == 0 then b.branch == 0 else a.release == b.release && (a.level == b.level && a.branch == b.branch)

-- the first SID doesn't come after the other, which is on its line
abbrev pub not_after : Sid → Sid → Bool
not_after a b =
    if a.branch == 0 then nat_lt a.release b.release || (a.release == b.release && nat_le a.level b.level)
    else nat_le a.sequence b.sequence

-- the SID is on the line of a range, from the first end to the last
abbrev pub in_range : Range → Sid → Bool
in_range range sid = one_line range.first sid && (not_after range.first sid && not_after sid range.last)

-- the SID at fault in a range: the first end that isn't live, or the last where they aren't on one line in order
abbrev pub range_fault : List Record → Range → Option Sid
range_fault records range =
    if not (lives records range.first) then Some range.first
    else (if lives records range.last && (one_line range.first range.last && not_after range.first range.last) then None
    else Some range.last)

abbrev pub sid_named : Record → Named
sid_named r = record { sid = r.sid; serial = r.serial }

-- one more, before the first of those that come after it
abbrev pub put_named : List Named → Named → List Named
put_named [] q = q ∷ []
put_named (a ∷ rest) q = if not_after a.sid q.sid then a ∷ put_named rest q else q ∷ a ∷ rest

-- the live deltas of a range, in rising order of their SIDs
abbrev pub range_named : List Record → Range → List Named
range_named records range = fold put_named [] (map sid_named (live_where (in_range range) records))

-- a number, where it isn't there yet
abbrev pub add_new : List ℕ → ℕ → List ℕ
add_new seen n = if has seen n then seen else seen ++ n ∷ []

-- with the serials of a range
abbrev pub add_range : List Record → List ℕ → Range → List ℕ
add_range records seen range = fold (λ ns q. add_new ns q.serial) seen (range_named records range)

-- the rest, unless a SID is at fault
abbrev pub unless : Option Sid → Result (List ℕ) Sid → Result (List ℕ) Sid
unless None rest = rest
unless (Some sid) rest = Err sid

-- a SID comes before the first of others
abbrev pub comes_first : List Named → Sid → Bool
comes_first [] sid = true
comes_first (a ∷ rest) sid = not (not_after a.sid sid)

-- the marks say which numbers a list has
abbrev pub AreMarks : List ℕ → List Bool → Type 0
AreMarks seen marks = (n : ℕ) → slice_index_or marks n false ≡ has seen n

-- the serials of ranges behind others, each once at its first place, or the first SID at fault
abbrev pub named_serials : List Record → List ℕ → List Range → Result (List ℕ) Sid
named_serials records seen [] = Ok seen
named_serials records seen (range ∷ ranges) =
    unless (range_fault records range) (named_serials records (add_range records seen range) ranges)

-- The answer is the serials, or the SID at fault; of want of memory nothing is said.
abbrev pub AnswersSerials : Result (List ℕ) Sid → Result (List ℕ) SetFault → Type 0
AnswersSerials said (Ok serials) = said ≡ Ok serials
AnswersSerials said (Err (BadList sid)) = said ≡ Err sid
AnswersSerials said (Err Memory) = Unit {0}

-- a delta's SID doesn't come after the first of others
abbrev pub IsSidBefore : Named → List Named → Type 0
IsSidBefore a [] = Unit {0}
IsSidBefore a (b ∷ rest) = not_after a.sid b.sid ≡ true

-- each delta's SID doesn't come after the next one's
abbrev pub IsRising : List Named → Type 0
IsRising [] = Unit {0}
IsRising (a ∷ rest) = IsSidBefore a rest × IsRising rest
