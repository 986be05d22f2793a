-- Lists of SIDs: `range[,range]`, a range being one SID or two with a dash between them.
-- The readers answer how many bytes were left at the first byte at which no list goes on.
use Rattle.std.specs.Prelude.{◌≡◌, ℕ, zero, suc, ◌+◌, ◌-◌, ◌==◌, ◌&&◌, Bool, false, List, [], ◌∷◌, ◌++◌, length, Option}
use Rattle.std.specs.Prelude.{None, Some, Result, Ok, Err, if◌then◌else◌}
use Rattle.sccs_sid.specs.Reading.{◌>>=◌, number_at, byte_at}
use Rattle.sccs_sid.specs.Sid.{IsSid, sid_text}
use Rattle.sccs_sid.specs.declared.sids.Sid.{Sid}
use Rattle.sccs_sid.specs.declared.sid_lists.Range.{Range}
use Rattle.sccs_sid.specs.declared.sid_lists.ListFault.{ListFault}
use Rattle.sccs_sid.specs.declared.sid_lists.ListFault.TheVariants.{Malformed, Memory}

-- two SIDs
abbrev pub IsRange : Range → Type 0
IsRange range = IsSid range.first × IsSid range.last

-- zeros may still become a number, up to three: the fault is the fourth, or the byte after them
abbrev pub zero_fault : List ℕ → List ℕ → ℕ
zero_fault bytes rest = if length bytes - length rest == 4 then length rest + 1 else length rest

-- one to four digits, of a number from 1 on
unfoldable pub component_at : List ℕ → Result (ℕ × List ℕ) ℕ
component_at bytes = do
  n ← number_at 4 bytes
  if n.0 == 0 then Err (zero_fault bytes n.1) else Ok n

-- whether this byte comes next
abbrev pub begins : ℕ → List ℕ → Bool
begins wanted [] = false
begins wanted (b ∷ bytes) = b == wanted

-- branch and sequence, each after a dot
unfoldable pub branch_at : ℕ → ℕ → List ℕ → Result (Sid × List ℕ) ℕ
branch_at release level bytes = do
  dotted ← byte_at 46 bytes
  branch ← component_at dotted
  dotted_again ← byte_at 46 branch.1
  sequence ← component_at dotted_again
  Ok (record { release = release; level = level; branch = branch.0; sequence = sequence.0 }, sequence.1)

-- R.L, or R.L.B.S where a dot follows
unfoldable pub sid_at : List ℕ → Result (Sid × List ℕ) ℕ
sid_at bytes = do
  release ← component_at bytes
  dotted ← byte_at 46 release.1
  level ← component_at dotted
  if begins 46 level.1 then branch_at release.0 level.0 level.1
      else Ok (record { release = release.0; level = level.0; branch = 0; sequence = 0 }, level.1)

-- the last SID of a range, after a dash
unfoldable pub last_at : Sid → List ℕ → Result (Range × List ℕ) ℕ
last_at first bytes = do
  dashed ← byte_at 45 bytes
  last ← sid_at dashed
  Ok (record { first = first; last = last.0 }, last.1)

-- one SID, or two where a dash follows
unfoldable pub range_at : List ℕ → Result (Range × List ℕ) ℕ
range_at bytes = do
  first ← sid_at bytes
  if begins 45 first.1 then last_at first.0 first.1 else Ok (record { first = first.0; last = first.0 }, first.1)

-- after a range: nothing, or a comma and more
abbrev pub after_range : Range → List ℕ → Result (Range × Option (List ℕ)) ℕ
after_range range [] = Ok (range, None)
after_range range (b ∷ bytes) = byte_at 44 (b ∷ bytes) >>= λ more. Ok (range, Some more)

unfoldable pub piece_at : List ℕ → Result (Range × Option (List ℕ)) ℕ
piece_at bytes = do
  range ← range_at bytes
  after_range range.0 range.1

abbrev pub with_more : (List ℕ → Result (List Range) ℕ) → Range → Option (List ℕ) → Result (List Range) ℕ
with_more more range None = Ok (range ∷ [])
with_more more range (Some bytes) = more bytes >>= λ ranges. Ok (range ∷ ranges)

-- at most that many ranges
unfoldable pub ranges_of : ℕ → List ℕ → Result (List Range) ℕ
ranges_of zero bytes = Err (length bytes)
ranges_of (suc most) bytes = do
  piece ← piece_at bytes
  with_more (ranges_of most) piece.0 piece.1

abbrev pub placed : List ℕ → Result (List Range) ℕ → Result (List Range) ℕ
placed bytes (Ok ranges) = Ok ranges
placed bytes (Err left) = Err (length bytes + 1 - left)

-- the list that all the bytes spell; a fault is the place of the byte, from 1
unfoldable pub list_of : List ℕ → Result (List Range) ℕ
list_of bytes = placed bytes (ranges_of (length bytes + 1) bytes)

-- what is read, unless there was no memory
abbrev pub ReadsRanges : Result (List Range) ListFault → Result (List Range) ℕ → Type 0
ReadsRanges (Ok ranges) read = read ≡ Ok ranges
ReadsRanges (Err (Malformed place)) read = read ≡ Err place
ReadsRanges (Err Memory) read = Unit {0}

-- whether two SIDs are one
abbrev pub is_same_sid : Sid → Sid → Bool
is_same_sid a b = (a.release == b.release) && (a.level == b.level) && (a.branch == b.branch)
    && (a.sequence == b.sequence)

-- the written spelling of a range: one SID where the ends are equal, else both with a dash between them
unfoldable pub range_text : Range → List ℕ
range_text range = sid_text range.first ++ (if is_same_sid range.first range.last then [] else 45 ∷ sid_text range.last)

-- the written spelling of a list: the ranges with a comma between two
unfoldable pub list_text : List Range → List ℕ
list_text [] = []
list_text (range ∷ []) = range_text range
list_text (range ∷ next ∷ ranges) = range_text range ++ (44 ∷ list_text (next ∷ ranges))
