-- What reading a whole s-file answers, by its bytes alone.
use Rattle.std.specs.Prelude.{◌≡◌, ℕ, ◌+◌, ◌==◌, Bool, ◌&&◌, ◌||◌, List, [], ◌∷◌, length, drop, Result, Ok, Err, Option}
use Rattle.std.specs.Prelude.{Some, None, nat_lt, if◌then◌else◌}
use Rattle.sccs_base.specs.Cut.{cut}
use Rattle.sccs_sid.specs.Reading.{◌>>=◌, number}
use Rattle.sccs_history.specs.Applied.{live_serials}
use Rattle.sccs_history.specs.History.{is_encoded}
use Rattle.sccs_history.specs.declared.headers.Header.{Header}
use Rattle.sccs_history.specs.declared.headers.Item.{Item}
use Rattle.sccs_grammar.specs.Front.{ParsedFront, start, front_from}
use Rattle.sccs_tokens.specs.Items.{items_from}
use Rattle.sccs_tokens.specs.Sums.{plain_sum, signed_sum}
use Rattle.sccs_grammar.specs.declared.faults.FileFault.{FileFault}
use Rattle.sccs_grammar.specs.declared.faults.FileFault.TheVariants.{Missing, TooLong, NotSccs, BadSum, BadFormat}
use Rattle.sccs_grammar.specs.declared.faults.FileFault.TheVariants.{Encoded}

-- A file's stored sum, and its lines and its bytes behind the first line.
pub record Opened : Type 0 where
  pub sum_of : ℕ
  pub lines : List (List ℕ)
  pub bytes : List ℕ

-- A whole file: its header and the items of its body.
pub record Parsed : Type 0 where
  pub header : Header
  pub items : List Item

abbrev pub five_digits : List ℕ → Option ℕ
five_digits digits = if length digits == 5 then number 5 digits else None

-- the stored sum: SOH, h and five digits
unfoldable pub stored : List ℕ → Option ℕ
stored (soh ∷ letter ∷ digits) = if (soh == 1) && (letter == 104) then five_digits digits else None
stored _ = None

abbrev pub opened_by : Option ℕ → List (List ℕ) → List ℕ → Result Opened FileFault
opened_by None lines bytes = Err NotSccs
opened_by (Some n) lines bytes = Ok (record { sum_of = n; lines = lines; bytes = bytes })

abbrev pub opened_cut : List ℕ → List (List ℕ) → Result Opened FileFault
opened_cut bytes [] = Err NotSccs
opened_cut bytes (line ∷ lines) = opened_by (stored line) lines (drop (length line + 1) bytes)

-- a file whose first line is a sum line
unfoldable pub opened : List ℕ → Result Opened FileFault
opened bytes = opened_cut bytes (cut bytes).lines

-- the stored sum is the plain or the signed one
abbrev pub sum_holds : Opened → Bool
sum_holds o = (o.sum_of == plain_sum o.bytes) || (o.sum_of == signed_sum o.bytes)

abbrev pub summed : Opened → Result Opened FileFault
summed o = if sum_holds o then Ok o else Err (BadSum o.sum_of (plain_sum o.bytes))

abbrev pub as_format : {A : Type 0} → Result A ℕ → Result A FileFault
as_format (Ok x) = Ok x
as_format (Err line) = Err (BadFormat line)

abbrev pub not_encoded : {A : Type 0} → Header → A → Result A FileFault
not_encoded h x = if is_encoded h.flags then Err Encoded else Ok x

-- the header, with what comes behind it, whatever its flags say of the body
unfoldable pub checked_front : List ℕ → Result ParsedFront FileFault
checked_front bytes = do
  o ← opened bytes
  p ← summed o
  as_format (front_from 2 start p.lines)

-- The header, with what comes behind it; the first fault in the order: no sum line, a wrong sum, a line at which
-- nothing goes on, an encoded body.
unfoldable pub front_of : List ℕ → Result ParsedFront FileFault
front_of bytes = do
  f ← checked_front bytes
  not_encoded f.header f

-- The header and the items; the first fault in the same order.
unfoldable pub file_of : List ℕ → Result Parsed FileFault
file_of bytes = do
  f ← checked_front bytes
  items ← as_format (items_from (live_serials f.header.records) f.line [] f.rest (cut bytes).tail)
  not_encoded f.header (record { header = f.header; items = items })

-- the bytes spell this header and these items
abbrev pub IsSFile : List ℕ → Header → List Item → Type 0
IsSFile bytes header items = file_of bytes ≡ Ok (record { header = header; items = items })

abbrev pub within_limit : List ℕ → Result (List ℕ) FileFault
within_limit bytes = if nat_lt 1073741824 (length bytes) then Err TooLong else Ok bytes

-- what a reader answers for a file that may not be there: no file and too long a file come first
abbrev pub answer : {A : Type 0} → (List ℕ → Result A FileFault) → Option (List ℕ) → Result A FileFault
answer read None = Err Missing
answer read (Some bytes) = within_limit bytes >>= read
