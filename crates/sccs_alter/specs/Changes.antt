-- The MRs and the comment of one delta, changed: cdc of SCCS, which POSIX lacks. The forms of the lines that are added
-- are own.
use Rattle.std.specs.Prelude.{◌≡◌, ℕ, ◌==◌, not, Bool, List, [], ◌∷◌, ◌++◌, map, Option, None, Some, codes}
use Rattle.std.specs.Prelude.{if◌then◌else◌}
use Rattle.std.specs.List.{list_any}
use Rattle.std.specs.Str.{bytes_eq}
use Rattle.sccs_sid.specs.Moment.{moment_text}
use Rattle.sccs_sid.specs.declared.moments.Stamp.{Stamp}
use Rattle.sccs_history.specs.Numbers.{front_if}
use Rattle.sccs_history.specs.declared.headers.Header.{Header}
use Rattle.sccs_history.specs.declared.headers.Record.{Record}
use Rattle.sccs_records.specs.Texts.{some_lines}
use Rattle.sccs_alter.specs.declared.changes.TextChanges.{TextChanges}

-- ---- MRs

abbrev pub has_mr : List (List ℕ) → List ℕ → Bool
has_mr mrs mr = list_any (λ one. bytes_eq one mr) mrs

unfoldable pub without_mr : List (List ℕ) → List ℕ → List (List ℕ)
without_mr [] mr = []
without_mr (one ∷ mrs) mr = front_if (not (bytes_eq one mr)) one (without_mr mrs mr)

-- the MR that a word takes away: what stands behind `!`
abbrev pub taken_away : List ℕ → Option (List ℕ)
taken_away [] = None
taken_away (b ∷ bytes) = if b == 33 then Some bytes else None

-- the MRs after a word; one that isn't to be taken away comes last, unless it is there
abbrev pub mrs_by : Option (List ℕ) → List (List ℕ) → List ℕ → List (List ℕ)
mrs_by (Some mr) mrs word = without_mr mrs mr
mrs_by None mrs word = mrs ++ front_if (not (has_mr mrs word)) word []

-- the MR that is gone by it, where it was there
abbrev pub gone_by : Option (List ℕ) → List (List ℕ) → List (List ℕ)
gone_by (Some mr) mrs = front_if (has_mr mrs mr) mr []
gone_by None mrs = []

-- the MRs after words, one after the other
unfoldable pub changed_mrs : List (List ℕ) → List (List ℕ) → List (List ℕ)
changed_mrs [] mrs = mrs
changed_mrs (word ∷ words) mrs = changed_mrs words (mrs_by (taken_away word) mrs word)

-- those that are gone by them
unfoldable pub gone_mrs : List (List ℕ) → List (List ℕ) → List (List ℕ)
gone_mrs [] mrs = []
gone_mrs (word ∷ words) mrs = gone_by (taken_away word) mrs ++ gone_mrs words (mrs_by (taken_away word) mrs word)

-- ---- comments

abbrev pub deleted_line : List ℕ → List ℕ
deleted_line mr = codes "*** DELETED MR *** " ++ mr

abbrev pub changed_line : Stamp → List ℕ
changed_line stamp = codes "*** CHANGED *** " ++ (moment_text stamp.moment ++ (32 ∷ stamp.login))

-- the lines of the comment that is given, of which there is one at least; none where none is given
abbrev pub given_lines : Option (List (List ℕ)) → List (List ℕ)
given_lines None = []
given_lines (Some lines) = some_lines lines

-- the lines that come new: those of the comment, and one for each MR that is gone
abbrev pub new_lines : TextChanges → Record → List (List ℕ)
new_lines changes r = changes.comment ++ map deleted_line (gone_mrs changes.mrs r.mrs)

-- lines before old ones, with a line between that says when and by whom; where there are none the old ones stay
abbrev pub before_old : Stamp → List (List ℕ) → List (List ℕ) → List (List ℕ)
before_old stamp [] old = old
before_old stamp (line ∷ lines) old = line ∷ lines ++ changed_line stamp ∷ old

-- ---- records

-- the record with other MRs and another comment; all else stays
abbrev pub changed_delta : TextChanges → Stamp → Record → Record
changed_delta changes stamp r =
    record r { mrs = changed_mrs changes.mrs r.mrs; comments = before_old stamp (new_lines changes r) r.comments }

-- the record, changed where it is that of a serial
abbrev pub changed_record : TextChanges → Stamp → ℕ → Record → Record
changed_record changes stamp n r = record r {
  mrs = if r.serial == n then changed_mrs changes.mrs r.mrs else r.mrs;
  comments = if r.serial == n then before_old stamp (new_lines changes r) r.comments else r.comments;
}

abbrev pub changed_records : TextChanges → Stamp → ℕ → List Record → List Record
changed_records changes stamp n records = map (changed_record changes stamp n) records

-- a header with it; users, flags and description stay
abbrev pub with_changes : TextChanges → Stamp → ℕ → Header → Header
with_changes changes stamp n header = record header { records = changed_records changes stamp n header.records }

-- ---- what stays

-- a record without its MRs and its comment
abbrev pub bare_record : Record → Record
bare_record r = record r { mrs = []; comments = [] }

-- two tables are the same but for MRs and comments
abbrev pub AreSameDeltas : List Record → List Record → Type 0
AreSameDeltas records others = map bare_record records ≡ map bare_record others
