-- What import makes is read as the history of the trunk, and each version is the text of its revision.
use Rattle.std.proofs.Common.{◌≡◌, ℕ, zero, suc, ◌+◌, ◌-◌, ◌<◌, ◌≤◌, Bool, true, false, not, List, [], ◌∷◌, ◌++◌}
use Rattle.std.proofs.Common.{length, Ok, refl, ap, ◌∙◌, arith}
use Rattle.std.specs.Prelude.{if◌then◌else◌}
use Rattle.std.specs.List.{AllByRecursion}
use Rattle.sccs_base.specs.Cut.{HasNoLf}
use Rattle.sccs_sid.specs.SidLists.{begins}
use Rattle.sccs_history.specs.Applied.{version}
use Rattle.sccs_history.specs.Body.{HistoryLine, lines_of}
use Rattle.sccs_history.specs.History.{IsRooted, IsValid}
use Rattle.sccs_history.specs.Numbers.{first, front_if}
use Rattle.sccs_history.specs.declared.headers.Item.TheVariants.{Text, Delete, End}
use Rattle.sccs_tokens.specs.Written.{HasLines, IsItem, IsSerial}
use Rattle.sccs_grammar.specs.File.{IsSFile}
use Rattle.sccs_grammar.proofs.CanonicalLaws.{canonical_again}
use Rattle.sccs_trunks.specs.TrunkHistories.{head_text, history_of, scripts_of, text_behind}
use Rattle.sccs_trunks.specs.TrunkItems.{between, closes, goes_on, items_behind, items_of, opens}
use Rattle.sccs_trunks.specs.Trunks.{is_zero, trunk_lines}
use Rattle.sccs_trunks.specs.declared.revisions.Rcs.{Rcs}
use Rattle.sccs_trunks.proofs.TrunkValid.{IsFinal, final_trunk, rooted_trunk, trunk_items_are, valid_trunk}
use Rattle.sccs_trunks.proofs.TrunkVersions.{trunk_version}
use Rattle.sccs_rcs_file.specs.Trunk.{rcs_read}
use Rattle.sccs_rcs.specs.ImportStep.{rcs_content}
use Rattle.sccs_rcs.proofs.ReadTrunks.{is_trunk}

-- ---- items

both_all : {A : Type 0} (P : A → Type 0) (xs ys : List A) → AllByRecursion P xs → AllByRecursion P ys
    → AllByRecursion P (xs ++ ys)
both_all P [] ys first second = second
both_all P (x ∷ xs) ys first second = (first.0, both_all P xs ys first.1 second)

front_all : {A : Type 0} (P : A → Type 0) (t : Bool) (x : A) (xs : List A) → (t ≡ true → P x) → AllByRecursion P xs
    → AllByRecursion P (front_if t x xs)
front_all P true x xs first rest = (first refl, rest)
front_all P false x xs first rest = rest

serial_if : (d : ℕ) → d < 65536 → not (is_zero d) ≡ true → IsSerial d
serial_if zero low some = absurd (cc)
serial_if (suc d) low some = (omega arith, low)

closes_are : (a d : ℕ) → a < 65536 → d < 65536 → AllByRecursion IsItem (closes a d)
closes_are zero d la ld = tt
closes_are (suc a) d la ld = front_all IsItem (not (is_zero d)) (End d) (End (suc a) ∷ []) (serial_if d ld)
    ((omega arith, la), tt)

opens_are : (a d : ℕ) → 0 < a → a < 65536 → d < 65536 → AllByRecursion IsItem (opens a d)
opens_are a d some la ld = ((some, la), front_all IsItem (not (is_zero d)) (Delete d) [] (serial_if d ld) tt)

-- a line that can be written
record IsWritten (line : HistoryLine) : Type 0 where
  some : 0 < line.inserter
  inserter : line.inserter < 65536
  deleter : first line.deleters < 65536
  whole : HasNoLf line.text
  bare : begins 1 line.text ≡ false

between_are : (t : Bool) (a d : ℕ) (line : HistoryLine) → a < 65536 → d < 65536 → IsWritten line
    → AllByRecursion IsItem (if t then [] else closes a d ++ opens line.inserter (first line.deleters))
between_are true a d line la ld is = tt
between_are false a d line la ld is =
    both_all IsItem (closes a d) (opens line.inserter (first line.deleters)) (closes_are a d la ld)
    (opens_are line.inserter (first line.deleters) is.some is.inserter is.deleter)

items_are : (a d : ℕ) (lines : List HistoryLine) → a < 65536 → d < 65536 → AllByRecursion IsWritten lines
    → AllByRecursion IsItem (items_behind a d lines)
items_are a d [] la ld are = closes_are a d la ld
items_are a d (line ∷ lines) la ld are =
    both_all IsItem (between a d line) (Text line.text ∷ items_behind line.inserter (first line.deleters) lines)
    (between_are (goes_on a d line) a d line la ld are.0)
    (are.0.bare, items_are line.inserter (first line.deleters) lines are.0.inserter are.0.deleter are.1)

closes_have : (a d : ℕ) → AllByRecursion HasLines (closes a d)
closes_have zero d = tt
closes_have (suc a) d = front_all HasLines (not (is_zero d)) (End d) (End (suc a) ∷ []) (λ some. tt) (tt, tt)

between_have : (t : Bool) (a d : ℕ) (line : HistoryLine) → AllByRecursion HasLines (if t then []
    else closes a d ++ opens line.inserter (first line.deleters))
between_have true a d line = tt
between_have false a d line =
    both_all HasLines (closes a d) (opens line.inserter (first line.deleters)) (closes_have a d)
    (tt, front_all HasLines (not (is_zero (first line.deleters))) (Delete (first line.deleters)) [] (λ some. tt) tt)

items_have : (a d : ℕ) (lines : List HistoryLine) → AllByRecursion IsWritten lines → AllByRecursion HasLines
    (items_behind a d lines)
items_have a d [] are = closes_have a d
items_have a d (line ∷ lines) are =
    both_all HasLines (between a d line) (Text line.text ∷ items_behind line.inserter (first line.deleters) lines)
    (between_have (goes_on a d line) a d line)
    (are.0.whole, items_have line.inserter (first line.deleters) lines are.1)

-- ---- the lines of a trunk

first_low : (m i : ℕ) (ds : List ℕ) → m < 65536 → AllByRecursion (λ d. (d ≤ m) × (i < d)) ds → first ds < 65536
first_low m i [] low each = omega arith
first_low m i (d ∷ ds) low each = omega (arith, low, each.0.0)

final_written : (m : ℕ) (lines : List HistoryLine) → m < 65536 → AllByRecursion (IsFinal m) lines
    → AllByRecursion (λ line. HasNoLf line.text × (begins 1 line.text ≡ false)) lines → AllByRecursion IsWritten lines
final_written m [] low final texts = tt
final_written m (line ∷ lines) low final texts = (
  record {
    some = final.0.some;
    inserter = omega (arith, low, final.0.inserter);
    deleter = first_low m line.inserter line.deleters low final.0.deleters;
    whole = texts.0.0;
    bare = texts.0.1;
  },
  final_written m lines low final.1 texts.1,
)

-- ---- the file

pub valid_import : (bytes : List ℕ) (rcs : Rcs) → rcs_read bytes ≡ Ok rcs → IsValid (history_of rcs)
valid_import bytes rcs is = valid_trunk rcs.revisions rcs.description (head_text rcs.revisions)
    (scripts_of rcs.revisions) (is_trunk bytes rcs is)

pub rooted_import : (rcs : Rcs) → IsRooted (history_of rcs)
rooted_import rcs = rooted_trunk rcs.revisions rcs.description (trunk_lines (head_text rcs.revisions)
    (scripts_of rcs.revisions))

pub import_again : (bytes : List ℕ) (rcs : Rcs) → rcs_read bytes ≡ Ok rcs → IsSFile (rcs_content rcs).bytes
    (history_of rcs).header (items_of (history_of rcs).lines)
import_again bytes rcs is =
    let trunk = is_trunk bytes rcs is in
    let valid = valid_import bytes rcs is in
    let lines = trunk_lines (head_text rcs.revisions) (scripts_of rcs.revisions) in
    let low : suc (length (scripts_of rcs.revisions)) < 65536 = omega (arith, trunk.few, trunk.scripts_are) in
    let written = final_written (suc (length (scripts_of rcs.revisions))) lines low
    (final_trunk (head_text rcs.revisions) (scripts_of rcs.revisions)) valid.texts in
    canonical_again (history_of rcs).header (items_of lines) valid.header valid.spelled
    (items_are 0 0 lines (omega arith) (omega arith) written) (items_have 0 0 lines written)
    (trunk_items_are rcs.revisions (head_text rcs.revisions) (scripts_of rcs.revisions) trunk.scripts_are).goes

pub import_lines : (bytes : List ℕ) (rcs : Rcs) → rcs_read bytes ≡ Ok rcs → lines_of (items_of (history_of rcs).lines)
    ≡ (history_of rcs).lines
import_lines bytes rcs is = (trunk_items_are rcs.revisions (head_text rcs.revisions) (scripts_of rcs.revisions)
    (is_trunk bytes rcs is).scripts_are).lines_are

pub import_version : (bytes : List ℕ) (rcs : Rcs) (n : ℕ) → rcs_read bytes ≡ Ok rcs → n < length rcs.revisions
    → version (length rcs.revisions - n) (history_of rcs).header.records (lines_of (items_of (history_of rcs).lines))
    ≡ text_behind n rcs
import_version bytes rcs n is below =
    let trunk = is_trunk bytes rcs is in
    ap (version (length rcs.revisions - n) (history_of rcs).header.records) (import_lines bytes rcs is)
    ∙ trunk_version rcs.revisions (head_text rcs.revisions) (scripts_of rcs.revisions) n trunk.scripts_are
    (omega (arith, below, trunk.scripts_are))
