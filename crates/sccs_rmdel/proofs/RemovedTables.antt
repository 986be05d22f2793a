-- A table without a delta: its serials, paths and live SIDs, and the rules that table, header and history keep.
use Rattle.std.proofs.Common.{◌≡◌, ℕ, ◌<◌, ◌==◌, Bool, true, false, not, ◌&&◌, ◌||◌, List, [], ◌∷◌, refl, sym, ap, ◌∙◌}
use Rattle.std.proofs.Common.{subst}
use Rattle.std.specs.Prelude.{if◌then◌else◌}
use Rattle.std.specs.List.{AllByRecursion, list_all, list_any}
use Rattle.std.proofs.lemmas.Bool.{eqb-false, false≢true, and_parts, or_right, or_parts}
use Rattle.sccs_base.specs.Cut.{HasNoLf}
use Rattle.sccs_sid.specs.SidLists.{begins}
use Rattle.sccs_sid.specs.declared.sids.Sid.{Sid}
use Rattle.sccs_history.specs.Applied.{live_serials, path, serials_of}
use Rattle.sccs_history.specs.Body.{HistoryLine, IsLine}
use Rattle.sccs_history.specs.History.{HasSpelling, History, IsHeader, IsRecord, IsRooted, IsSpelled, IsTable, IsValid}
use Rattle.sccs_history.specs.History.{has_own_sids, lives, same_sid}
use Rattle.sccs_history.specs.Numbers.{Falls, IsFalling, front_if, has, is_empty, without}
use Rattle.sccs_history.specs.Removal.{dropped_lines}
use Rattle.sccs_history.specs.declared.headers.Header.{Header}
use Rattle.sccs_history.specs.declared.headers.Record.{Record}
use Rattle.sccs_rmdel.specs.Leaves.{is_base, rests_on}
use Rattle.sccs_rmdel.specs.Removed.{history_without, removed_record, removed_records, without_delta}
use Rattle.sccs_rmdel.proofs.DroppedItems.{Falls-without, by_test, has-without}

-- ---- serials and paths

pub serials_removed : (n : ℕ) (records : List Record) → serials_of (removed_records n records) ≡ serials_of records
serials_removed n [] = refl
serials_removed n (r ∷ rs) = ap (λ l. r.serial ∷ l) (serials_removed n rs)

live_one : (n : ℕ) (r : Record) (removed : Bool) (ls : List ℕ) → front_if (not (removed || r.serial == n)) r.serial
    (without n ls) ≡ without n (front_if (not removed) r.serial ls)
live_one n r true ls = refl
live_one n r false ls = refl

pub live_removed : (n : ℕ) (records : List Record) → live_serials (removed_records n records) ≡ without n
    (live_serials records)
live_removed n [] = refl
live_removed n (r ∷ rs) = ap (λ l. front_if (not (r.removed || r.serial == n)) r.serial l) (live_removed n rs)
    ∙ live_one n r r.removed (live_serials rs)

pub path_removed : (n wanted : ℕ) (records : List Record) → path wanted (removed_records n records)
    ≡ path wanted records
path_removed n wanted [] = refl
path_removed n wanted (r ∷ rs) = ap (λ l. front_if (r.serial == wanted) r.serial l)
    (path_removed n (if r.serial == wanted then r.predecessor else wanted) rs)

-- ---- live SIDs

-- one that isn't removed then wasn't before
pub still_live : (a b c : Bool) → (not (a || b) && c) ≡ true → (not a && c) ≡ true
still_live true b c is = is
still_live false true c is = absurd (false≢true is)
still_live false false c is = is

pub either : (a b c d : Bool) → (a ≡ true → c ≡ true) → (b ≡ true → d ≡ true) → (a || b) ≡ true → (c || d) ≡ true
either true b c d one two is = ap (λ t. t || d) (one refl)
either false b c d one two is = or_right c d (two is)

pub lives_before : (n : ℕ) (records : List Record) (sid : Sid) → lives (removed_records n records) sid ≡ true
    → lives records sid ≡ true
lives_before n [] sid is = is
lives_before n (r ∷ rs) sid is =
    either (not (r.removed || r.serial == n) && same_sid r.sid sid) (lives (removed_records n rs) sid)
    (not r.removed && same_sid r.sid sid) (lives rs sid)
    (still_live r.removed (r.serial == n) (same_sid r.sid sid)) (lives_before n rs sid) is

pub contrary : (a b : Bool) → (a ≡ true → b ≡ true) → not b ≡ true → not a ≡ true
contrary true b there is = absurd (false≢true (ap not (sym (there refl)) ∙ is))
contrary false b there is = refl

pub not_lives : (n : ℕ) (records : List Record) (sid : Sid) → not (lives records sid) ≡ true
    → not (lives (removed_records n records) sid) ≡ true
not_lives n records sid is = contrary (lives (removed_records n records) sid) (lives records sid)
    (lives_before n records sid) is

own_one : (removed other fresh fresh2 : Bool) → (fresh ≡ true → fresh2 ≡ true) → (removed || fresh) ≡ true
    → ((removed || other) || fresh2) ≡ true
own_one true other fresh fresh2 there is = refl
own_one false true fresh fresh2 there is = refl
own_one false false fresh fresh2 there is = there is

own_sids : (n : ℕ) (records : List Record) → has_own_sids records ≡ true → has_own_sids (removed_records n records)
    ≡ true
own_sids n [] is = is
own_sids n (r ∷ rs) is =
    let parts = and_parts (r.removed || not (lives rs r.sid)) (has_own_sids rs) is in
    ap (λ t. t && has_own_sids (removed_records n rs)) (own_one r.removed (r.serial == n) (not (lives rs r.sid))
    (not (lives (removed_records n rs) r.sid)) (not_lives n rs r.sid) parts.0)
    ∙ own_sids n rs parts.1

-- ---- tables, headers

removed_is : (n : ℕ) (all : List Record) (r : Record) → IsRecord all r → IsRecord (removed_records n all)
    (removed_record n r)
removed_is n all r is = record {
  serial = is.serial;
  predecessor = ap (λ l. has (0 ∷ l) r.predecessor) (serials_removed n all) ∙ is.predecessor;
  older = is.older;
  include = is.include;
  exclude = is.exclude;
  ignore = is.ignore;
  apart = is.apart;
  inserted = is.inserted;
  deleted = is.deleted;
  unchanged = is.unchanged;
}

each_is : (n : ℕ) (all records : List Record) → AllByRecursion (IsRecord all) records
    → AllByRecursion (IsRecord (removed_records n all)) (removed_records n records)
each_is n all [] each = tt
each_is n all (r ∷ rs) each = (removed_is n all r each.0, each_is n all rs each.1)

some_left : (n : ℕ) (records : List Record) → is_empty records ≡ false → is_empty (removed_records n records) ≡ false
some_left n [] some = some
some_left n (r ∷ rs) some = refl

pub table_removed : (n : ℕ) (records : List Record) → IsTable records → IsTable (removed_records n records)
table_removed n records is = record {
  some = some_left n records is.some;
  falls = subst (Falls 65536) (sym (serials_removed n records)) is.falls;
  each = each_is n records records is.each;
  sids = own_sids n records is.sids;
}

pub header_removed : (n : ℕ) (header : Header) → IsHeader header → IsHeader (without_delta n header)
header_removed n header is = record {
  rules = record {
    table = table_removed n header.records is.rules.table;
    flags = is.rules.flags;
    letters = is.rules.letters;
    users = is.rules.users;
    description = is.rules.description;
  };
  plain = is.plain;
}

each_spelled : (n : ℕ) (records : List Record) → AllByRecursion HasSpelling records → AllByRecursion HasSpelling
    (removed_records n records)
each_spelled n [] each = tt
each_spelled n (r ∷ rs) each = (
  record {
    sid = each.0.sid;
    moment = each.0.moment;
    login = each.0.login;
    mrs = each.0.mrs;
    comments =
        each.0.comments;
  },
  each_spelled n rs each.1,
)

pub spelled_removed : (n : ℕ) (header : Header) → IsSpelled header → IsSpelled (without_delta n header)
spelled_removed n header is = record {
  records = each_spelled n header.records is.records;
  users = is.users;
  flags =
      is.flags;
  description = is.description;
}

-- ---- histories

deleters_left : (n i : ℕ) (live ds : List ℕ) → AllByRecursion (λ d. (has live d ≡ true) × (i < d)) ds
    → AllByRecursion (λ d. (has (without n live) d ≡ true) × (i < d)) (without n ds)
deleters_left n i live [] each = tt
deleters_left n i live (d ∷ ds) each =
    by_test (λ t. AllByRecursion (λ d. (has (without n live) d ≡ true) × (i < d)) (front_if (not t) d (without n ds)))
    (d == n)
    (λ e. deleters_left n i live ds each.1)
    (λ e. ((has-without n d live (eqb-false d n e) ∙ each.0.0, each.0.1), deleters_left n i live ds each.1))

falling_left : (n : ℕ) (ds : List ℕ) → IsFalling ds → IsFalling (without n ds)
falling_left n [] falls = tt
falling_left n (d ∷ ds) falls =
    by_test (λ t. IsFalling (front_if (not t) d (without n ds))) (d == n)
    (λ e. is_falling d (without n ds) (Falls-without n d ds falls)) (λ e. Falls-without n d ds falls)
  where
    is_falling : (b : ℕ) (ns : List ℕ) → Falls b ns → IsFalling ns
    is_falling b [] all = tt
    is_falling b (m ∷ ns) all = all.1

line_left : (n : ℕ) (live : List ℕ) (line : HistoryLine) → (line.inserter == n) ≡ false → IsLine live line
    → IsLine (without n live) (record line { deleters = without n line.deleters })
line_left n live line other is = record {
  inserter = has-without n line.inserter live (eqb-false line.inserter n other) ∙ is.inserter;
  deleters = deleters_left n line.inserter live line.deleters is.deleters;
  order = falling_left n line.deleters is.order;
}

lines_are : (n : ℕ) (live : List ℕ) (lines : List HistoryLine) → AllByRecursion (IsLine live) lines
    → AllByRecursion (IsLine (without n live)) (dropped_lines n lines)
lines_are n live [] each = tt
lines_are n live (line ∷ lines) each =
    by_test (λ t. AllByRecursion (IsLine (without n live))
    (front_if (not t) (record line { deleters = without n line.deleters }) (dropped_lines n lines)))
    (line.inserter == n)
    (λ e. lines_are n live lines each.1) (λ e. (line_left n live line e each.0, lines_are n live lines each.1))

texts_are : (n : ℕ) (lines : List HistoryLine) → AllByRecursion (λ line. HasNoLf line.text
    × (begins 1 line.text ≡ false)) lines → AllByRecursion (λ line. HasNoLf line.text × (begins 1 line.text ≡ false))
    (dropped_lines n lines)
texts_are n [] each = tt
texts_are n (line ∷ lines) each =
    by_test (λ t. AllByRecursion (λ line. HasNoLf line.text × (begins 1 line.text ≡ false))
    (front_if (not t) (record line { deleters = without n line.deleters }) (dropped_lines n lines)))
    (line.inserter == n)
    (λ e. texts_are n lines each.1) (λ e. (each.0, texts_are n lines each.1))

pub history_valid : (n : ℕ) (h : History) → IsValid h → IsValid (history_without n h)
history_valid n h is = record {
  header = header_removed n h.header is.header;
  spelled = spelled_removed n h.header is.spelled;
  lines = subst (λ live. AllByRecursion (IsLine live) (dropped_lines n h.lines)) (sym (live_removed n h.header.records))
      (lines_are n (live_serials h.header.records) h.lines is.lines);
  texts = texts_are n h.lines is.texts;
}

-- ---- where no live delta rests on the serial

-- one test of the table fails for each record
pub each_not : (test : Record → Bool) (records : List Record) → list_any test records ≡ false
    → AllByRecursion (λ r. test r ≡ false) records
each_not test [] none = tt
each_not test (r ∷ rs) none = let parts = or_parts (test r) (list_any test rs) none in
    (parts.0, each_not test rs parts.1)

-- the predecessor of a live one is another
pub other_base : (n : ℕ) (r : Record) → r.removed ≡ false → rests_on n r ≡ false → (r.predecessor == n) ≡ false
other_base n r live none = (or_parts (r.predecessor == n) (has r.include n || has r.exclude n)
    (ap (λ t. not t && (r.predecessor == n || (has r.include n || has r.exclude n))) (sym live) ∙ none)).0

-- and it doesn't take it in
pub not_taken_in : (n : ℕ) (r : Record) → r.removed ≡ false → rests_on n r ≡ false → has r.include n ≡ false
not_taken_in n r live none =
    (or_parts (has r.include n) (has r.exclude n) (or_parts (r.predecessor == n) (has r.include n || has r.exclude n)
    (ap (λ t. not t && (r.predecessor == n || (has r.include n || has r.exclude n))) (sym live) ∙ none)).1).0

root_one : (n p : ℕ) (ls : List ℕ) (removed own : Bool) → (removed ≡ false → (p == n) ≡ false)
    → (removed || has (0 ∷ ls) p) ≡ true → ((removed || own) || has (0 ∷ without n ls) p) ≡ true
root_one n p ls true own other is = refl
root_one n p ls false true other is = refl
root_one n p ls false false other is = ap (λ t. 0 == p || t) (has-without n p ls (eqb-false p n (other refl))) ∙ is

root_each : (n : ℕ) (ls : List ℕ) (records : List Record) → AllByRecursion (λ r. rests_on n r ≡ false) records
    → list_all (λ r. r.removed || has (0 ∷ ls) r.predecessor) records ≡ true
    → list_all (λ r. r.removed || has (0 ∷ without n ls) r.predecessor) (removed_records n records) ≡ true
root_each n ls [] none is = is
root_each n ls (r ∷ rs) none is =
    let parts = and_parts (r.removed || has (0 ∷ ls) r.predecessor)
    (list_all (λ r. r.removed || has (0 ∷ ls) r.predecessor) rs) is in
    ap (λ t. t && list_all (λ r. r.removed || has (0 ∷ without n ls) r.predecessor) (removed_records n rs))
    (root_one n r.predecessor ls r.removed (r.serial == n) (λ live. other_base n r live none.0) parts.0)
    ∙ root_each n ls rs none.1 parts.1

pub rooted_removed : (n : ℕ) (h : History) → IsRooted h → is_base h.header.records n ≡ false
    → IsRooted (history_without n h)
rooted_removed n h is none =
    subst (λ ls. list_all (λ r. r.removed || has (0 ∷ ls) r.predecessor) (removed_records n h.header.records) ≡ true)
    (sym (live_removed n h.header.records))
    (root_each n (live_serials h.header.records) h.header.records (each_not (rests_on n) h.header.records none) is)
