-- Pending edits still agree with a table without a delta that none of them got or lists.
use Rattle.std.proofs.Common.{◌≡◌, ◌≢◌, ℕ, ◌<◌, ◌≤◌, ◌==◌, nat_lt, nat_le, Bool, true, false, cond, not, ◌&&◌, ◌||◌}
use Rattle.std.proofs.Common.{List, [], ◌∷◌, Option, None, Some, is_none, refl, sym, ap, ◌∙◌, arith}
use Rattle.std.specs.Prelude.{if◌then◌else◌}
use Rattle.std.specs.List.{AllByRecursion, find}
use Rattle.std.proofs.Math.Bool.{and-false}
use Rattle.std.proofs.lemmas.Bool.{and_parts, eq-eqb, false≢true, le-leb, ne_eqb, and_from, or_parts}
use Rattle.sccs_sid.specs.declared.sid_lists.Range.{Range}
use Rattle.sccs_sid.specs.declared.sids.Sid.{Sid}
use Rattle.sccs_history.specs.Applied.{serials_of}
use Rattle.sccs_history.specs.History.{IsTable, lives, same_sid}
use Rattle.sccs_history.specs.Numbers.{Falls}
use Rattle.sccs_history.specs.declared.headers.Record.{Record}
use Rattle.sccs_sets.specs.Naming.{in_range, not_after, one_line, range_fault}
use Rattle.sccs_sets.proofs.NewSids.{same_is}
use Rattle.sccs_pfile.specs.Agreement.{Agrees, agrees, are_ranges, has_lists, is_listed, makers, share_sid}
use Rattle.sccs_pfile.specs.declared.entries.Edit.{Edit}
use Rattle.sccs_pfile.proofs.Recovering.{same_self}
use Rattle.sccs_rmdel.specs.Leaves.{is_edited, live_delta}
use Rattle.sccs_rmdel.specs.Removed.{removed_record, removed_records}
use Rattle.sccs_rmdel.proofs.DroppedItems.{by_test}
use Rattle.sccs_rmdel.proofs.RemovedTables.{contrary, either, not_lives, still_live}
use Rattle.sccs_base.proofs.Bools.{or_none}

-- ---- the record of the delta

-- none of the records has a serial from the bound on
none_here : (P : Record → Type 0) (m : ℕ) (records : List Record) (b : ℕ) → b ≤ m → Falls b (serials_of records)
    → AllByRecursion (λ a. (a.serial == m) ≡ true → P a) records
none_here P m [] b le falls = tt
none_here P m (r ∷ rs) b le falls = (
  λ same. absurd (false≢true (sym (ne_eqb r.serial m (λ e. omega (arith, falls.0, le))) ∙ same)),
  none_here P m rs r.serial (omega (arith, falls.0, le)) falls.1,
)

found_below : (test : Record → Bool) (records : List Record) (b : ℕ) (q : Record) → Falls b (serials_of records)
    → find test records ≡ Some q → q.serial < b
found_below test [] b q falls is = absurd cc
found_below test (r ∷ rs) b q falls is =
    by_test (λ t. cond t (Some r) (find test rs) ≡ Some q → q.serial < b) (test r)
    (λ here found. let same : r ≡ q = cc in omega (arith, falls.0, ap (λ (x : Record). x.serial) same))
    (λ away found. let low : q.serial < r.serial = found_below test rs r.serial q falls.1 found in
    omega (arith, low, falls.0)) is

-- each record with the serial of the one that is found passes the test
each_found : (test : Record → Bool) (records : List Record) (b : ℕ) (q : Record) → Falls b (serials_of records)
    → find test records ≡ Some q → AllByRecursion (λ a. (a.serial == q.serial) ≡ true → test a ≡ true) records
each_found test [] b q falls is = tt
each_found test (r ∷ rs) b q falls is =
    by_test (λ t. cond t (Some r) (find test rs) ≡ Some q → AllByRecursion (λ a. (a.serial == q.serial) ≡ true
    → test a ≡ true) (r ∷ rs)) (test r)
    (λ here found. let same : r ≡ q = cc in (
      λ own. here,
      none_here (λ a. test a ≡ true) q.serial rs r.serial
          (omega (arith, ap (λ (x : Record). x.serial) same)) falls.1,
    ))
    (λ away found. let low : q.serial < r.serial = found_below test rs r.serial q falls.1 found in (
      λ own. absurd (false≢true (sym (ne_eqb r.serial q.serial (λ e. omega (arith, low, e))) ∙ own)),
      each_found test rs r.serial q falls.1 found,
    )) is

-- ---- SIDs of other deltas

abbrev live_of : Sid → Record → Bool
live_of sid a = not a.removed && same_sid a.sid sid

no_other : (sid s other : Sid) → same_sid other sid ≡ true → s ≢ sid → same_sid other s ≡ false
no_other sid s other same away =
    by_test (λ t. t ≡ false) (same_sid other s)
    (λ is. absurd (away (sym (same_is other s is) ∙ same_is other sid same))) (λ is. refl)

lives_one : (n : ℕ) (sid s : Sid) (a : Record) → s ≢ sid → ((a.serial == n) ≡ true → live_of sid a ≡ true)
    → live_of s (removed_record n a) ≡ live_of s a
lives_one n sid s a away own =
    by_test (λ t. (not (a.removed || t) && same_sid a.sid s) ≡ live_of s a) (a.serial == n)
    (λ here. let parts = and_parts (not a.removed) (same_sid a.sid sid) (own here) in
    let none : same_sid a.sid s ≡ false = no_other sid s a.sid parts.1 away in
    ap (λ t. not (a.removed || true) && t) none ∙ (and-false (not (a.removed || true))
    ∙ (sym (and-false (not a.removed)) ∙ ap (λ t. not a.removed && t) (sym none))))
    (λ other. ap (λ t. not t && same_sid a.sid s) (or_none a.removed))

lives_other : (n : ℕ) (sid s : Sid) (records : List Record) → s ≢ sid → AllByRecursion (λ a. (a.serial == n) ≡ true
    → live_of sid a ≡ true) records → lives (removed_records n records) s ≡ lives records s
lives_other n sid s [] away own = refl
lives_other n sid s (r ∷ rs) away own = ap (λ t. t || lives (removed_records n rs) s) (lives_one n sid s r away own.0)
    ∙ ap (λ t. live_of s r || t) (lives_other n sid s rs away own.1)

-- ---- ranges

one_line_self : (a : Sid) → one_line a a ≡ true
one_line_self a =
    by_test (λ t. (if t then a.branch == 0 else a.release == a.release && (a.level == a.level && a.branch == a.branch))
    ≡ true) (a.branch == 0)
    (λ trunk. trunk)
    (λ branch. all_true (a.release == a.release) (a.level == a.level) (a.branch == a.branch)
    (eq-eqb a.release a.release refl) (eq-eqb a.level a.level refl) (eq-eqb a.branch a.branch refl))
  where
    all_true : (x y z : Bool) → x ≡ true → y ≡ true → z ≡ true → (x && (y && z)) ≡ true
    all_true x y z one two three = ap (λ t. t && (y && z)) one ∙ (ap (λ t. t && z) two ∙ three)

not_after_self : (a : Sid) → not_after a a ≡ true
not_after_self a =
    by_test (λ t. (if t then nat_lt a.release a.release || (a.release == a.release && nat_le a.level a.level)
    else nat_le a.sequence a.sequence) ≡ true) (a.branch == 0)
    (λ trunk. last_true (nat_lt a.release a.release) (a.release == a.release) (nat_le a.level a.level)
    (eq-eqb a.release a.release refl) (le-leb a.level a.level (omega arith)))
    (λ branch. le-leb a.sequence a.sequence (omega arith))
  where
    last_true : (x y z : Bool) → y ≡ true → z ≡ true → (x || (y && z)) ≡ true
    last_true true y z two three = refl
    last_true false y z two three = ap (λ t. t && z) two ∙ three

-- What a range without a fault says: its ends are live and on one line, in order.
record IsRange (records : List Record) (range : Range) : Type 0 where
  first : lives records range.first ≡ true
  last : lives records range.last ≡ true
  line : one_line range.first range.last ≡ true
  order : not_after range.first range.last ≡ true

abbrev fault_by : Range → Bool → Bool → Option Sid
fault_by range t u = if not t then Some range.first else (if u then None else Some range.last)

range_is : (records : List Record) (range : Range) → is_none (range_fault records range) ≡ true → IsRange records range
range_is records range is = by_both (lives records range.first) (lives records range.last
    && (one_line range.first range.last && not_after range.first range.last)) refl refl is
  where
    by_both : (t u : Bool) → lives records range.first ≡ t
        → (lives records range.last && (one_line range.first range.last && not_after range.first range.last)) ≡ u
        → is_none (fault_by range t u) ≡ true → IsRange records range
    by_both true true one two none =
        let parts = and_parts (lives records range.last) (one_line range.first range.last
        && not_after range.first range.last) two in
        let rest = and_parts (one_line range.first range.last) (not_after range.first range.last) parts.1 in
        record { first = one; last = parts.0; line = rest.0; order = rest.1 }
    by_both true false one two none = absurd (false≢true none)
    by_both false u one two none = absurd (false≢true none)

is_range : (records : List Record) (range : Range) → IsRange records range → is_none (range_fault records range) ≡ true
is_range records range is =
    ap (λ t. is_none (fault_by range t (lives records range.last && (one_line range.first range.last
    && not_after range.first range.last)))) is.first
    ∙ ap (λ u. is_none (fault_by range true u)) (and_from (lives records range.last) (one_line range.first range.last
    && not_after range.first range.last) is.last (and_from (one_line range.first range.last)
    (not_after range.first range.last) is.line is.order))

-- the ends of a range that doesn't go over a SID are others
first_other : (records : List Record) (range : Range) (sid : Sid) → IsRange records range → in_range range sid ≡ false
    → range.first ≢ sid
first_other records range sid is out same =
    false≢true (sym out ∙ (ap (in_range range) (sym same)
    ∙ and_from (one_line range.first range.first) (not_after range.first range.first
    && not_after range.first range.last) (one_line_self range.first) (and_from (not_after range.first range.first)
    (not_after range.first range.last) (not_after_self range.first) is.order)))

last_other : (records : List Record) (range : Range) (sid : Sid) → IsRange records range → in_range range sid ≡ false
    → range.last ≢ sid
last_other records range sid is out same =
    false≢true (sym out ∙ (ap (in_range range) (sym same)
    ∙ and_from (one_line range.first range.last) (not_after range.first range.last && not_after range.last range.last)
    is.line (and_from (not_after range.first range.last) (not_after range.last range.last) is.order
    (not_after_self range.last))))

module _ (n : ℕ) (sid : Sid) (records : List Record) (own : AllByRecursion (λ a. (a.serial == n) ≡ true
    → live_of sid a ≡ true) records) where
  range_kept : (range : Range) → in_range range sid ≡ false → is_none (range_fault records range) ≡ true
      → is_none (range_fault (removed_records n records) range) ≡ true
  range_kept range out fine =
      let is = range_is records range fine in
      is_range (removed_records n records) range (record {
        first = lives_other n sid range.first records (first_other records range sid is out) own ∙ is.first;
        last = lives_other n sid range.last records (last_other records range sid is out) own ∙ is.last;
        line = is.line;
        order = is.order;
      })

  ranges_kept : (ranges : List Range) → is_listed ranges sid ≡ false → are_ranges records ranges ≡ true
      → are_ranges (removed_records n records) ranges ≡ true
  ranges_kept [] out fine = fine
  ranges_kept (range ∷ ranges) out fine =
      let outs = or_parts (in_range range sid) (is_listed ranges sid) out in
      let fines = and_parts (is_none (range_fault records range)) (are_ranges records ranges) fine in
      and_from (is_none (range_fault (removed_records n records) range)) (are_ranges (removed_records n records) ranges)
      (range_kept range outs.0 fines.0) (ranges_kept ranges outs.1 fines.1)

-- ---- SIDs in and_from lists

shared_before : (n : ℕ) (include exclude : List Range) (records : List Record)
    → share_sid (removed_records n records) include exclude ≡ true → share_sid records include exclude ≡ true
shared_before n include exclude [] is = is
shared_before n include exclude (r ∷ rs) is =
    either (not (r.removed || r.serial == n) && (is_listed include r.sid && is_listed exclude r.sid))
    (share_sid (removed_records n rs) include exclude)
    (not r.removed && (is_listed include r.sid && is_listed exclude r.sid)) (share_sid rs include exclude)
    (still_live r.removed (r.serial == n) (is_listed include r.sid && is_listed exclude r.sid))
    (shared_before n include exclude rs) is

not_shared : (n : ℕ) (include exclude : List Range) (records : List Record) → not (share_sid records include exclude)
    ≡ true → not (share_sid (removed_records n records) include exclude) ≡ true
not_shared n include exclude records is = contrary (share_sid (removed_records n records) include exclude)
    (share_sid records include exclude) (shared_before n include exclude records) is

-- ---- entries

module _ (n : ℕ) (sid : Sid) (records : List Record) (own : AllByRecursion (λ a. (a.serial == n) ≡ true
    → live_of sid a ≡ true) records) where
  lists_kept : (e : Edit) → is_listed e.include sid ≡ false → is_listed e.exclude sid ≡ false
      → has_lists records e ≡ true → has_lists (removed_records n records) e ≡ true
  lists_kept e one two fine =
      let parts = and_parts (are_ranges records e.include) (are_ranges records e.exclude
      && not (share_sid records e.include e.exclude)) fine in
      let rest = and_parts (are_ranges records e.exclude) (not (share_sid records e.include e.exclude)) parts.1 in
      and_from (are_ranges (removed_records n records) e.include) (are_ranges (removed_records n records) e.exclude
      && not (share_sid (removed_records n records) e.include e.exclude))
      (ranges_kept n sid records own e.include one parts.0)
      (and_from (are_ranges (removed_records n records) e.exclude)
      (not (share_sid (removed_records n records) e.include e.exclude))
      (ranges_kept n sid records own e.exclude two rest.0) (not_shared n e.include e.exclude records rest.1))

  edit_kept : (edits : List Edit) (e : Edit)
      → (same_sid e.got sid || (is_listed e.include sid || is_listed e.exclude sid)) ≡ false
      → agrees records edits e ≡ true → agrees (removed_records n records) edits e ≡ true
  edit_kept edits e out fine =
      let outs = or_parts (same_sid e.got sid) (is_listed e.include sid || is_listed e.exclude sid) out in
      let listed = or_parts (is_listed e.include sid) (is_listed e.exclude sid) outs.1 in
      let away : e.got ≢ sid = λ same. false≢true (sym outs.0 ∙ (ap (same_sid e.got) (sym same) ∙ same_self e.got)) in
      let parts = and_parts (lives records e.got) (not (lives records e.made) && (makers edits e.made == 1
      && has_lists records e)) fine in
      let rest = and_parts (not (lives records e.made)) (makers edits e.made == 1 && has_lists records e) parts.1 in
      let last = and_parts (makers edits e.made == 1) (has_lists records e) rest.1 in
      and_from (lives (removed_records n records) e.got) (not (lives (removed_records n records) e.made)
      && (makers edits e.made == 1 && has_lists (removed_records n records) e))
      (lives_other n sid e.got records away own ∙ parts.0)
      (and_from (not (lives (removed_records n records) e.made)) (makers edits e.made == 1 && has_lists
      (removed_records n records) e) (not_lives n records e.made rest.0)
      (and_from (makers edits e.made == 1) (has_lists (removed_records n records) e) last.0
      (lists_kept e listed.0 listed.1 last.1)))

  edits_kept : (all edits : List Edit) → is_edited edits sid ≡ false → AllByRecursion (λ e. agrees records all e ≡ true)
      edits → AllByRecursion (λ e. agrees (removed_records n records) all e ≡ true) edits
  edits_kept all [] out each = tt
  edits_kept all (e ∷ edits) out each =
      let outs = or_parts (same_sid e.got sid || (is_listed e.include sid || is_listed e.exclude sid))
      (is_edited edits sid) out in
      (edit_kept all e outs.0 each.0, edits_kept all edits outs.1 each.1)

pub agreement_kept : (records : List Record) (sid : Sid) (r : Record) (edits : List Edit) → IsTable records
    → live_delta records sid ≡ Some r → Agrees records edits → is_edited edits sid ≡ false
    → Agrees (removed_records r.serial records) edits
agreement_kept records sid r edits table found agree out = edits_kept r.serial sid records
    (each_found (live_of sid) records 65536 r table.falls found) edits edits out agree
