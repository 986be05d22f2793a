-- Where no live delta rests on a delta, its removal leaves each other set and version as it was.
use Rattle.std.proofs.Common.{◌≡◌, ◌≢◌, ℕ, ◌<◌, ◌≤◌, ◌==◌, Bool, true, false, not, ◌&&◌, ◌||◌, List, [], ◌∷◌, ◌++◌}
use Rattle.std.proofs.Common.{refl, sym, ap, ◌∙◌, arith, ℤ, int_lt, Option, None, Some, unwrap_or}
use Rattle.std.specs.Prelude.{if◌then◌else◌}
use Rattle.std.specs.List.{AllByRecursion, list_all}
use Rattle.std.proofs.Math.Bool.{and-false}
use Rattle.std.proofs.lemmas.Bool.{eqb-true, false≢true, ne_eqb, and_parts, not-true, or_left, or_right}
use Rattle.sccs_history.specs.Applied.{Asked, applied, applied_below, is_barred, listed, live_serials, named, path}
use Rattle.sccs_history.specs.Applied.{says, serials_of, version_of}
use Rattle.sccs_history.specs.Body.{HistoryLine}
use Rattle.sccs_history.specs.History.{IsRecord, IsTable, is_rooted}
use Rattle.sccs_history.specs.Numbers.{Falls, front_if, has, without}
use Rattle.sccs_history.specs.Removal.{dropped_lines}
use Rattle.sccs_history.specs.Select.{select}
use Rattle.sccs_history.specs.declared.headers.Record.{Record}
use Rattle.sccs_history.proofs.AppliedSets.{applied_live, falls_front, has_head, has_other}
use Rattle.sccs_rmdel.specs.Leaves.{is_base, rests_on}
use Rattle.sccs_rmdel.specs.Removed.{KeepsVersions, removed_record, removed_records}
use Rattle.sccs_rmdel.proofs.DroppedItems.{by_test, has-without, has-without_own}
use Rattle.sccs_rmdel.proofs.DroppedSets.{selects_same}
use Rattle.sccs_rmdel.proofs.RemovedTables.{each_not, live_removed, not_taken_in, other_base, path_removed}

-- ---- what a set says of one record

named_same : (n : ℕ) (above : List Record) (m : ℕ) → named (removed_records n above) m ≡ named above m
named_same n [] m = refl
named_same n (r ∷ rs) m = ap (listed r.include r.exclude m) (named_same n rs m)

-- of another record it says the same
says_other : (a : Asked) (way : List ℕ) (n : ℕ) (above : List Record) (r : Record) → (r.serial == n) ≡ false
    → says a way (removed_records n above) (removed_record n r) ≡ says a way above r
says_other a way n above r other =
    ap (λ t. not (barred t) && unwrap_or (listed a.include a.exclude r.serial
    (named (removed_records n above) r.serial)) (has way r.serial)) (no_more r.removed (r.serial == n) other)
    ∙ ap (λ said. not (is_barred a.cutoff r) && unwrap_or (listed a.include a.exclude r.serial said) (has way r.serial))
    (named_same n above r.serial)
  where
    barred : Bool → Bool
    barred t = is_barred a.cutoff (record r { removed = t })

    no_more : (x y : Bool) → y ≡ false → (x || y) ≡ x
    no_more true y is = refl
    no_more false y is = is

-- a removed record is out
barred_removed : (cutoff : Option ℤ) (r : Record) → r.removed ≡ true → is_barred cutoff r ≡ true
barred_removed None r is = is
barred_removed (Some last) r is = or_left r.removed (int_lt last r.moment.seconds) is

says_own : (a : Asked) (way : List ℕ) (n : ℕ) (above : List Record) (r : Record) → (r.serial == n) ≡ true
    → says a way (removed_records n above) (removed_record n r) ≡ false
says_own a way n above r own =
    ap (λ t. not t && unwrap_or (listed a.include a.exclude r.serial (named (removed_records n above) r.serial))
    (has way r.serial)) (barred_removed a.cutoff (removed_record n r) (or_right r.removed (r.serial == n) own))

-- none of the records takes the serial in
abbrev NotTaken : ℕ → List Record → Type 0
NotTaken n above = AllByRecursion (λ r. has r.include n ≡ false) above

out_by : (include exclude : List ℕ) (n : ℕ) (rest : Option Bool) → has include n ≡ false → unwrap_or rest false ≡ false
    → unwrap_or (listed include exclude n rest) false ≡ false
out_by include exclude n rest not_in out =
    ap (λ t. unwrap_or (if t then Some true else (if has exclude n then Some false else rest)) false) not_in
    ∙ left_out (has exclude n)
  where
    left_out : (t : Bool) → unwrap_or (if t then Some false else rest) false ≡ false
    left_out true = refl
    left_out false = out

named_out : (n : ℕ) (above : List Record) → NotTaken n above → unwrap_or (named above n) false ≡ false
named_out n [] none = refl
named_out n (r ∷ rs) none = out_by r.include r.exclude n (named rs n) none.0 (named_out n rs none.1)

-- nor does what is asked for, and it isn't on the target's path
not_said : (a : Asked) (way : List ℕ) (n : ℕ) (above : List Record) (r : Record) → (r.serial == n) ≡ true
    → has way n ≡ false → has a.include n ≡ false → NotTaken n above → says a way above r ≡ false
not_said a way n above r own off not_in none =
    ap (λ m. not (is_barred a.cutoff r) && unwrap_or (listed a.include a.exclude m (named above m)) (has way m))
    (eqb-true r.serial n own)
    ∙ (ap (λ t. not (is_barred a.cutoff r) && unwrap_or (listed a.include a.exclude n (named above n)) t) off
    ∙ (ap (λ t. not (is_barred a.cutoff r) && t) (out_by a.include a.exclude n (named above n) not_in
    (named_out n above none)) ∙ and-false (not (is_barred a.cutoff r))))

-- ---- the whole set

not_barred : (cutoff : Option ℤ) (r : Record) → not (is_barred cutoff r) ≡ true → r.removed ≡ false
not_barred None r free = not-true r.removed free
not_barred (Some last) r free = by_removed r.removed (int_lt last r.moment.seconds) free
  where
    by_removed : (x y : Bool) → not (x || y) ≡ true → x ≡ false
    by_removed true y is = absurd (false≢true is)
    by_removed false y is = refl

said_live : (a : Asked) (way : List ℕ) (above : List Record) (r : Record) → says a way above r ≡ true
    → r.removed ≡ false
said_live a way above r said = not_barred a.cutoff r (and_parts (not (is_barred a.cutoff r))
    (unwrap_or (listed a.include a.exclude r.serial (named above r.serial)) (has way r.serial)) said).0

taken_more : (n : ℕ) (above : List Record) (r : Record) → NotTaken n above → has r.include n ≡ false
    → NotTaken n (above ++ r ∷ [])
taken_more n [] r none not_in = (not_in, tt)
taken_more n (x ∷ above) r none not_in = (none.0, taken_more n above r none.1 not_in)

removed_more : (n : ℕ) (above : List Record) (r : Record) → removed_records n above ++ removed_record n r ∷ []
    ≡ removed_records n (above ++ r ∷ [])
removed_more n [] r = refl
removed_more n (x ∷ above) r = ap (λ l. removed_record n x ∷ l) (removed_more n above r)

below_same : (a : Asked) (way : List ℕ) (n : ℕ) (above records : List Record) → has way n ≡ false
    → has a.include n ≡ false → NotTaken n above → AllByRecursion (λ r. rests_on n r ≡ false) records
    → applied_below a way (removed_records n above) (removed_records n records) ≡ applied_below a way above records
below_same a way n above [] off not_in none free = refl
below_same a way n above (r ∷ rs) off not_in none free =
    by_test (λ t. applied_below a way (removed_records n above) (removed_records n (r ∷ rs)) ≡ applied_below a way above
    (r ∷ rs)) (r.serial == n)
    (λ own. passed (says a way (removed_records n above) (removed_record n r)) (says a way above r)
    (says_own a way n above r own) (not_said a way n above r own off not_in none)
    (below_same a way n above rs off not_in none free.1))
    (λ other. ap (λ t. step t (removed_records n above) (removed_record n r) (removed_records n rs))
    (says_other a way n above r other)
    ∙ by_test (λ t. step t (removed_records n above) (removed_record n r) (removed_records n rs) ≡ step t above r rs)
    (says a way above r)
    (λ said. ap (λ l. r.serial ∷ applied_below a way l (removed_records n rs)) (removed_more n above r)
    ∙ ap (λ l. r.serial ∷ l) (below_same a way n (above ++ r ∷ []) rs off not_in (taken_more n above r none
    (not_taken_in n r (said_live a way above r said) free.0)) free.1))
    (λ quiet. below_same a way n above rs off not_in none free.1))
  where
    step : Bool → List Record → Record → List Record → List ℕ
    step t above r rs = front_if t r.serial (applied_below a way (if t then above ++ r ∷ [] else above) rs)

    passed : (t u : Bool) → t ≡ false → u ≡ false → applied_below a way (removed_records n above) (removed_records n rs)
        ≡ applied_below a way above rs
        → step t (removed_records n above) (removed_record n r) (removed_records n rs) ≡ step u above r rs
    passed t u out out2 rest = ap (λ t. step t (removed_records n above) (removed_record n r) (removed_records n rs))
        out ∙ (rest ∙ ap (λ u. step u above r rs) (sym out2))

pub set_same : (a : Asked) (n : ℕ) (records : List Record) → is_base records n ≡ false → has (path a.target records) n
    ≡ false → has a.include n ≡ false → applied a (removed_records n records) ≡ applied a records
set_same a n records free off not_in =
    ap (λ way. applied_below a way [] (removed_records n records)) (path_removed n a.target records)
    ∙ below_same a (path a.target records) n [] records off not_in tt (each_not (rests_on n) records free)

-- ---- the path of a live delta

live_falls : (rs : List Record) (b : ℕ) → Falls b (serials_of rs) → Falls b (live_serials rs)
live_falls [] b falls = tt
live_falls (r ∷ rs) b falls = falls_front (not r.removed) r.serial (live_serials rs) b falls.0
    (live_falls rs r.serial falls.1)

-- a record of the table is live where its serial is
abbrev pub LiveIn : List ℕ → Record → Type 0
LiveIn ls r = has ls r.serial ≡ not r.removed

live_more : (t : Bool) (n : ℕ) (tail : List ℕ) (rs : List Record) (b : ℕ) → b ≤ n → Falls b (serials_of rs)
    → AllByRecursion (LiveIn tail) rs → AllByRecursion (LiveIn (front_if t n tail)) rs
live_more t n tail [] b le falls each = tt
live_more t n tail (r ∷ rs) b le falls each = (
  has_other t n r.serial tail (omega (arith, falls.0))
      ∙ each.0,
  live_more t n tail rs r.serial (omega (arith, falls.0)) falls.1 each.1,
)

pub live_self : (rs : List Record) (b : ℕ) → Falls b (serials_of rs) → AllByRecursion (LiveIn (live_serials rs)) rs
live_self [] b falls = tt
live_self (r ∷ rs) b falls = (
  has_head (not r.removed) r.serial (live_serials rs) (live_falls rs r.serial falls.1),
  live_more (not r.removed) r.serial (live_serials rs) rs r.serial (omega arith) falls.1
      (live_self rs r.serial falls.1),
)

-- What is known of a record of a rooted table whose live serials are these.
record Rooted (n : ℕ) (ls : List ℕ) (r : Record) : Type 0 where
  some : 0 < r.serial
  lives : LiveIn ls r
  root : (r.removed || has (0 ∷ ls) r.predecessor) ≡ true
  free : rests_on n r ≡ false

each_rooted : (n : ℕ) (ls : List ℕ) (all records : List Record) → AllByRecursion (IsRecord all) records
    → AllByRecursion (LiveIn ls) records → list_all (λ r. r.removed || has (0 ∷ ls) r.predecessor) records ≡ true
    → AllByRecursion (λ r. rests_on n r ≡ false) records
    → AllByRecursion (Rooted n ls) records
each_rooted n ls all [] each live roots free = tt
each_rooted n ls all (r ∷ rs) each live roots free =
    let parts = and_parts (r.removed || has (0 ∷ ls) r.predecessor)
    (list_all (λ r. r.removed || has (0 ∷ ls) r.predecessor) rs) roots in (
      record { some = each.0.serial; lives = live.0; root = parts.0; free = free.0 },
      each_rooted n ls all rs each.1
          live.1 parts.1 free.1,
    )

-- a record whose serial is live is live, and its predecessor is 0 or live, and another than the serial
at_live : (n wanted : ℕ) (ls : List ℕ) (r : Record) → Rooted n ls r → has (0 ∷ ls) wanted ≡ true
    → (r.serial == wanted) ≡ true → r.removed ≡ false
at_live n wanted ls r is live here =
    let same : r.serial ≡ wanted = eqb-true r.serial wanted here in
    let there : has (0 ∷ ls) r.serial ≡ true = ap (has (0 ∷ ls)) same ∙ live in
    let own : has ls r.serial ≡ true =
    sym (ap (λ t. t || has ls r.serial) (ne_eqb 0 r.serial (λ e. omega (arith, is.some)))) ∙ there in
    not-true r.removed (sym is.lives ∙ own)

next_root : (r : Record) (ls : List ℕ) → (r.removed || has (0 ∷ ls) r.predecessor) ≡ true → r.removed ≡ false
    → has (0 ∷ ls) r.predecessor ≡ true
next_root r ls root live = ap (λ t. t || has (0 ∷ ls) r.predecessor) (sym live) ∙ root

path_avoids : (n wanted : ℕ) (ls : List ℕ) (records : List Record) → AllByRecursion (Rooted n ls) records
    → has (0 ∷ ls) wanted ≡ true → (wanted == n) ≡ false → has (path wanted records) n ≡ false
path_avoids n wanted ls [] each live other = refl
path_avoids n wanted ls (r ∷ rs) each live other =
    by_test (λ t. has (front_if t r.serial (path (if t then r.predecessor else wanted) rs)) n ≡ false)
    (r.serial == wanted)
    (λ here. let is_live : r.removed ≡ false = at_live n wanted ls r each.0 live here in
    ap (λ t. t || has (path r.predecessor rs) n) (ap (λ m. m == n) (eqb-true r.serial wanted here) ∙ other)
    ∙ path_avoids n r.predecessor ls rs each.1 (next_root r ls each.0.root is_live)
    (other_base n r is_live each.0.free))
    (λ away. path_avoids n wanted ls rs each.1 live other)

-- ---- what is left

-- a live serial of the table without the serial is another, and was live
pub left_live : (n m : ℕ) (records : List Record) → has (live_serials (removed_records n records)) m ≡ true
    → ((m == n) ≡ false) × (has (live_serials records) m ≡ true)
left_live n m records live =
    let there : has (without n (live_serials records)) m ≡ true = ap (λ l. has l m) (sym (live_removed n records))
    ∙ live in
    let other : m ≢ n = λ same. false≢true (sym (has-without_own n (live_serials records))
    ∙ (ap (has (without n (live_serials records))) (sym same) ∙ there)) in
    (ne_eqb m n other, sym (has-without n m (live_serials records) other) ∙ there)

-- a set of the new table doesn't have the serial
out_of_set : (a : Asked) (n : ℕ) (records : List Record) → has (applied a (removed_records n records)) n ≡ false
out_of_set a n records =
    by_test (λ t. t ≡ false) (has (applied a (removed_records n records)) n)
    (λ there. absurd (false≢true (sym (has-without_own n (live_serials records))
    ∙ (ap (λ l. has l n) (sym (live_removed n records)) ∙ applied_live a (removed_records n records) n there))))
    (λ none. refl)

pub versions_kept : (n : ℕ) (records : List Record) (lines : List HistoryLine) → IsTable records
    → is_rooted records ≡ true → is_base records n ≡ false → KeepsVersions n records lines
versions_kept n records lines table rooted free = record {
  versions = λ m live. same_text (version_of m) (sets m live);
  sets = sets;
  asked = λ a off not_in. same_text a (set_same a n records free off not_in);
}
  where
    each : AllByRecursion (Rooted n (live_serials records)) records
    each = each_rooted n (live_serials records) records records table.each (live_self records 65536 table.falls) rooted
        (each_not (rests_on n) records free)

    same_text : (a : Asked) → applied a (removed_records n records) ≡ applied a records
        → select (applied a (removed_records n records)) (dropped_lines n lines) ≡ select (applied a records) lines
    same_text a same = selects_same (applied a (removed_records n records)) n lines (out_of_set a n records)
        ∙ ap (λ set. select set lines) same

    sets : (m : ℕ) → has (live_serials (removed_records n records)) m ≡ true
        → applied (version_of m) (removed_records n records) ≡ applied (version_of m) records
    sets m live =
        let was = left_live n m records live in
        set_same (version_of m) n records free (path_avoids n m (live_serials records) records each
        (or_right (0 == m) (has (live_serials records) m) was.1) was.0) refl
