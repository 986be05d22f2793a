-- A table with other MRs and comments: its serials, sets and live SIDs are those that they were, and it keeps the
-- rules.
use Rattle.std.proofs.Common.{◌≡◌, ℕ, ◌==◌, Bool, true, false, not, ◌&&◌, ◌||◌, List, [], ◌∷◌, ◌++◌, map, Option, None}
use Rattle.std.proofs.Common.{Some, cond, refl, sym, ap, ◌∙◌, subst}
use Rattle.std.specs.Prelude.{ℤ, if◌then◌else◌, unwrap_or}
use Rattle.std.specs.List.{AllByRecursion, list_all}
use Rattle.sccs_base.specs.Login.{IsLogin}
use Rattle.sccs_sid.specs.declared.moments.Stamp.{Stamp}
use Rattle.sccs_sid.specs.declared.sids.Sid.{Sid}
use Rattle.sccs_history.specs.Applied.{Asked, applied, applied_below, is_barred, listed, live_serials, named, path}
use Rattle.sccs_history.specs.Applied.{says, serials_of}
use Rattle.sccs_history.specs.History.{AreLines, HasSpelling, IsHeader, IsRecord, IsSpelled, IsTable, has_own_sids}
use Rattle.sccs_history.specs.History.{is_rooted, lives, same_sid}
use Rattle.sccs_history.specs.Numbers.{Falls, front_if, has, is_empty}
use Rattle.sccs_history.specs.declared.headers.Header.{Header}
use Rattle.sccs_history.specs.declared.headers.Record.{Record}
use Rattle.sccs_alter.specs.Changes.{AreSameDeltas, bare_record, before_old, changed_mrs, changed_record}
use Rattle.sccs_alter.specs.Changes.{changed_records, new_lines, with_changes}
use Rattle.sccs_alter.specs.declared.changes.TextChanges.{TextChanges}
use Rattle.sccs_alter.proofs.TextLaws.{before_lines, changed_lines, new_are_lines}

-- ---- without MRs and comments

bare_serials : (records : List Record) → serials_of (map bare_record records) ≡ serials_of records
bare_serials [] = refl
bare_serials (r ∷ rs) = ap (λ l. r.serial ∷ l) (bare_serials rs)

bare_live : (records : List Record) → live_serials (map bare_record records) ≡ live_serials records
bare_live [] = refl
bare_live (r ∷ rs) = ap (front_if (not r.removed) r.serial) (bare_live rs)

bare_lives : (records : List Record) (sid : Sid) → lives (map bare_record records) sid ≡ lives records sid
bare_lives [] sid = refl
bare_lives (r ∷ rs) sid = ap (λ t. (not r.removed && same_sid r.sid sid) || t) (bare_lives rs sid)

bare_own : (records : List Record) → has_own_sids (map bare_record records) ≡ has_own_sids records
bare_own [] = refl
bare_own (r ∷ rs) =
    ap (λ t. (r.removed || not t) && has_own_sids (map bare_record rs)) (bare_lives rs r.sid)
    ∙ ap (λ t. (r.removed || not (lives rs r.sid)) && t) (bare_own rs)

bare_path : (wanted : ℕ) (records : List Record) → path wanted (map bare_record records) ≡ path wanted records
bare_path wanted [] = refl
bare_path wanted (r ∷ rs) = ap (front_if (r.serial == wanted) r.serial)
    (bare_path (if r.serial == wanted then r.predecessor else wanted) rs)

bare_named : (records : List Record) (n : ℕ) → named (map bare_record records) n ≡ named records n
bare_named [] n = refl
bare_named (r ∷ rs) n = ap (listed r.include r.exclude n) (bare_named rs n)

barred_same : (cutoff : Option ℤ) (r : Record) → is_barred cutoff (bare_record r) ≡ is_barred cutoff r
barred_same None r = refl
barred_same (Some last) r = refl

bare_says : (asked : Asked) (way : List ℕ) (above : List Record) (r : Record) → says asked way (map bare_record above)
    (bare_record r) ≡ says asked way above r
bare_says asked way above r =
    ap (λ t. not t && unwrap_or (listed asked.include asked.exclude r.serial (named (map bare_record above) r.serial))
    (has way r.serial)) (barred_same asked.cutoff r)
    ∙ ap (λ o. not (is_barred asked.cutoff r) && unwrap_or (listed asked.include asked.exclude r.serial o)
    (has way r.serial)) (bare_named above r.serial)

bare_last : (above : List Record) (r : Record) → map bare_record above ++ bare_record r ∷ [] ≡ map bare_record
    (above ++ r ∷ [])
bare_last [] r = refl
bare_last (a ∷ above) r = ap (λ l. bare_record a ∷ l) (bare_last above r)

bare_above : (t : Bool) (above : List Record) (r : Record) → cond t (map bare_record above ++ bare_record r ∷ [])
    (map bare_record above) ≡ map bare_record (cond t (above ++ r ∷ []) above)
bare_above true above r = bare_last above r
bare_above false above r = refl

bare_below : (asked : Asked) (way : List ℕ) (above records : List Record) → applied_below asked way
    (map bare_record above) (map bare_record records) ≡ applied_below asked way above records
bare_below asked way above [] = refl
bare_below asked way above (r ∷ rs) =
    ap (λ t. front_if t r.serial (applied_below asked way (cond t (map bare_record above ++ bare_record r ∷ [])
    (map bare_record above)) (map bare_record rs))) (bare_says asked way above r)
    ∙ ap (front_if (says asked way above r) r.serial)
    (ap (λ more. applied_below asked way more (map bare_record rs)) (bare_above (says asked way above r) above r)
    ∙ bare_below asked way (cond (says asked way above r) (above ++ r ∷ []) above) rs)

bare_applied : (asked : Asked) (records : List Record) → applied asked (map bare_record records) ≡ applied asked records
bare_applied asked records =
    ap (λ way. applied_below asked way [] (map bare_record records)) (bare_path asked.target records)
    ∙ bare_below asked (path asked.target records) [] records

bare_each : (ls : List ℕ) (records : List Record) → list_all (λ r. r.removed || has (0 ∷ ls) r.predecessor)
    (map bare_record records) ≡ list_all (λ r. r.removed || has (0 ∷ ls) r.predecessor) records
bare_each ls [] = refl
bare_each ls (r ∷ rs) = ap (λ t. (r.removed || has (0 ∷ ls) r.predecessor) && t) (bare_each ls rs)

bare_rooted : (records : List Record) → is_rooted (map bare_record records) ≡ is_rooted records
bare_rooted records = ap (λ ls. list_all (λ r. r.removed || has (0 ∷ ls) r.predecessor) (map bare_record records))
    (bare_live records) ∙ bare_each (live_serials records) records

-- ---- tables that are the same but for MRs and comments

-- what is so of all records without them is so of both tables
same_by : {A : Type 0} (f : List Record → A) (records others : List Record)
    → ((rs : List Record) → f (map bare_record rs) ≡ f rs) → AreSameDeltas records others → f records ≡ f others
same_by f records others bare same = sym (bare records) ∙ (ap f same ∙ bare others)

pub same_serials : (records others : List Record) → AreSameDeltas records others
    → serials_of records ≡ serials_of others
same_serials records others same = same_by serials_of records others bare_serials same

pub same_live : (records others : List Record) → AreSameDeltas records others
    → live_serials records ≡ live_serials others
same_live records others same = same_by live_serials records others bare_live same

pub same_lives : (records others : List Record) (sid : Sid) → AreSameDeltas records others
    → lives records sid ≡ lives others sid
same_lives records others sid same = same_by (λ rs. lives rs sid) records others (λ rs. bare_lives rs sid) same

same_own : (records others : List Record) → AreSameDeltas records others → has_own_sids records ≡ has_own_sids others
same_own records others same = same_by has_own_sids records others bare_own same

pub same_applied : (asked : Asked) (records others : List Record) → AreSameDeltas records others
    → applied asked records ≡ applied asked others
same_applied asked records others same = same_by (applied asked) records others (bare_applied asked) same

pub same_rooted : (records others : List Record) → AreSameDeltas records others → is_rooted records ≡ is_rooted others
same_rooted records others same = same_by is_rooted records others bare_rooted same

-- ---- with changes

pub changes_same : (changes : TextChanges) (stamp : Stamp) (n : ℕ) (records : List Record)
    → AreSameDeltas (changed_records changes stamp n records) records
changes_same changes stamp n [] = refl
changes_same changes stamp n (r ∷ rs) = ap (λ l. bare_record r ∷ l) (changes_same changes stamp n rs)

changed_is : (changes : TextChanges) (stamp : Stamp) (n : ℕ) (all : List Record) (r : Record) → IsRecord all r
    → IsRecord (changed_records changes stamp n all) (changed_record changes stamp n r)
changed_is changes stamp n all r is = record {
  serial = is.serial;
  predecessor = ap (λ l. has (0 ∷ l) r.predecessor) (same_serials (changed_records changes stamp n all) all
      (changes_same changes stamp n all)) ∙ is.predecessor;
  older = is.older;
  include = is.include;
  exclude = is.exclude;
  ignore = is.ignore;
  apart = is.apart;
  inserted = is.inserted;
  deleted = is.deleted;
  unchanged = is.unchanged;
}

each_is : (changes : TextChanges) (stamp : Stamp) (n : ℕ) (all records : List Record)
    → AllByRecursion (IsRecord all) records → AllByRecursion (IsRecord (changed_records changes stamp n all))
    (changed_records changes stamp n records)
each_is changes stamp n all [] each = tt
each_is changes stamp n all (r ∷ rs) each = (
  changed_is changes stamp n all r each.0,
  each_is changes stamp n all rs
      each.1,
)

some_left : (changes : TextChanges) (stamp : Stamp) (n : ℕ) (records : List Record) → is_empty records ≡ false
    → is_empty (changed_records changes stamp n records) ≡ false
some_left changes stamp n [] some = some
some_left changes stamp n (r ∷ rs) some = refl

table_changed : (changes : TextChanges) (stamp : Stamp) (n : ℕ) (records : List Record) → IsTable records
    → IsTable (changed_records changes stamp n records)
table_changed changes stamp n records is =
    let same : AreSameDeltas (changed_records changes stamp n records) records = changes_same changes stamp n records in
    record {
      some = some_left changes stamp n records is.some;
      falls = subst (Falls 65536) (sym (same_serials (changed_records changes stamp n records) records same)) is.falls;
      each = each_is changes stamp n records records is.each;
      sids = same_own (changed_records changes stamp n records) records same ∙ is.sids;
    }

pub header_changed : (changes : TextChanges) (stamp : Stamp) (n : ℕ) (header : Header) → IsHeader header
    → IsHeader (with_changes changes stamp n header)
header_changed changes stamp n header is = record {
  rules = record {
    table = table_changed changes stamp n header.records is.rules.table;
    flags = is.rules.flags;
    letters = is.rules.letters;
    users = is.rules.users;
    description = is.rules.description;
  };
  plain = is.plain;
}

-- ---- spellings

either_lines : (t : Bool) (new old : List (List ℕ)) → AreLines new → AreLines old → AreLines (if t then new else old)
either_lines true new old news olds = news
either_lines false new old news olds = olds

module _ (changes : TextChanges) (stamp : Stamp) (n : ℕ) (mrs : AreLines changes.mrs)
    (comment : AreLines changes.comment) (login : IsLogin stamp.login) where
  record_spelled : (r : Record) → HasSpelling r → HasSpelling (changed_record changes stamp n r)
  record_spelled r is = record {
    sid = is.sid;
    moment = is.moment;
    login = is.login;
    mrs = either_lines (r.serial == n) (changed_mrs changes.mrs r.mrs) r.mrs
        (changed_lines changes.mrs r.mrs mrs is.mrs) is.mrs;
    comments = either_lines (r.serial == n) (before_old stamp (new_lines changes r) r.comments) r.comments
        (before_lines stamp (new_lines changes r) r.comments login (new_are_lines changes r mrs comment) is.comments)
        is.comments;
  }

  each_spelled : (records : List Record) → AllByRecursion HasSpelling records → AllByRecursion HasSpelling
      (changed_records changes stamp n records)
  each_spelled [] each = tt
  each_spelled (r ∷ rs) each = (record_spelled r each.0, each_spelled rs each.1)

pub spelled_changed : (changes : TextChanges) (stamp : Stamp) (n : ℕ) (header : Header) → AreLines changes.mrs
    → AreLines changes.comment → IsLogin stamp.login → IsSpelled header
    → IsSpelled (with_changes changes stamp n header)
spelled_changed changes stamp n header mrs comment login is =
    record {
      records = each_spelled changes stamp n mrs comment login header.records is.records;
      users = is.users;
      flags = is.flags;
      description = is.description;
    }
