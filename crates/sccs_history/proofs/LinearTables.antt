-- What the newest version of a table without branches, removals and lists shows.
use Rattle.std.proofs.Common.{◌≡◌, ℕ, zero, suc, ◌==◌, ◌<◌, nat_lt, Bool, true, false, cond, not, ◌&&◌, ◌||◌, List, []}
use Rattle.std.proofs.Common.{◌∷◌, ◌++◌, Option, None, unwrap_or, refl, sym, ap, ◌∙◌, eq-eqb}
use Rattle.std.specs.List.{AllByRecursion}
use Rattle.std.proofs.lemmas.Bool.{false≢true, or_left, or_right, and_left, cond_both}
use Rattle.sccs_history.specs.Numbers.{is_empty, front_if, falling, has, share}
use Rattle.sccs_history.specs.Body.{Mark, Closed, ByInsert, is_delete, mark, above, inserter, lines_behind, lines_of}
use Rattle.sccs_history.specs.Body.{GoesOn, IsLine, HistoryLine}
use Rattle.sccs_history.specs.Select.{shows, select}
use Rattle.sccs_history.specs.Applied.{path, listed, named, says, applied_below, applied, version_of, version}
use Rattle.sccs_history.specs.Applied.{serials_of, live_serials, newest}
use Rattle.sccs_history.specs.Linear.{IsPlainRecord, IsLinear, undeleted, has_no_delete, texts_of}
use Rattle.sccs_history.specs.declared.headers.Record.{Record}
use Rattle.sccs_history.specs.declared.headers.Item.{Item}
use Rattle.sccs_history.specs.declared.headers.Item.TheVariants.{Text, Insert, Delete, End}
use Rattle.sccs_history.proofs.LiveLines.{lines_of_live, begins_whole}

-- all of a linear table is on the path of its newest record
path_linear : (rs : List Record) → IsLinear rs → path (newest rs) rs ≡ serials_of rs
path_linear [] linear = refl
path_linear (r ∷ rs) linear =
    let same : (r.serial == r.serial) ≡ true = eq-eqb r.serial r.serial refl in
    ap (λ b. front_if b r.serial (path (cond b r.predecessor r.serial) rs)) same ∙ ap (λ l. r.serial ∷ l)
    (ap (λ n. path n rs) linear.1.0 ∙ path_linear rs linear.1.1)

listed_none : (include exclude : List ℕ) (n : ℕ) (o : Option Bool) → include ≡ [] → exclude ≡ []
    → listed include exclude n o ≡ o
listed_none include exclude n o none none2 = ap (λ i. listed i exclude n o) none ∙ ap (λ x. listed [] x n o) none2

-- plain records name no serial
named_none : (rs : List Record) (n : ℕ) → AllByRecursion IsPlainRecord rs → named rs n ≡ None
named_none [] n plain = refl
named_none (r ∷ rs) n plain = listed_none r.include r.exclude n (named rs n) plain.0.include plain.0.exclude
    ∙ named_none rs n plain.1

plain_more : (rs : List Record) (r : Record) → AllByRecursion IsPlainRecord rs → IsPlainRecord r
    → AllByRecursion IsPlainRecord (rs ++ r ∷ [])
plain_more [] r plain here = (here, tt)
plain_more (a ∷ rs) r plain here = (plain.0, plain_more rs r plain.1 here)

says_plain : (n : ℕ) (way : List ℕ) (above : List Record) (r : Record) → AllByRecursion IsPlainRecord above
    → IsPlainRecord r → has way r.serial ≡ true → says (version_of n) way above r ≡ true
says_plain n way above r plain here there =
    ap (λ b. not b && unwrap_or (named above r.serial) (has way r.serial)) here.live
    ∙ (ap (λ o. unwrap_or o (has way r.serial)) (named_none above r.serial plain) ∙ there)

applied_plain : (n : ℕ) (way : List ℕ) (above rs : List Record) → AllByRecursion IsPlainRecord above
    → AllByRecursion (λ r. IsPlainRecord r × (has way r.serial ≡ true)) rs
    → applied_below (version_of n) way above rs ≡ serials_of rs
applied_plain n way above [] plain each = refl
applied_plain n way above (r ∷ rs) plain each =
    ap (λ b. front_if b r.serial (applied_below (version_of n) way (cond b (above ++ r ∷ []) above) rs))
    (says_plain n way above r plain each.0.0 each.0.1)
    ∙ ap (λ l. r.serial ∷ l) (applied_plain n way (above ++ r ∷ []) rs (plain_more above r plain each.0.0) each.1)

-- each record of a linear table is plain, and its serial is among those of any list that has them all
linear_each : (rs : List Record) (way : List ℕ) → IsLinear rs → ((m : ℕ) → has (serials_of rs) m ≡ true
    → has way m ≡ true) → AllByRecursion (λ r. IsPlainRecord r × (has way r.serial ≡ true)) rs
linear_each [] way linear all = tt
linear_each (r ∷ rs) way linear all = (
  (
    linear.0,
    all r.serial (or_left (r.serial == r.serial) (has (serials_of rs) r.serial)
        (eq-eqb r.serial r.serial refl)),
  ),
  linear_each rs way linear.1.1 (λ m there. all m (or_right (r.serial == m) (has (serials_of rs) m) there)),
)

applied_linear : (rs : List Record) → IsLinear rs → applied (version_of (newest rs)) rs ≡ serials_of rs
applied_linear rs linear =
    ap (λ way. applied_below (version_of (newest rs)) way [] rs) (path_linear rs linear)
    ∙ applied_plain (newest rs) (serials_of rs) [] rs tt (linear_each rs (serials_of rs) linear (λ m there. there))

live_linear : (rs : List Record) → IsLinear rs → live_serials rs ≡ serials_of rs
live_linear [] linear = refl
live_linear (r ∷ rs) linear = ap (λ b. front_if (not b) r.serial (live_serials rs)) linear.0.live
    ∙ ap (λ l. r.serial ∷ l) (live_linear rs linear.1.1)

-- where all deleters are in a set, it shows the lines that have none
share_live : (live : List ℕ) (low : ℕ) (ds : List ℕ) → AllByRecursion (λ d. (has live d ≡ true) × (low < d)) ds
    → not (share ds live) ≡ is_empty ds
share_live live low [] each = refl
share_live live low (d ∷ ds) each = ap (λ b. not (b || share ds live)) each.0.0

shows_live : (live : List ℕ) (line : HistoryLine) → IsLine live line → shows live line ≡ is_empty line.deleters
shows_live live line is = ap (λ b. b && not (share line.deleters live)) is.inserter
    ∙ share_live live line.inserter line.deleters is.deleters

select_live : (live : List ℕ) (lines : List HistoryLine) → AllByRecursion (IsLine live) lines
    → select live lines ≡ undeleted lines
select_live live [] each = refl
select_live live (line ∷ lines) each =
    ap (λ b. front_if b line.text (select live lines)) (shows_live live line each.0)
    ∙ ap (λ l. front_if (is_empty line.deleters) line.text l) (select_live live lines each.1)

-- the newest version of a linear table has the lines that no delta deleted
pub version_linear : (rs : List Record) (lines : List HistoryLine) → IsLinear rs
    → AllByRecursion (IsLine (live_serials rs)) lines → version (newest rs) rs lines ≡ undeleted lines
version_linear rs lines linear each =
    ap (λ set. select set lines) (applied_linear rs linear ∙ sym (live_linear rs linear))
    ∙ select_live (live_serials rs) lines each

pub version_linear_body : (rs : List Record) (items : List Item) → IsLinear rs → GoesOn (live_serials rs) [] items
    → version (newest rs) rs (lines_of items) ≡ undeleted (lines_of items)
version_linear_body rs items linear goes =
    version_linear rs (lines_of items) linear (lines_of_live (live_serials rs) items
    (begins_whole (live_serials rs) [] items goes))

-- no serial is open by Delete behind these items
abbrev DeletesNothing : List Item → Type 0
DeletesNothing before = (n : ℕ) → is_delete (mark n before) ≡ false

none_more : (m n : ℕ) (here there : Mark) → is_delete here ≡ false → is_delete there ≡ false
    → is_delete (cond (m == n) here there) ≡ false
none_more m n here there e rest = cond_both (m == n) here there (λ k. is_delete k ≡ false) (λ _. e) (λ _. rest)

falling_none : (b : ℕ) (test : ℕ → Bool) → ((n : ℕ) → test n ≡ false) → is_empty (falling b test) ≡ true
falling_none zero test none = refl
falling_none (suc b) test none = ap (λ t. is_empty (front_if t b (falling b test))) (none b) ∙ falling_none b test none

undeleted_none : (before items : List Item) → DeletesNothing before → has_no_delete items ≡ true
    → undeleted (lines_behind before items) ≡ texts_of items
undeleted_none before [] none e = refl
undeleted_none before (Text text ∷ items) none e =
    let test : ℕ → Bool = λ n. is_delete (mark n before) && nat_lt (inserter before) n in
    ap (λ b. front_if b text (undeleted (lines_behind (Text text ∷ before) items))) (falling_none (above before) test
    (λ n. and_left (is_delete (mark n before)) (nat_lt (inserter before) n) (none n)))
    ∙ ap (λ l. text ∷ l) (undeleted_none (Text text ∷ before) items none e)
undeleted_none before (Insert m ∷ items) none e = undeleted_none (Insert m ∷ before) items (λ n. none_more m n ByInsert
    (mark n before) refl (none n)) e
undeleted_none before (Delete m ∷ items) none e = absurd (false≢true e)
undeleted_none before (End m ∷ items) none e = undeleted_none (End m ∷ before) items (λ n. none_more m n Closed
    (mark n before) refl (none n)) e

-- a body without Delete items has no deleted lines
pub undeleted_all : (items : List Item) → has_no_delete items ≡ true → undeleted (lines_of items) ≡ texts_of items
undeleted_all items e = undeleted_none [] items (λ n. refl) e
