-- The text of a delta, and the deltas of a table.
use Rattle.std.proofs.Common.{◌≡◌, ℕ, zero, suc, ◌<◌, ◌≤◌, Bool, true, false, not, cond, ◌||◌, ◌==◌, List, [], ◌∷◌}
use Rattle.std.proofs.Common.{length, take, get_or, Option, None, Err, eq-eqb, refl, sym, ap, subst, ◌∙◌, arith}
use Rattle.std.specs.List.{AllByRecursion}
use Rattle.sccs_base.specs.Stream.{GivesSome}
use Rattle.sccs_history.specs.Applied.{applied, live_serials, version, version_of}
use Rattle.sccs_history.specs.Body.{HistoryLine, lines_of}
use Rattle.sccs_history.specs.History.{HasSpelling}
use Rattle.sccs_history.specs.Numbers.{front_if, has}
use Rattle.sccs_history.specs.Select.{select, shows}
use Rattle.sccs_history.specs.declared.headers.Item.{Item}
use Rattle.sccs_history.specs.declared.headers.Record.{Record}
use Rattle.sccs_tokens.specs.Written.{bytes_of}
use Rattle.sccs_sid.specs.declared.refusals.StepFault.{StepFault}
use Rattle.sccs_sid.specs.declared.refusals.StepFault.TheVariants.{Refused, Memory, ReadFault, WriteFault, DiskFault}
use Rattle.sccs_keywords.specs.Forms.{bare_form, texts}
use Rattle.sccs_keywords.proofs.TextLaws.{as_they_are}
use Rattle.sccs_versions.specs.Coming.{IsBody, shown}
use Rattle.sccs_printing.specs.Printing.{version_text}
use Rattle.sccs_printing.specs.Targets.{Prints as PrintsTo}
use Rattle.sccs_printing.specs.declared.shown.Shown.{Shown}
use Rattle.sccs_disk.specs.Told.{Told, seen}
use Rattle.sccs_table.specs.ReaderState.{bytes_in}
use Rattle.sccs_table.specs.declared.fronts.Front.{Front}
use Rattle.sccs_prs.specs.Gives.{IsListedFile, PrintsAll}
use Rattle.sccs_prs.specs.PrsText.{ShownFile, delta_lines}
use Rattle.sccs_prs.specs.Shown.{IsShown}

-- ---- the text

texts_shown : (set : List ℕ) (lines : List HistoryLine) → texts (shown set lines) ≡ select set lines
texts_shown set [] = refl
texts_shown set (line ∷ lines) = by (shows set line) (texts_shown set lines)
  where
    by : (b : Bool) → texts (shown set lines) ≡ select set lines → texts (front_if b line (shown set lines))
        ≡ front_if b line.text (select set lines)
    by true rest = ap (λ (t : List (List ℕ)). line.text ∷ t) rest
    by false rest = rest

pub bare_text : (records : List Record) (set : List ℕ) (lines : List HistoryLine) → version_text bare_form records
    (shown set lines) ≡ bytes_of (select set lines)
bare_text records set lines = as_they_are records 1 (shown set lines) ∙ ap bytes_of (texts_shown set lines)

-- that of a delta that lives
pub live_text : (s : ShownFile) (r : Record) (set : List ℕ) → r.removed ≡ false
    → set ≡ applied (version_of r.serial) s.header.records → version_text bare_form s.header.records
    (shown set (lines_of s.items)) ≡ delta_lines s r
live_text s r set lives is =
    bare_text s.header.records set (lines_of s.items)
    ∙ (ap (λ (t : List ℕ). bytes_of (select t (lines_of s.items))) is
    ∙ ap (λ (b : Bool). cond b [] (bytes_of (version r.serial s.header.records (lines_of s.items)))) (sym lives))

pub prints_so : (x y : List ℕ) (fault : StepFault) (a b : Option (List ℕ)) → x ≡ y → PrintsTo {T = Shown} None x
    (Err fault) a b → PrintsAll {T = Unit {0}} y (Err fault) a b
prints_so x y Memory a b same some = subst (λ t. GivesSome a b t) same some
prints_so x y DiskFault a b same some = subst (λ t. GivesSome a b t) same some
prints_so x y WriteFault a b same some = subst (λ t. GivesSome a b t) same some
prints_so x y ReadFault a b same some = absurd some
prints_so x y (Refused refusal) a b same some = absurd some

-- the same body, by a set without 0
pub with_set : (told : Option (List ℕ)) (front : Front) (file : List ℕ) (items : List Item) (set : List ℕ)
    → has set 0 ≡ false → IsListedFile told front file items → IsBody told front set file items
with_set told front file items set none is =
    record { told_is = is.told_is; front_is = is.front_is; items_are = is.items_are; no_zero = none }

-- ---- the deltas of a table

pub has_more : (b : Bool) (m n : ℕ) (ms : List ℕ) → has ms n ≡ true → has (front_if b m ms) n ≡ true
has_more true m n ms is = by (m == n) is
  where
    by : (t : Bool) → has ms n ≡ true → (t || has ms n) ≡ true
    by true is = refl
    by false is = is
has_more false m n ms is = is

pub has_first : (r : Record) (ms : List ℕ) → r.removed ≡ false → has (front_if (not r.removed) r.serial ms) r.serial
    ≡ true
has_first r ms lives = subst (λ (b : Bool). has (front_if (not b) r.serial ms) r.serial ≡ true) (sym lives)
    (ap (λ (t : Bool). t || has ms r.serial) (eq-eqb r.serial r.serial refl))

pub shown_at : (records : List Record) (i : ℕ) (d : Record) → AllByRecursion HasSpelling records → i < length records
    → IsShown records (get_or records i d)
shown_at [] i d each below = absurd (omega arith)
shown_at (r ∷ rs) zero d each below = record { spelled = each.0; lives = λ lives. has_first r (live_serials rs) lives }
shown_at (r ∷ rs) (suc i) d each below =
    let there : IsShown rs (get_or rs i d) = shown_at rs i d each.1 (omega arith) in
    record {
      spelled = there.spelled;
      lives = λ lives. has_more (not r.removed) r.serial (get_or rs i d).serial
          (live_serials rs) (there.lives lives);
    }

pub shown_in : (records items : List Record) → items ≡ records → (i : ℕ) (x d : Record)
    → AllByRecursion HasSpelling records → i < length items → x ≡ get_or items i d → IsShown records x
shown_in records items same i x d each below is =
    subst (λ (r : Record). IsShown records r) (ap (λ (l : List Record). get_or l i d) (sym same) ∙ sym is)
    (shown_at records i d each (subst (λ (l : List Record). i < length l) same below))

-- the same file, over a disk that tells the same
pub read_still : (t t2 : Told) (n : List ℕ) (front : Front) (file : List ℕ) (items : List Item) → t2 ≡ t
    → IsListedFile (bytes_in (seen t) n) front file items → IsListedFile (bytes_in (seen t2) n) front file items
read_still t t2 n front file items same is = subst (λ (u : Told). IsListedFile (bytes_in (seen u) n) front file items)
    (sym same) is

pub take_all : {X : Type 0} (xs : List X) (i : ℕ) → length xs ≤ i → take i xs ≡ xs
take_all [] zero le = refl
take_all [] (suc i) le = refl
take_all (x ∷ xs) zero le = absurd (omega arith)
take_all (x ∷ xs) (suc i) le = ap (λ rest. x ∷ rest) (take_all xs i (omega arith))
