-- Searches of lists, as code makes them.
use Rattle.std.proofs.Common.{◌≡◌, ◌≢◌, ℕ, zero, suc, ◌-◌, ◌<◌, ◌≤◌, ◌==◌, true, false, ◌||◌, List, [], ◌∷◌, length}
use Rattle.std.proofs.Common.{drop, get_or, Some, None, refl, sym, ap, ◌∙◌, arith, sub-one, eq-eqb}
use Rattle.std.specs.Prelude.{slice_get}
use Rattle.std.specs.List.{list_any}
use Rattle.std.proofs.lemmas.Bool.{or_right}
use Rattle.std.proofs.lemmas.List.{drop_all}
use Rattle.std.proofs.lemmas.List.Folds.{list_any_at}
use Rattle.sccs_history.specs.Numbers.{has, share}
use Rattle.sccs_history.specs.Applied.{serials_of}
use Rattle.sccs_history.specs.declared.headers.Record.{Record}
use Rattle.sccs_grammar.specs.Front.{least, dangling_predecessor}

pub has-any : (ns : List ℕ) (n : ℕ) → list_any (λ m. m == n) ns ≡ has ns n
has-any [] n = refl
has-any (m ∷ ns) n = ap (λ rest. m == n || rest) (has-any ns n)

pub share-any : (ms ns : List ℕ) → list_any (λ m. has ns m) ms ≡ share ms ns
share-any [] ns = refl
share-any (m ∷ ms) ns = ap (λ rest. has ns m || rest) (share-any ms ns)

pub serials-any : (records : List Record) (n : ℕ) → list_any (λ r. r.serial == n) records ≡ has (serials_of records) n
serials-any [] n = refl
serials-any (r ∷ records) n = ap (λ rest. r.serial == n || rest) (serials-any records n)

-- the serial of the record at a place is there
pub serial_there_at : (records : List Record) (at n : ℕ) (r : Record) → at < length records → r ≡ get_or records at r
    → r.serial ≡ n → has (0 ∷ serials_of records) n ≡ true
serial_there_at records at n r within is same =
    or_right (0 == n) (has (serials_of records) n) (sym (serials-any records n)
    ∙ list_any_at (λ (q : Record). q.serial == n) records at r within
    (eq-eqb _ n (ap (λ (q : Record). q.serial) (sym is) ∙ same)))

pub least-last : (bound : ℕ) (records : List Record) (r : Record) → slice_get records (length records - 1) ≡ Some r
    → r.serial ≡ least bound records
least-last bound [] r is = cc
least-last bound (q ∷ []) r is = let e : q ≡ r = cc in ap (λ (x : Record). x.serial) (sym e)
least-last bound (q ∷ p ∷ records) r is = least-last q.serial (p ∷ records) r (rw sub-one (rw sub-one at is))

-- ---- the first dangling_predecessor predecessor

-- the record and the line at a place of the table
record Stands (records : List Record) (lines : List ℕ) (at line : ℕ) (r : Record) : Type 0 where
  within : at < length records
  record_is : r ≡ get_or records at r
  lines_within : at < length lines
  line_is : line ≡ get_or lines at line

further : (q : Record) (n : ℕ) (records : List Record) (lines : List ℕ) (at line : ℕ) (r : Record)
    → Stands (q ∷ records) (n ∷ lines) (suc at) line r → Stands records lines at line r
further q n records lines at line r s =
    record {
      within = omega (arith, s.within);
      record_is = s.record_is;
      lines_within = omega (arith, s.lines_within);
      line_is = s.line_is;
    }

here_lost : (table : List Record) (records : List Record) (lines : List ℕ) (at line : ℕ) (r : Record)
    → Stands records lines at line r → has (0 ∷ serials_of table) r.predecessor ≡ false → dangling_predecessor table
    (drop at records) (drop at lines) ≡ Some line
unfolding dangling_predecessor
here_lost table [] lines at line r s gone = absurd (omega (arith, s.within))
here_lost table (q ∷ records) [] at line r s gone = absurd (omega (arith, s.lines_within))
here_lost table (q ∷ records) (n ∷ lines) zero line r s gone =
    let e : r ≡ q = s.record_is in let f : line ≡ n = s.line_is in rw (← e, gone, f) refl
here_lost table (q ∷ records) (n ∷ lines) (suc at) line r s gone = here_lost table records lines at line r
    (further q n records lines at line r s) gone

here_on : (table : List Record) (records : List Record) (lines : List ℕ) (at line : ℕ) (r : Record)
    → Stands records lines at line r → has (0 ∷ serials_of table) r.predecessor ≡ true → dangling_predecessor table
    (drop at records) (drop at lines) ≡ dangling_predecessor table (drop (suc at) records) (drop (suc at) lines)
unfolding dangling_predecessor
here_on table [] lines at line r s there = absurd (omega (arith, s.within))
here_on table (q ∷ records) [] at line r s there = absurd (omega (arith, s.lines_within))
here_on table (q ∷ records) (n ∷ lines) zero line r s there = let e : r ≡ q = s.record_is in rw (← e, there) refl
here_on table (q ∷ records) (n ∷ lines) (suc at) line r s there = here_on table records lines at line r
    (further q n records lines at line r s) there

pub lost_here : (table : List Record) (lines : List ℕ) (at line : ℕ) (r : Record) → at < length table
    → r ≡ get_or table at r → at < length lines → line ≡ get_or lines at line → has (0 ∷ serials_of table) r.predecessor
    ≡ false → dangling_predecessor table (drop at table) (drop at lines) ≡ Some line
lost_here table lines at line r within is lines_within line_is gone =
    here_lost table table lines at line r
    (record { within = within; record_is = is; lines_within = lines_within; line_is = line_is }) gone

pub lost_on : (table : List Record) (lines : List ℕ) (at line : ℕ) (r : Record) → at < length table
    → r ≡ get_or table at r → at < length lines → line ≡ get_or lines at line → has (0 ∷ serials_of table) r.predecessor
    ≡ true → dangling_predecessor table (drop at table) (drop at lines) ≡ dangling_predecessor table
    (drop (suc at) table) (drop (suc at) lines)
lost_on table lines at line r within is lines_within line_is there =
    here_on table table lines at line r
    (record { within = within; record_is = is; lines_within = lines_within; line_is = line_is }) there

lost_empty : (table records : List Record) → dangling_predecessor table records [] ≡ None
unfolding dangling_predecessor
lost_empty table [] = refl
lost_empty table (r ∷ records) = refl

pub lost_no_line : (table records : List Record) (lines : List ℕ) (at : ℕ) → length lines ≤ at
    → dangling_predecessor table records (drop at lines) ≡ None
lost_no_line table records lines at past = rw (drop_all at lines past) (lost_empty table records)

lost_none : (table : List Record) (lines : List ℕ) → dangling_predecessor table [] lines ≡ None
unfolding dangling_predecessor
lost_none table lines = refl

pub lost_end : (table records : List Record) (lines : List ℕ) (at : ℕ) → length records ≤ at
    → dangling_predecessor table (drop at records) lines ≡ None
lost_end table [] lines zero past = lost_none table lines
lost_end table [] lines (suc at) past = lost_none table lines
lost_end table (r ∷ records) lines zero past = absurd (omega arith)
lost_end table (r ∷ records) lines (suc at) past = lost_end table records lines at (omega arith)
