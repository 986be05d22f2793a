-- The header of the s-file of a trunk.
use Rattle.std.proofs.Common.{◌≡◌, ℕ, zero, suc, ◌<◌, List, [], ◌∷◌, ◌++◌, length, slice_get, slice_index_or, Some}
use Rattle.std.proofs.Common.{refl, sym, ap, subst, ◌∙◌, arith, append-nil, append_assoc}
use Rattle.std.specs.List.{AllByRecursion}
use Rattle.sccs_base.specs.Cut.{HasNoLf}
use Rattle.sccs_history.specs.Body.{HistoryLine}
use Rattle.sccs_history.specs.History.{AreLines, HasSpelling, IsSpelled}
use Rattle.sccs_history.specs.declared.headers.Flag.{Flag}
use Rattle.sccs_history.specs.declared.headers.Header.{Header}
use Rattle.sccs_history.specs.declared.headers.Record.{Record}
use Rattle.sccs_grammar.proofs.ParserRules.{all_push}
use Rattle.sccs_trunks.specs.Counts.{IsInOrder, counts_at}
use Rattle.sccs_trunks.specs.declared.counts.LineCounts.{LineCounts}
use Rattle.sccs_trunks.proofs.CountLaws.{trunk_in_order}
use Rattle.sccs_trunks.specs.TrunkHistories.{IsRevision, head_text, history_of, record_of, records_of, scripts_of}
use Rattle.sccs_trunks.specs.declared.revisions.Rcs.{Rcs}
use Rattle.sccs_trunks.specs.declared.revisions.Revision.{Revision}
use Rattle.sccs_rcs.specs.Parts.{AreCounts, IsRead}
use Rattle.sccs_rcs.proofs.ReadTrunks.{is_trunk}

-- the element at a place
pub at_index : {A : Type 0} (xs : List A) (i : ℕ) (x d : A) → slice_get xs i ≡ Some x → slice_index_or xs i d ≡ x
at_index [] i x d is = absurd (cc)
at_index (y ∷ xs) zero x d is = cc
at_index (y ∷ xs) (suc i) x d is = at_index xs i x d is

pub record_pushed : (old new : List Record) (r x : Record) → new ≡ old ++ r ∷ [] → r ≡ x → new ≡ old ++ x ∷ []
record_pushed old new r x is same = is ∙ ap (λ y. old ++ y ∷ []) same

pub spelled_pushed : (old new : List Record) (r : Record) → new ≡ old ++ r ∷ [] → HasSpelling r
    → AllByRecursion HasSpelling old → AllByRecursion HasSpelling new
spelled_pushed old new r is spelled are = subst (AllByRecursion HasSpelling) (sym is)
    (all_push HasSpelling old r are spelled)

-- ---- the loop

-- the records so far and those of the revisions that are left are all
pub AreSoFar : List Revision → List LineCounts → List Record → List Revision → Type 0
AreSoFar revisions counts records rest = (lines : List HistoryLine) → AreCounts lines (length counts) counts
    → records ++ records_of lines rest ≡ records_of lines revisions

pub one_more : (revisions : List Revision) (counts : List LineCounts) (old new : List Record) (r : Revision)
    (behind : List Revision)
    → ((lines : List HistoryLine) → AreCounts lines (length counts) counts → new ≡ old ++ record_of lines
    (length behind) r ∷ []) → AreSoFar revisions counts old (r ∷ behind) → AreSoFar revisions counts new behind
unfolding AreSoFar
one_more revisions counts old new r behind pushed so_far lines are =
    ap (λ rs. rs ++ records_of lines behind) (pushed lines are)
    ∙ (append_assoc old (record_of lines (length behind) r ∷ []) (records_of lines behind) ∙ so_far lines are)

pub all_came : (revisions : List Revision) (counts : List LineCounts) (records : List Record) (rest : List Revision)
    → length rest ≡ 0 → AreSoFar revisions counts records rest
    → (lines : List HistoryLine) → AreCounts lines (length counts) counts → records ≡ records_of lines revisions
unfolding AreSoFar
all_came revisions counts records [] none so_far lines are = sym (append-nil records) ∙ so_far lines are
all_came revisions counts records (r ∷ rest) none so_far lines are = absurd (omega (arith, none))

pub none_came : (revisions : List Revision) (counts : List LineCounts) → AreSoFar revisions counts [] revisions
unfolding AreSoFar
none_came revisions counts lines are = refl

-- ---- the header

pub revisions_fit : (rcs : Rcs) → IsRead rcs → (length rcs.revisions < 65536) × AllByRecursion IsRevision rcs.revisions
revisions_fit rcs read = let trunk = is_trunk read.0 rcs read.1 in (trunk.few, trunk.each)

-- the counts of a trunk's lines
pub counts_fit : (rcs : Rcs) (lines : List HistoryLine) (counts : List LineCounts) → lines ≡ (history_of rcs).lines
    → length counts ≡ length rcs.revisions
    → (AllByRecursion IsInOrder lines → (n : ℕ) → n < length rcs.revisions → slice_get counts n ≡ Some
    (counts_at (suc n) lines))
    → AreCounts (history_of rcs).lines (length counts) counts
counts_fit rcs lines counts is count each = record {
  count = refl;
  each = λ n low.
      subst (λ (ls : List HistoryLine). slice_get counts n ≡ Some (counts_at (suc n) ls)) is
      (each (subst (AllByRecursion IsInOrder) (sym is) (trunk_in_order (head_text rcs.revisions)
      (scripts_of rcs.revisions))) n (subst (λ k. n < k) count low));
}

-- the table of a trunk's history
pub table_is : (rcs : Rcs) (lines : List HistoryLine) (revisions : List Revision) (items counts : List LineCounts)
    (serials : ℕ) (records : List Record)
    → lines ≡ (history_of rcs).lines → revisions ≡ rcs.revisions → serials ≡ length revisions → counts ≡ items
    → length items ≡ serials
    → (AllByRecursion IsInOrder lines → (n : ℕ) → n < serials → slice_get items n ≡ Some (counts_at (suc n) lines))
    → ((ls : List HistoryLine) → AreCounts ls (length counts) counts → records ≡ records_of ls revisions)
    → records ≡ (history_of rcs).header.records
table_is rcs lines revisions items counts serials records is same size slice count each value =
    let all : serials ≡ length rcs.revisions = size ∙ ap length same in
    value (history_of rcs).lines
    (counts_fit rcs lines counts is (ap length slice ∙ (count ∙ all))
    (λ order n low. subst (λ (cs : List LineCounts). slice_get cs n ≡ Some (counts_at (suc n) lines)) (sym slice)
    (each order n (subst (λ k. n < k) (sym all) low))))
    ∙ ap (records_of (history_of rcs).lines) same

abbrev header_with : List Record → List (List ℕ) → List Flag → List (List ℕ) → Header
header_with records users flags description =
    record { records = records; users = users; flags = flags; description = description }

pub header_is : (rcs : Rcs) (records : List Record) (users : List (List ℕ)) (flags : List Flag)
    (description : List (List ℕ))
    → records ≡ (history_of rcs).header.records → users ≡ [] → flags ≡ [] → description ≡ rcs.description
    → header_with records users flags description ≡ (history_of rcs).header
header_is rcs records users flags description table none bare text =
    ap (λ (rs : List Record). header_with rs users flags description) table
    ∙ (ap (λ (us : List (List ℕ)). header_with (history_of rcs).header.records us flags description) none
    ∙ (ap (λ (fs : List Flag). header_with (history_of rcs).header.records [] fs description) bare
    ∙ ap (λ (ls : List (List ℕ)). header_with (history_of rcs).header.records [] [] ls) text))

pub header_spelled : (records : List Record) (users : List (List ℕ)) (flags : List Flag) (description : List (List ℕ))
    → AllByRecursion HasSpelling records → users ≡ [] → flags ≡ [] → AreLines description
    → IsSpelled (header_with records users flags description)
header_spelled records users flags description spelled none bare text = record {
  records = spelled;
  users = subst AreLines (sym none) tt;
  flags = subst (AllByRecursion (λ (f : Flag). HasNoLf f.text)) (sym bare) tt;
  description = text;
}
