-- A table may get the null deltas of an entry, and then its delta.
use Rattle.std.proofs.Common.{◌≡◌, ℕ, zero, suc, ◌+◌, ◌<◌, ◌==◌, Bool, true, false, not, ◌&&◌, List, [], ◌∷◌, codes}
use Rattle.std.proofs.Common.{length, Some, Result, Ok, refl, sym, subst, ◌∙◌, arith}
use Rattle.std.specs.Prelude.{slice_get}
use Rattle.std.specs.List.{AllByRecursion, list_any}
use Rattle.std.proofs.lemmas.Bool.{and_parts, or_right, or_from, not-true}
use Rattle.sccs_base.specs.Cut.{HasNoLf, cut}
use Rattle.sccs_base.specs.Login.{IsLogin}
use Rattle.sccs_base.proofs.Lines.{next_fit}
use Rattle.sccs_sid.specs.Moment.{IsMoment}
use Rattle.sccs_sid.specs.Sid.{IsSid}
use Rattle.sccs_sid.specs.declared.moments.Stamp.{Stamp}
use Rattle.sccs_sid.specs.declared.refusals.Refusal.{Refusal}
use Rattle.sccs_sid.specs.declared.sids.Sid.{Sid}
use Rattle.sccs_records.specs.declared.new_deltas.Counts.{Counts}
use Rattle.sccs_history.specs.Applied.{newest, serials_of}
use Rattle.sccs_history.specs.History.{AreLines, IsHeader, IsSpelled, lives, same_sid}
use Rattle.sccs_history.specs.Numbers.{has}
use Rattle.sccs_history.specs.declared.headers.Header.{Header}
use Rattle.sccs_history.specs.declared.headers.Record.{Record}
use Rattle.sccs_pfile.specs.Agreement.{Agrees, agrees, has_lists, makers}
use Rattle.sccs_pfile.specs.Entries.{IsEdit}
use Rattle.sccs_pfile.specs.declared.entries.Edit.{Edit}
use Rattle.sccs_records.specs.NewDeltas.{FitsTable, HasSpellings, last_of, with_deltas}
use Rattle.sccs_records.proofs.TableLaws.{header_kept, live_is_there, spelled_kept}
use Rattle.sccs_words.specs.declared.commands.DeltaWords.{DeltaWords}
use Rattle.sccs_delta.specs.DeltaStep.{entry_base, entry_delta}
use Rattle.sccs_delta.specs.declared.entries.Base.{Base}
use Rattle.sccs_delta.specs.NullDeltas.{made_sids, null_deltas, skipped_by, with_nulls}
use Rattle.sccs_delta.proofs.EntryLaws.{HasBase, base_found, entry_agrees}
use Rattle.sccs_delta.proofs.NullLaws.{delta_spelled, newest_nulls}
use Rattle.sccs_delta.proofs.NullSids.{skipped_sids}
use Rattle.sccs_delta.proofs.NullTables.{all_live, kept_in_turn, last_there, lives_nulls, nulls_apart, nulls_fit}
use Rattle.sccs_delta.proofs.NullTables.{skipped_free, spelled_in_turn}

-- ---- rules

apart_at : (test : Sid → Bool) (edits : List Edit) (place : ℕ) (edit : Edit)
    → AllByRecursion (λ x. test x.made ≡ false) edits → slice_get edits place ≡ Some edit → test edit.made ≡ false
apart_at test [] place edit are at = cc
apart_at test (x ∷ edits) zero edit are at = let same : x ≡ edit = cc in subst (λ (e : Edit). test e.made ≡ false) same
    are.0
apart_at test (x ∷ edits) (suc place) edit are at = apart_at test edits place edit are.1 at

not_live : (records : List Record) (edits : List Edit) (edit : Edit) → agrees records edits edit ≡ true
    → lives records edit.made ≡ false
not_live records edits edit is =
    not-true (lives records edit.made) (and_parts (not (lives records edit.made)) (makers edits edit.made == 1
    && has_lists records edit) (and_parts (lives records edit.got) (not (lives records edit.made)
    && (makers edits edit.made == 1 && has_lists records edit)) is).1).0

pub same_base : (r : Result Base Refusal) (one two : Base) → r ≡ Ok one → r ≡ Ok two → one ≡ two
same_base r one two is_one is_two = let same : Ok one ≡ Ok two = sym is_one ∙ is_two in cc

pub delta_fits : (header : Header) (edits : List Edit) (place number : ℕ) (edit : Edit) (base : Base)
    (words : DeltaWords) (stamp : Stamp) (counts : Counts) → Agrees header.records edits
    → slice_get edits place ≡ Some edit → HasBase header.records edit base
    → newest header.records + length (skipped_by header edits edit) < 65535
    → FitsTable (with_deltas header base.got (null_deltas stamp (skipped_by header edits edit))).records
    (last_of base.got (newest header.records) (null_deltas stamp (skipped_by header edits edit)))
    (entry_delta words stamp edit base.include base.exclude counts)
delta_fits header edits place number edit base words stamp counts agree at has_base few = record {
  serial = omega (arith, few, newest_nulls header base.got stamp (skipped_by header edits edit));
  base = last_there header base.got (null_deltas stamp (skipped_by header edits edit)) (or_right (0 == base.got)
      (has (serials_of header.records) base.got) (live_is_there header.records base.got has_base.got_lives));
  include = all_live header base.got (null_deltas stamp (skipped_by header edits edit)) base.include has_base.included;
  exclude = all_live header base.got (null_deltas stamp (skipped_by header edits edit)) base.exclude has_base.excluded;
  apart = has_base.apart;
  sid = lives_nulls stamp header base.got (skipped_by header edits edit) edit.made
      ∙ or_from (list_any (λ s. same_sid s edit.made) (skipped_by header edits edit)) (lives header.records edit.made)
      (apart_at (λ t. list_any (λ s. same_sid s t) (skipped_by header edits edit)) edits place edit
      (nulls_apart header edit.got edit.made edits) at)
      (not_live header.records edits edit (entry_agrees header.records edits edits place edit agree at));
}

pub rules_kept : (header : Header) (edits : List Edit) (place number : ℕ) (edit : Edit) (base : Base)
    (words : DeltaWords) (stamp : Stamp) (counts : Counts) → IsHeader header → Agrees header.records edits
    → slice_get edits place ≡ Some edit
    → entry_base header.records number edit ≡ Ok base → newest header.records + length (skipped_by header edits edit) <
    65535
    → IsHeader (with_nulls header base.got (null_deltas stamp (skipped_by header edits edit))
    (entry_delta words stamp edit base.include base.exclude counts))
rules_kept header edits place number edit base words stamp counts is agree at base_is few =
    let found = base_found header.records edits place edit is.rules.table.falls agree at in
    let has_base : HasBase header.records edit base = subst (HasBase header.records edit)
    (same_base (entry_base header.records number edit) found.0 base (found.1.is number) base_is) found.1 in
    let base_there : has (0 ∷ serials_of header.records) base.got ≡ true =
    or_right (0 == base.got) (has (serials_of header.records) base.got)
    (live_is_there header.records base.got has_base.got_lives) in
    header_kept (with_deltas header base.got (null_deltas stamp (skipped_by header edits edit)))
    (last_of base.got (newest header.records) (null_deltas stamp (skipped_by header edits edit)))
    (entry_delta words stamp edit base.include base.exclude counts)
    (kept_in_turn header base.got (null_deltas stamp (skipped_by header edits edit)) is
    (nulls_fit stamp header base.got (skipped_by header edits edit) base_there (omega (arith, few))
    (skipped_free header edit.got edit.made (made_sids edits))))
    (delta_fits header edits place number edit base words stamp counts agree at has_base few)

-- ---- spellings

null_comment : HasNoLf (codes "AUTO NULL DELTA")
unfolding cut
null_comment = next_fit [] (codes "AUTO NULL DELTA") [] (codes "AUTO NULL DELTA") refl

pub nulls_spelled : (stamp : Stamp) (sids : List Sid) → IsMoment stamp.moment → IsLogin stamp.login
    → AllByRecursion IsSid sids → AllByRecursion HasSpellings (null_deltas stamp sids)
nulls_spelled stamp [] moment login are = tt
nulls_spelled stamp (sid ∷ sids) moment login are = (
  record { sid = are.0; moment = moment; login = login; mrs = tt; comments = (null_comment, tt) },
  nulls_spelled stamp sids moment login are.1,
)

pub spelling_kept : (header : Header) (edits : List Edit) (edit : Edit) (base : Base) (words : DeltaWords)
    (stamp : Stamp) (counts : Counts) → IsSpelled header → IsEdit edit → IsMoment stamp.moment → IsLogin stamp.login
    → AreLines words.mrs → AreLines words.comment
    → IsSpelled (with_nulls header base.got (null_deltas stamp (skipped_by header edits edit))
    (entry_delta words stamp edit base.include base.exclude counts))
spelling_kept header edits edit base words stamp counts is is_edit moment login mrs comment =
    spelled_kept (with_deltas header base.got (null_deltas stamp (skipped_by header edits edit)))
    (last_of base.got (newest header.records) (null_deltas stamp (skipped_by header edits edit)))
    (entry_delta words stamp edit base.include base.exclude counts)
    (spelled_in_turn header base.got (null_deltas stamp (skipped_by header edits edit)) is
    (nulls_spelled stamp (skipped_by header edits edit) moment login (skipped_sids header edit.got edit.made
    (made_sids edits) is_edit.got is_edit.made)))
    (delta_spelled words stamp edit base counts is_edit moment login mrs comment)
