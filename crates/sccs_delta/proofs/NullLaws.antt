-- The null deltas of a new delta, and the new one itself.
use Rattle.std.proofs.Common.{◌≡◌, ℕ, suc, ◌+◌, List, [], ◌∷◌, map, length, refl, ap, arith}
use Rattle.sccs_base.specs.Login.{IsLogin}
use Rattle.sccs_sid.specs.Moment.{IsMoment}
use Rattle.sccs_sid.specs.declared.moments.Stamp.{Stamp}
use Rattle.sccs_sid.specs.declared.sids.Sid.{Sid}
use Rattle.sccs_records.specs.declared.new_deltas.Counts.{Counts}
use Rattle.sccs_history.specs.Applied.{newest}
use Rattle.sccs_history.specs.History.{AreLines}
use Rattle.sccs_history.specs.declared.headers.Header.{Header}
use Rattle.sccs_pfile.specs.Entries.{IsEdit}
use Rattle.sccs_pfile.specs.declared.entries.Edit.{Edit}
use Rattle.sccs_records.specs.NewDeltas.{HasSpellings, null_delta, with_delta, with_deltas}
use Rattle.sccs_records.specs.Texts.{some_lines}
use Rattle.sccs_records.specs.declared.new_deltas.NewDelta.{NewDelta}
use Rattle.sccs_words.specs.declared.commands.DeltaWords.{DeltaWords}
use Rattle.sccs_delta.specs.declared.entries.Base.{Base}
use Rattle.sccs_delta.specs.DeltaStep.{entry_delta}

-- ---- the new delta

comment_lines : (lines : List (List ℕ)) → AreLines lines → AreLines (some_lines lines)
comment_lines [] are = ((λ k d low. absurd (omega (arith, low))), tt)
comment_lines (line ∷ lines) are = are

pub delta_spelled : (words : DeltaWords) (stamp : Stamp) (edit : Edit) (base : Base) (counts : Counts) → IsEdit edit
    → IsMoment stamp.moment → IsLogin stamp.login → AreLines words.mrs → AreLines words.comment
    → HasSpellings (entry_delta words stamp edit base.include base.exclude counts)
delta_spelled words stamp edit base counts is moment login mrs comment =
    record { sid = is.made; moment = moment; login = login; mrs = mrs; comments = comment_lines words.comment comment }

-- ---- the serial of the last null delta

pub newest_deltas : (header : Header) (on : ℕ) (ds : List NewDelta) → newest (with_deltas header on ds).records
    ≡ newest header.records + length ds
newest_deltas header on [] = omega arith
newest_deltas header on (d ∷ ds) = omega (
  arith,
  newest_deltas (with_delta header on d) (suc (newest header.records))
      ds,
)

pub nulls_long : (stamp : Stamp) (sids : List Sid) → length (map (null_delta stamp) sids) ≡ length sids
nulls_long stamp [] = refl
nulls_long stamp (sid ∷ sids) = ap suc (nulls_long stamp sids)

pub newest_nulls : (header : Header) (on : ℕ) (stamp : Stamp) (sids : List Sid)
    → newest (with_deltas header on (map (null_delta stamp) sids)).records ≡ newest header.records + length sids
newest_nulls header on stamp sids = omega (
  arith,
  newest_deltas header on (map (null_delta stamp) sids),
  nulls_long stamp sids,
)
