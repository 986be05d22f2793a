-- The header that cdc makes: check by check, its rules and its spelling.
use Rattle.std.proofs.Common.{◌≡◌, ℕ, Result, Ok, Err, refl, sym, ap, ◌∙◌, subst}
use Rattle.std.specs.Prelude.{IfOk}
use Rattle.sccs_sid.specs.Reading.{◌>>=◌}
use Rattle.sccs_sid.specs.declared.moments.Stamp.{Stamp}
use Rattle.sccs_sid.specs.declared.refusals.Refusal.{Refusal}
use Rattle.sccs_sid.specs.declared.refusals.StepFault.{StepFault}
use Rattle.sccs_sid.specs.declared.refusals.StepFault.TheVariants.{Refused, Memory, ReadFault, WriteFault, DiskFault}
use Rattle.sccs_history.specs.History.{IsHeader, IsSpelled}
use Rattle.sccs_history.specs.declared.headers.Header.{Header}
use Rattle.sccs_history.specs.declared.headers.Record.{Record}
use Rattle.sccs_words.specs.declared.commands.CdcWords.{CdcWords}
use Rattle.sccs_changes.specs.PFiles.{Answers}
use Rattle.sccs_changes.specs.declared.prepared.Prepared.{Prepared}
use Rattle.sccs_admin.proofs.RuleLaws.{passed}
use Rattle.sccs_alter.specs.CdcStep.{changeable, changed_header, text_changes}
use Rattle.sccs_alter.specs.Changes.{AreSameDeltas, with_changes}
use Rattle.sccs_alter.specs.CdcParts.{FindsChangeable, HasLines}
use Rattle.sccs_alter.specs.declared.changes.TextChanges.{TextChanges}
use Rattle.sccs_alter.proofs.TableLaws.{changes_same, header_changed, spelled_changed}
use Rattle.sccs_alter.proofs.TextLaws.{given_are_lines}

abbrev by_delta : CdcWords → Stamp → Header → Result Record Refusal → Result Header Refusal
by_delta words stamp header found = found >>= λ delta. Ok (with_changes (text_changes words) stamp delta.serial header)

pub header_is : (words : CdcWords) (stamp : Stamp) (header : Header) → changed_header words stamp header
    ≡ (changeable words stamp header >>= λ delta. Ok (with_changes (text_changes words) stamp delta.serial header))
unfolding changed_header
header_is words stamp header = refl

pub not_changed : (words : CdcWords) (stamp : Stamp) (header : Header) (fault : StepFault)
    → FindsChangeable words stamp header (Err fault) → Answers {A = Header} (changed_header words stamp header)
    (Err fault)
not_changed words stamp header (Refused refusal) finds = header_is words stamp header
    ∙ ap (by_delta words stamp header) finds
not_changed words stamp header Memory finds = absurd finds
not_changed words stamp header ReadFault finds = finds
not_changed words stamp header WriteFault finds = finds
not_changed words stamp header DiskFault finds = absurd finds

pub changed_is : (words : CdcWords) (stamp : Stamp) (header new : Header) (serial : ℕ) (changes : TextChanges)
    → FindsChangeable words stamp header (Ok serial) → changes ≡ text_changes words
    → new ≡ with_changes changes stamp serial header → changed_header words stamp header ≡ Ok new
changed_is words stamp header new serial changes finds are made =
    header_is words stamp header
    ∙ (ap (by_delta words stamp header) finds.1
    ∙ ap (λ (h : Header). Ok h) (ap (λ m. with_changes (text_changes words) stamp m header) finds.2
    ∙ (ap (λ c. with_changes c stamp serial header) (sym are) ∙ sym made)))

same_header : (a b : Header) → (let r : Result Header Refusal = Ok a in r) ≡ Ok b → b ≡ a
same_header a b is = cc

-- Of which delta it is.
pub record IsMade (words : CdcWords) (stamp : Stamp) (header new : Header) : Type 0 where
  pub delta : Record
  pub meant : changeable words stamp header ≡ Ok delta
  pub is : new ≡ with_changes (text_changes words) stamp delta.serial header

pub made_of : (words : CdcWords) (stamp : Stamp) (header new : Header) → changed_header words stamp header ≡ Ok new
    → IsMade words stamp header new
made_of words stamp header new is =
    let found = passed (changeable words stamp header)
    (λ delta. Ok (with_changes (text_changes words) stamp delta.serial header)) new
    (sym (header_is words stamp header) ∙ is) in
    record {
      delta = found.0;
      meant = found.1;
      is =
          same_header (with_changes (text_changes words) stamp found.0.serial header) new found.2;
    }

pub new_rules : (words : CdcWords) (stamp : Stamp) (header new : Header) → IsHeader header
    → changed_header words stamp header ≡ Ok new → IsHeader new
new_rules words stamp header new rules is =
    let made = made_of words stamp header new is in subst IsHeader (sym made.is)
    (header_changed (text_changes words) stamp made.delta.serial header rules)

pub new_spelled : (words : CdcWords) (stamp : Stamp) (header new : Header) → HasLines words stamp → IsSpelled header
    → changed_header words stamp header ≡ Ok new → IsSpelled new
new_spelled words stamp header new lines spelled is =
    let made = made_of words stamp header new is in
    subst IsSpelled (sym made.is) (spelled_changed (text_changes words) stamp made.delta.serial header lines.mrs
    (given_are_lines words.comment lines.comment) lines.login spelled)

pub new_same : (words : CdcWords) (stamp : Stamp) (header new : Header) → changed_header words stamp header ≡ Ok new
    → AreSameDeltas new.records header.records
new_same words stamp header new is =
    let made = made_of words stamp header new is in
    subst (λ (h : Header). AreSameDeltas h.records header.records) (sym made.is)
    (changes_same (text_changes words) stamp made.delta.serial header.records)

-- what is so anyway is so where something is prepared
pub lines_of_made : {P : Type 0} (r : Result Prepared StepFault) → P → IfOk r (λ p. P)
lines_of_made (Ok p) lines = lines
lines_of_made (Err fault) lines = tt
