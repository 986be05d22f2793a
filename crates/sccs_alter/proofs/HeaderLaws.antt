-- The altered header: its parts, its rules and its spelling.
use Rattle.std.proofs.Common.{◌≡◌, ℕ, List, Result, Ok, Err, refl, sym, ap, subst}
use Rattle.sccs_sid.specs.declared.refusals.Refusal.{Refusal}
use Rattle.sccs_sid.specs.declared.refusals.StepFault.{StepFault}
use Rattle.sccs_sid.specs.declared.refusals.StepFault.TheVariants as step
use Rattle.sccs_changes.specs.PFiles.{Answers}
use Rattle.sccs_history.specs.History.{IsHeader, IsSpelled}
use Rattle.sccs_history.specs.declared.headers.Flag.{Flag}
use Rattle.sccs_history.specs.declared.headers.Header.{Header}
use Rattle.sccs_rules.specs.Flags.{changed_flags}
use Rattle.sccs_rules.specs.Rules.{with_rules}
use Rattle.sccs_rules.specs.Users.{changed_users}
use Rattle.sccs_rules.proofs.FlagRules.{header_kept, spelled_kept}
use Rattle.sccs_words.specs.declared.commands.AdminWords.{AdminWords}
use Rattle.sccs_admin.specs.Rules.{described, or_bad_flag}
use Rattle.sccs_admin.proofs.RuleLaws.{described_bare, described_lines, flags_ok, passed}
use Rattle.sccs_alter.specs.AlterStep.{altered_header}

-- What an altered header is made of.
pub record HasParts (words : AdminWords) (h : Header) (text : List ℕ) (new : Header) : Type 0 where
  pub description : List (List ℕ)
  pub flags : List Flag
  pub described_is : described words.description h.description text ≡ Ok description
  pub changed : changed_flags h.flags words.set words.unset ≡ Ok flags
  pub is : new ≡ with_rules h (changed_users h.users words.add words.erase) flags description

same_header : (r : Result Header Refusal) (a b : Header) → r ≡ Ok a → r ≡ Ok b → b ≡ a
same_header r a b first second = cc

pub parts_of : (words : AdminWords) (h : Header) (text : List ℕ) (new : Header) → altered_header words h text ≡ Ok new
    → HasParts words h text new
unfolding altered_header
parts_of words h text new is =
    let description = passed (described words.description h.description text) _ new is in
    let flags = passed (or_bad_flag (changed_flags h.flags words.set words.unset)) _ new description.2 in
    record {
      description = description.0;
      flags = flags.0;
      described_is = description.1;
      changed = flags_ok (changed_flags h.flags words.set words.unset) flags.0 flags.1;
      is = same_header (Ok (with_rules h (changed_users h.users words.add words.erase) flags.0 description.0))
          (with_rules h (changed_users h.users words.add words.erase) flags.0 description.0) new refl flags.2;
    }

-- ---- headers

pub altered_records : (words : AdminWords) (text : List ℕ) (h new : Header) → altered_header words h text ≡ Ok new
    → new.records ≡ h.records
altered_records words text h new is = ap (λ (x : Header). x.records) (parts_of words h text new is).is

pub altered_rules : (words : AdminWords) (h : Header) (text : List ℕ) (new : Header) → IsHeader h
    → altered_header words h text ≡ Ok new → IsHeader new
altered_rules words h text new rules is =
    let parts = parts_of words h text new is in
    subst IsHeader (sym parts.is) (header_kept h words.add words.erase words.set words.unset parts.flags
    parts.description rules parts.changed (described_bare words.description h.description parts.description text
    rules.description parts.described_is))

pub altered_spelled : (words : AdminWords) (h : Header) (text : List ℕ) (new : Header) → IsSpelled h
    → altered_header words h text ≡ Ok new → IsSpelled new
altered_spelled words h text new spelled is =
    let parts = parts_of words h text new is in
    subst IsSpelled (sym parts.is) (spelled_kept h words.add words.erase words.set words.unset parts.flags
    parts.description spelled parts.changed (described_lines words.description h.description parts.description text
    spelled.description parts.described_is))

-- ---- part by part

pub description_ends : (words : AdminWords) (h : Header) (text : List ℕ) (fault : StepFault)
    → Answers {A = List (List ℕ)} (described words.description h.description text) (Err fault)
    → Answers {A = Header} (altered_header words h text) (Err fault)
unfolding altered_header
description_ends words h text (step.Refused refusal) answers = rw answers refl
description_ends words h text step.Memory answers = tt
description_ends words h text step.DiskFault answers = tt
description_ends words h text step.ReadFault answers = answers
description_ends words h text step.WriteFault answers = answers

pub flags_end : (words : AdminWords) (h : Header) (text : List ℕ) (description : List (List ℕ)) (fault : StepFault)
    → described words.description h.description text ≡ Ok description → Answers {A = List Flag}
    (or_bad_flag (changed_flags h.flags words.set words.unset)) (Err fault)
    → Answers {A = Header} (altered_header words h text) (Err fault)
unfolding altered_header
flags_end words h text description (step.Refused refusal) is answers = rw (is, answers) refl
flags_end words h text description step.Memory is answers = tt
flags_end words h text description step.DiskFault is answers = tt
flags_end words h text description step.ReadFault is answers = answers
flags_end words h text description step.WriteFault is answers = answers

pub all_altered : (words : AdminWords) (h : Header) (text : List ℕ) (description users : List (List ℕ))
    (flags : List Flag) → described words.description h.description text ≡ Ok description
    → or_bad_flag (changed_flags h.flags words.set words.unset) ≡ Ok flags
    → users ≡ changed_users h.users words.add words.erase → altered_header words h text ≡ Ok
    (with_rules h users flags description)
unfolding altered_header
all_altered words h text description users flags is set same =
    rw (is, set) (ap (λ us. Ok (with_rules h us flags description)) (sym same))
