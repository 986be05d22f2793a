-- What a cdc that is accepted leaves.
use Rattle.std.proofs.Common.{◌≡◌, ℕ, false, List, Option, None, Some, Ok, refl, sym, ap, ◌∙◌}
use Rattle.sccs_disk.specs.Files.{Content}
use Rattle.sccs_sid.specs.Reading.{◌>>=◌}
use Rattle.sccs_sid.specs.declared.moments.Stamp.{Stamp}
use Rattle.sccs_history.specs.Applied.{version_of}
use Rattle.sccs_history.specs.Body.{lines_of}
use Rattle.sccs_history.specs.Select.{select}
use Rattle.sccs_history.specs.declared.headers.Header.{Header}
use Rattle.sccs_grammar.specs.File.{Parsed, answer, file_of}
use Rattle.sccs_name_files.specs.StepFiles.{Files}
use Rattle.sccs_steps.specs.StepEffects.{Outcome, StepEffect}
use Rattle.sccs_store.specs.SealedFiles.{sealed}
use Rattle.sccs_copies.proofs.FileReads.{file_keeps}
use Rattle.sccs_words.specs.declared.commands.CdcWords.{CdcWords}
use Rattle.sccs_admin.specs.AdminStep.{makes}
use Rattle.sccs_admin.proofs.RuleLaws.{passed}
use Rattle.sccs_alter.specs.CheckStep.{checked_file}
use Rattle.sccs_alter.proofs.StopLaws.{answer_read}
use Rattle.sccs_alter.specs.CdcStep.{cdc_outcome, changed_header, text_changes}
use Rattle.sccs_alter.specs.Changes.{new_lines}
use Rattle.sccs_alter.specs.NewVersions.{ChangesDelta, ChangesTexts}
use Rattle.sccs_alter.specs.CdcParts.{HasLines}
use Rattle.sccs_alter.proofs.CdcHeaderLaws.{IsMade, made_of, new_same}
use Rattle.sccs_alter.proofs.CdcPrepareLaws.{outcome_is, read_ok}
use Rattle.sccs_alter.proofs.CdcStopLaws.{changed_reads}
use Rattle.sccs_alter.proofs.TableLaws.{same_applied, same_live}
use Rattle.sccs_alter.proofs.TextLaws.{old_is_last}

effect_is : (a b : StepEffect) → (let r : Outcome = Ok a in r) ≡ Ok b → a ≡ b
effect_is a b is = cc

abbrev file_with : Header → Parsed → Parsed
file_with header before = record { header = header; items = before.items }

texts : (words : CdcWords) (stamp : Stamp) (before : Parsed) (new : Header)
    (is : changed_header words stamp before.header ≡ Ok new) → (made : IsMade words stamp before.header new)
    → ChangesTexts words stamp before (file_with new before) made.delta
texts words stamp before new is made =
    let same = new_same words stamp before.header new is in
    record {
      header = made.is;
      items = refl;
      deltas = same;
      live = same_live new.records before.header.records same;
      sets = λ asked. same_applied asked new.records before.header.records same;
      versions = λ m. ap (λ set. select set (lines_of before.items))
          (same_applied (version_of m) new.records before.header.records same);
      comment = old_is_last stamp (new_lines (text_changes words) made.delta) made.delta.comments;
    }

made : (words : CdcWords) (stamp : Stamp) (f : Files) (old : Content) (effect new_effect : StepEffect) (before : Parsed)
    (new : Header) → HasLines words stamp → file_of old.bytes ≡ Ok before → changed_header words stamp before.header
    ≡ Ok new
    → new_effect.new ≡ Some (record { s = Some (sealed new before.items); p = f.p; z = None; g = f.g; l = f.l })
    → new_effect ≡ effect → ChangesDelta words stamp f old effect
made words stamp f old effect new_effect before new lines was is files same =
    let rules = file_keeps old.bytes before was in
    let delta = made_of words stamp before.header new is in
    record {
      before = before;
      delta = delta.delta;
      after = file_with new before;
      was = was;
      meant = delta.meant;
      texts = texts words stamp before new is delta;
      files = ap (λ (e : StepEffect). e.new) (sym same) ∙ files;
      reads = changed_reads words stamp old.bytes before.header new before.items lines rules.header rules.spelled was
          is;
    }

pub cdc_made : (words : CdcWords) (stamp : Stamp) (n i : List ℕ) (named : List (Option Content)) (f : Files)
    (old : Content) (effect : StepEffect) → HasLines words stamp → f.s ≡ Some old → cdc_outcome words stamp n i named f
    ≡ Ok effect → ChangesDelta words stamp f old effect
cdc_made words stamp n i named f old effect lines there is =
    let read = passed (checked_file f.s) (λ parsed. changed_header words stamp parsed.header >>= λ header. makes
    (sealed header parsed.items) f) effect (sym (outcome_is words stamp n i named f) ∙ is) in
    let new = passed (changed_header words stamp read.0.header) (λ header. makes (sealed header read.0.items) f) effect
    read.2 in
    let whole : file_of old.bytes ≡ Ok read.0 = answer_read false old.bytes read.0
    (read_ok (answer file_of (Some old.bytes)) read.0 (ap (λ (o : Option Content). checked_file o) (sym there)
    ∙ read.1)) in
    made words stamp f old effect _ read.0 new.0 lines whole new.1 refl (effect_is _ effect new.2)

-- without an s-file it is refused
pub file_needed : (words : CdcWords) (stamp : Stamp) (n i : List ℕ) (named : List (Option Content)) (f : Files)
    (effect : StepEffect) → cdc_outcome words stamp n i named f ≡ Ok effect → f.s ≡ None → ⊥
file_needed words stamp n i named f effect is none =
    let read = passed (checked_file f.s) (λ parsed. changed_header words stamp parsed.header >>= λ header. makes
    (sealed header parsed.items) f) effect (sym (outcome_is words stamp n i named f) ∙ is) in
    gone read.0 (ap (λ (o : Option Content). checked_file o) (sym none) ∙ read.1)
  where
    gone : (parsed : Parsed) → checked_file None ≡ Ok parsed → ⊥
    gone parsed is = absurd cc
