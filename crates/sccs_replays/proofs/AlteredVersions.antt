-- What admin on an s-file that is there makes of its versions: it leaves them.
use Rattle.std.proofs.Common.{◌≡◌, ℕ, Bool, true, false, List, Option, None, Some, Ok, Err, refl, sym, ap, subst, ◌∙◌}
use Rattle.std.specs.Prelude.{if◌then◌else◌, is_some}
use Rattle.sccs_disk.specs.Files.{Content}
use Rattle.sccs_history.specs.Applied.{live_serials}
use Rattle.sccs_history.specs.History.{is_rooted}
use Rattle.sccs_history.specs.Numbers.{has}
use Rattle.sccs_history.specs.declared.headers.Header.{Header}
use Rattle.sccs_grammar.specs.File.{Parsed, answer, file_of}
use Rattle.sccs_changes.specs.Pending.{bytes_at}
use Rattle.sccs_name_files.specs.StepFiles.{Files}
use Rattle.sccs_steps.specs.StepEffects.{Outcome, StepEffect}
use Rattle.sccs_store.specs.SealedFiles.{sealed}
use Rattle.sccs_words.specs.declared.commands.AdminWords.{AdminWords}
use Rattle.sccs_admin.specs.AdminStep.{makes}
use Rattle.sccs_delta.specs.NewVersions.{version_text}
use Rattle.sccs_delta.specs.Replays.{Texts}
use Rattle.sccs_copies.proofs.FileReads.{file_keeps}
use Rattle.sccs_alter.specs.AlterStep.{alter_outcome, altered_header, file_read, read_file}
use Rattle.sccs_grammar.proofs.AnySumLaws.{unsummed_ok}
use Rattle.sccs_admin.proofs.RuleLaws.{passed}
use Rattle.sccs_alter.proofs.HeaderLaws.{altered_records}
use Rattle.sccs_alter.proofs.PrepareLaws.{parsed_of}
use Rattle.sccs_alter.proofs.StopLaws.{altered_reads, answer_read}
use Rattle.sccs_replays.specs.PastRuns.{HasVersions, IsOfVersions}
use Rattle.sccs_replays.proofs.LeftFiles.{s_of}

-- a file that is whole is read so, whatever is done with its sum
same_read : (fix : Bool) (bytes : List ℕ) (a b : Parsed) → file_of bytes ≡ Ok a → file_read fix bytes ≡ Ok b
    → file_of bytes ≡ Ok b
same_read true bytes a b one two = let same : Ok a ≡ Ok b = sym (unsummed_ok bytes a one) ∙ two in one ∙ same
same_read false bytes a b one two = two

-- the same file is read
pub same_file : (bytes : List ℕ) (a b : Parsed) → file_of bytes ≡ Ok a → file_of bytes ≡ Ok b → a ≡ b
same_file bytes a b one two = let same : Ok a ≡ Ok b = sym one ∙ two in cc

-- the altered file has the versions of the old one
altered_versions : (words : AdminWords) (bytes text : List ℕ) (parsed : Parsed) (new : Header) (texts : Texts)
    (old : Content) → old.bytes ≡ bytes → file_of bytes ≡ Ok parsed → altered_header words parsed.header text ≡ Ok new
    → IsOfVersions old texts → IsOfVersions (sealed new parsed.items) texts
altered_versions words bytes text parsed new texts old same reads is are =
    let one : are.file ≡ parsed = same_file bytes are.file parsed (ap file_of (sym same) ∙ are.reads) reads in
    let keeps = file_keeps bytes parsed reads in
    let records = altered_records words text parsed.header new is in
    record {
      file = record { header = new; items = parsed.items };
      reads = altered_reads false words bytes text parsed.header new parsed.items keeps.header keeps.spelled reads is;
      rooted = ap is_rooted records ∙ (ap (λ (f : Parsed). is_rooted f.header.records) (sym one) ∙ are.rooted);
      versions = λ m live.
          ap (λ rs. version_text (record { header = record new { records = rs }; items = parsed.items }) m) records
          ∙ (ap (λ (f : Parsed). version_text f m) (sym one)
          ∙ are.versions m (subst (λ (f : Parsed). has (live_serials f.header.records) m ≡ true) (sym one)
          (subst (λ rs. has (live_serials rs) m ≡ true) records live)));
    }

from_content : (words : AdminWords) (text : List ℕ) (parsed : Parsed) (new : Header) (texts : Texts)
    (s : Option Content) → answer (file_read words.fix) (bytes_at s) ≡ Ok parsed
    → altered_header words parsed.header text ≡ Ok new → HasVersions s texts
    → IsOfVersions (sealed new parsed.items) texts
from_content words text parsed new texts None read is are = absurd cc
from_content words text parsed new texts (Some c) read is are = altered_versions words c.bytes text parsed new texts c
    refl (same_read words.fix c.bytes are.file parsed are.reads (answer_read words.fix c.bytes parsed read)) is are

made_is : (c : Content) (f : Files) (d : StepEffect) → makes c f ≡ Ok d
    → d.new ≡ Some (record { s = Some c; p = f.p; z = None; g = f.g; l = f.l })
made_is c f d is = sym (ap new_of is)
  where
    new_of : Outcome → Option Files
    new_of o = elim o as (λ _. Option Files) [ Ok e ↦ e.new | Err refusal ↦ None ]

pub altered_goes : (words : AdminWords) (n i : List ℕ) (named : List (Option Content)) (f : Files) (texts : Texts)
    (d : StepEffect) → alter_outcome words n i named f ≡ Ok d → HasVersions f.s texts → HasVersions (s_of f.s d.new)
    (if is_some d.new then texts else texts)
unfolding alter_outcome
altered_goes words n i named f texts d is are =
    let read = passed (read_file words named f.s) _ d is in
    let header = passed (altered_header words read.0.parsed.header read.0.text) _ d read.2 in
    subst (λ (new : Option Files). HasVersions (s_of f.s new) (if is_some new then texts else texts))
    (sym (made_is (sealed header.0 read.0.parsed.items) f d header.2))
    (from_content words read.0.text read.0.parsed header.0 texts f.s (parsed_of words named f.s read.0 read.1) header.1
    are)
