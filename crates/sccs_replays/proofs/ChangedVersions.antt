-- What a cdc makes of the versions of an s-file: it leaves them.
use Rattle.std.proofs.Common.{◌≡◌, ℕ, true, List, Option, None, Some, Ok, refl, sym, ap, subst, ◌∙◌}
use Rattle.std.specs.Prelude.{if◌then◌else◌, is_some}
use Rattle.sccs_disk.specs.Files.{Content}
use Rattle.sccs_sid.specs.declared.moments.Stamp.{Stamp}
use Rattle.sccs_history.specs.Applied.{live_serials}
use Rattle.sccs_history.specs.History.{is_rooted}
use Rattle.sccs_history.specs.Numbers.{has}
use Rattle.sccs_grammar.specs.File.{Parsed}
use Rattle.sccs_name_files.specs.StepFiles.{Files}
use Rattle.sccs_steps.specs.StepEffects.{StepEffect}
use Rattle.sccs_words.specs.declared.commands.CdcWords.{CdcWords}
use Rattle.sccs_alter.specs.CdcStep.{cdc_outcome}
use Rattle.sccs_alter.specs.NewVersions.{ChangesDelta}
use Rattle.sccs_alter.specs.CdcParts.{HasLines}
use Rattle.sccs_alter.proofs.ChangedVersions.{cdc_made, file_needed}
use Rattle.sccs_alter.proofs.TableLaws.{same_rooted}
use Rattle.sccs_delta.specs.NewVersions.{version_text}
use Rattle.sccs_delta.specs.Replays.{Texts}
use Rattle.sccs_replays.specs.PastRuns.{HasVersions}
use Rattle.sccs_replays.proofs.LeftFiles.{s_of}
use Rattle.sccs_replays.proofs.AlteredVersions.{same_file}

-- the changed file has the versions of the old one
changed_versions : (words : CdcWords) (stamp : Stamp) (f : Files) (s : Content) (d : StepEffect) (texts : Texts)
    → ChangesDelta words stamp f s d → HasVersions (Some s) texts → HasVersions (s_of (Some s) d.new) (if is_some d.new
    then texts else texts)
changed_versions words stamp f s d texts made are =
    let same : are.file ≡ made.before = same_file s.bytes are.file made.before are.reads made.was in
    let was = subst (λ (file : Parsed). (m : ℕ) → has (live_serials file.header.records) m ≡ true
    → version_text file m ≡ texts m) same are.versions in
    subst (λ (new : Option Files). HasVersions (s_of (Some s) new) (if is_some new then texts else texts))
    (sym made.files)
    (record {
      file = made.after;
      reads = made.reads;
      rooted = same_rooted made.after.header.records made.before.header.records made.texts.deltas
          ∙ (ap (λ (file : Parsed). is_rooted file.header.records) (sym same) ∙ are.rooted);
      versions = λ m live. made.texts.versions m ∙ was m (ap (λ (ls : List ℕ). has ls m) (sym made.texts.live) ∙ live);
    })

pub changed_goes : (words : CdcWords) (stamp : Stamp) (n i : List ℕ) (named : List (Option Content)) (f : Files)
    (texts : Texts) (d : StepEffect) → HasLines words stamp → cdc_outcome words stamp n i named f ≡ Ok d
    → HasVersions f.s texts → HasVersions (s_of f.s d.new) (if is_some d.new then texts else texts)
changed_goes words stamp n i named f texts d lines is = by f.s refl
  where
    by : (s : Option Content) → f.s ≡ s → HasVersions f.s texts → HasVersions (s_of f.s d.new) (if is_some d.new
        then texts else texts)
    by None none = absurd (file_needed words stamp n i named f d is none)
    by (Some s) there =
        subst (λ (o : Option Content). HasVersions o texts → HasVersions (s_of o d.new) (if is_some d.new then texts
        else texts)) (sym there)
        (λ are. changed_versions words stamp f s d texts (cdc_made words stamp n i named f s d lines there is) are)
