-- What an rmdel that is accepted leaves.
use Rattle.std.proofs.Common.{◌≡◌, ℕ, List, [], Option, Some, Ok, refl, sym, ap, ◌∙◌}
use Rattle.sccs_disk.specs.Files.{Content}
use Rattle.sccs_sid.specs.Reading.{◌>>=◌}
use Rattle.sccs_sid.specs.declared.moments.Stamp.{Stamp}
use Rattle.sccs_sid.specs.declared.sids.Sid.{Sid}
use Rattle.sccs_history.specs.Body.{lines_of}
use Rattle.sccs_history.specs.Removal.{dropped}
use Rattle.sccs_history.specs.declared.headers.Record.{Record}
use Rattle.sccs_name_files.specs.StepFiles.{Files}
use Rattle.sccs_steps.specs.StepEffects.{Outcome, StepEffect}
use Rattle.sccs_changes.specs.Pending.{Found, pending_of}
use Rattle.sccs_changes.proofs.StopLaws.{pending_file}
use Rattle.sccs_changes.proofs.Chains.{passed}
use Rattle.sccs_copies.proofs.FileReads.{file_keeps}
use Rattle.sccs_changes.proofs.PendingReads.{pending_entries}
use Rattle.sccs_changes.proofs.PendingReads.{pending_agrees}
use Rattle.sccs_rmdel.specs.Removed.{without_delta}
use Rattle.sccs_rmdel.proofs.DroppedItems.{lines_dropped}
use Rattle.sccs_rmdel.proofs.Edits.{agreement_kept}
use Rattle.sccs_rmdel.proofs.KeptVersions.{versions_kept}
use Rattle.sccs_rmdel.proofs.RemovedTables.{live_removed, rooted_removed}
use Rattle.sccs_rmdel.specs.NewVersions.{RemovesDelta}
use Rattle.sccs_rmdel.specs.RmdelStep.{removable, removes, rmdel_outcome}
use Rattle.sccs_rmdel.proofs.CheckLaws.{leaf_is_free, removable_is}
use Rattle.sccs_rmdel.proofs.PrepareLaws.{outcome_is}
use Rattle.sccs_rmdel.proofs.RemovalReads.{removal_reads}

effect_is : (a b : StepEffect) → (let r : Outcome = Ok a in r) ≡ Ok b → a ≡ b
effect_is a b is = cc

made : (sid : Sid) (stamp : Stamp) (f : Files) (old : Content) (effect : StepEffect) (found : Found) (delta : Record)
    → pending_of (Some old) f.p ≡ Ok found → removable sid stamp found.parsed.header found.edits ≡ Ok delta
    → removes f found delta ≡ effect → RemovesDelta sid stamp f old effect
made sid stamp f old effect found delta read meant is =
    let file = pending_file old f.p found read in
    let rules = file_keeps old.bytes found.parsed file in
    let may = removable_is sid stamp found.parsed.header found.edits delta meant in
    let free = leaf_is_free found.parsed.header.records delta may.leaf in
    record {
      before = found.parsed;
      edits = found.edits;
      delta = delta;
      after = record {
        header = without_delta delta.serial found.parsed.header;
        items =
            dropped delta.serial found.parsed.items;
      };
      was = file;
      pending = pending_entries (Some old) f.p found read;
      meant = meant;
      out = record {
        header = refl;
        items = refl;
        lines = lines_dropped delta.serial found.parsed.items;
        live = live_removed delta.serial found.parsed.header.records;
        versions = λ rooted. versions_kept delta.serial found.parsed.header.records (lines_of found.parsed.items)
            rules.header.rules.table rooted free;
        rooted = λ rooted. rooted_removed delta.serial (record { header = found.parsed.header; lines = [] }) rooted
            free;
      };
      files = ap (λ (e : StepEffect). e.new) (sym is);
      reads = removal_reads old.bytes found.parsed.header found.parsed.items delta.serial file rules.header
          rules.spelled;
      left = agreement_kept found.parsed.header.records sid delta found.edits rules.header.rules.table may.found
          (pending_agrees (Some old) f.p found read) may.free;
    }

pub removal_made : (sid : Sid) (stamp : Stamp) (n i : List ℕ) (named : List (Option Content)) (f : Files)
    (old : Content) (effect : StepEffect) → f.s ≡ Some old → rmdel_outcome sid stamp n i named f ≡ Ok effect
    → RemovesDelta sid stamp f old effect
removal_made sid stamp n i named f old effect there is =
    let read = passed (pending_of f.s f.p) (λ found. removable sid stamp found.parsed.header found.edits >>= λ delta.
    Ok (removes f found delta)) effect (sym (outcome_is sid stamp n i named f) ∙ is) in
    let meant = passed (removable sid stamp read.0.parsed.header read.0.edits) (λ delta. Ok (removes f read.0 delta))
    effect read.2 in
    made sid stamp f old effect read.0 meant.0 (ap (λ (o : Option Content). pending_of o f.p) (sym there)
    ∙ read.1) meant.1 (effect_is (removes f read.0 meant.0) effect meant.2)
