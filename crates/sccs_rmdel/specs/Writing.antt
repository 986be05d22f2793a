-- What the parts of rmdel answer and write.
use Rattle.std.specs.Prelude.{◌≡◌, ℕ, true, List, [], Option, Some, Result, Ok, Err}
use Rattle.sccs_base.specs.Name.{x_file}
use Rattle.sccs_disk.specs.Files.{View, put}
use Rattle.sccs_sid.specs.declared.moments.Stamp.{Stamp}
use Rattle.sccs_sid.specs.declared.sids.Sid.{Sid}
use Rattle.sccs_sid.specs.declared.refusals.StepFault.{StepFault}
use Rattle.sccs_sid.specs.declared.refusals.StepFault.TheVariants.{Refused, Memory, ReadFault, WriteFault, DiskFault}
use Rattle.sccs_history.specs.declared.headers.Header.{Header}
use Rattle.sccs_history.specs.declared.headers.Item.{Item}
use Rattle.sccs_history.specs.declared.headers.Record.{Record}
use Rattle.sccs_pfile.specs.declared.entries.Edit.{Edit}
use Rattle.sccs_store.specs.Commits.{Becomes}
use Rattle.sccs_store.specs.SealedFiles.{sealed}
use Rattle.sccs_store.specs.declared.new_files.NewFile.TheVariants.{Keep}
use Rattle.sccs_changes.specs.declared.prepared.Prepared.{Prepared}
use Rattle.sccs_rmdel.specs.RmdelStep.{removable}

-- the serial of the delta that may be removed, or the check that fails
abbrev pub FindsRemovable : Sid → Stamp → Header → List Edit → Result ℕ StepFault → Type 0
FindsRemovable sid stamp header edits (Ok serial) =
    (delta : Record) × (removable sid stamp header edits ≡ Ok delta) × (delta.serial ≡ serial)
FindsRemovable sid stamp header edits (Err (Refused refusal)) = removable sid stamp header edits ≡ Err refusal
FindsRemovable sid stamp header edits (Err _) = ⊥

-- the x-file is this s-file; of a told file no refusal comes
abbrev pub WritesRemoval : {T : Type 0} → List ℕ → Header → List Item → Option View → Option View
    → Result T StepFault → Type 0
WritesRemoval n h items old new (Ok x) = Becomes (λ v. put v (x_file n) (Some (sealed h items))) old new
WritesRemoval n h items old new (Err (Refused refusal)) = ⊥
WritesRemoval n h items old new (Err Memory) = Unit {0}
WritesRemoval n h items old new (Err DiskFault) = Unit {0}
WritesRemoval n h items old new (Err ReadFault) = ⊥
WritesRemoval n h items old new (Err WriteFault) = ⊥

-- The s-file is replaced, all else kept, and nothing is written.
pub record IsRewrite (p : Prepared) : Type 0 where
  pub new_s : p.new_s ≡ true
  pub new_p : p.new_p ≡ Keep
  pub new_g : p.new_g ≡ Keep
  pub report_is : p.report ≡ []
  pub message_is : p.message ≡ []
