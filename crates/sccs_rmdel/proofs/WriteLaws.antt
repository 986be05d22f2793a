-- An s-file that is written without a delta.
use Rattle.std.proofs.Common.{◌≡◌, ℕ, List, [], Option, Some, Err, sym, subst}
use Rattle.sccs_base.specs.Name.{x_file}
use Rattle.sccs_disk.specs.Files.{View, put}
use Rattle.sccs_sid.specs.declared.refusals.StepFault.{StepFault}
use Rattle.sccs_sid.specs.declared.refusals.StepFault.TheVariants.{Refused, Memory, ReadFault, WriteFault, DiskFault}
use Rattle.sccs_grammar.specs.FileRefusals.{file_fault}
use Rattle.sccs_grammar.specs.declared.faults.FileFault.{FileFault}
use Rattle.sccs_grammar.specs.declared.faults.FileFault.TheVariants as files
use Rattle.sccs_history.specs.declared.headers.Header.{Header}
use Rattle.sccs_history.specs.declared.headers.Item.{Item}
use Rattle.sccs_store.specs.Commits.{Becomes}
use Rattle.sccs_store.specs.SealedFiles.{sealed}
use Rattle.sccs_changes.specs.declared.prepared.Prepared.{Prepared}
use Rattle.sccs_copies.specs.Copies.{MakesFile}
use Rattle.sccs_rmdel.specs.Writing.{WritesRemoval}

-- ---- the copy

-- ---- the x-file

pub x_unwritten : (h : Header) (items : List Item) (n : List ℕ) (old new : Option View) (fault : FileFault)
    (ended : StepFault) → MakesFile h items (x_file n) old new (Err fault) → ended ≡ file_fault fault
    → WritesRemoval {T = Unit {0}} n h items old new (Err ended)
x_unwritten h items n old new files.Failed ended outer is = subst (λ e. WritesRemoval {T = Unit {0}} n h items old new
    (Err e)) (sym is) tt
x_unwritten h items n old new files.Memory ended outer is = subst (λ e. WritesRemoval {T = Unit {0}} n h items old new
    (Err e)) (sym is) tt
x_unwritten h items n old new files.Missing ended outer is = absurd outer
x_unwritten h items n old new files.TooLong ended outer is = absurd outer
x_unwritten h items n old new files.NotSccs ended outer is = absurd outer
x_unwritten h items n old new (files.BadSum stored sum) ended outer is = absurd outer
x_unwritten h items n old new (files.BadFormat line) ended outer is = absurd outer
x_unwritten h items n old new files.Encoded ended outer is = absurd outer
x_unwritten h items n old new (files.Changed a b c d) ended outer is = absurd outer

-- ---- the x-file is firm, and no q-file takes a place

-- ---- the same, of an equal header and in another type

pub written_as : (n : List ℕ) (h h2 : Header) (items : List Item) (old new : Option View) → h ≡ h2
    → Becomes (λ v. put v (x_file n) (Some (sealed h items))) old new
    → Becomes (λ v. put v (x_file n) (Some (sealed h2 items))) old new
written_as n h h2 items old new same is = subst (λ (x : Header). Becomes (λ v. put v (x_file n) (Some (sealed x items)))
    old new) same is

pub retyped : (n : List ℕ) (h h2 : Header) (items : List Item) (old new : Option View) (fault : StepFault)
    → WritesRemoval {T = Unit {0}} n h items old new (Err fault) → WritesRemoval {T = Prepared} n h2 items old new
    (Err fault)
retyped n h h2 items old new (Refused refusal) writes = writes
retyped n h h2 items old new Memory writes = tt
retyped n h h2 items old new ReadFault writes = writes
retyped n h h2 items old new WriteFault writes = writes
retyped n h h2 items old new DiskFault writes = tt
