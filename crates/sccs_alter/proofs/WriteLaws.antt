-- What the parts that write answer.
use Rattle.std.proofs.Common.{◌≡◌, ◌≢◌, ℕ, true, List, Option, Result, Ok, Err, refl, sym, ap, subst, ◌∙◌, arith}
use Rattle.std.specs.List.{AllByRecursion}
use Rattle.std.specs.Str.{bytes_eq}
use Rattle.sccs_base.specs.Name.{x_file}
use Rattle.sccs_disk.specs.Files.{View}
use Rattle.sccs_disk.specs.Told.{Told}
use Rattle.sccs_sid.specs.Refusal.{number_of}
use Rattle.sccs_sid.specs.declared.refusals.Refusal.{Refusal}
use Rattle.sccs_sid.specs.declared.refusals.StepFault.{StepFault}
use Rattle.sccs_sid.specs.declared.refusals.StepFault.TheVariants.{DiskFault}
use Rattle.sccs_grammar.specs.FileRefusals.{file_fault}
use Rattle.sccs_grammar.specs.declared.faults.FileFault.{FileFault}
use Rattle.sccs_grammar.specs.declared.faults.FileFault.TheVariants as files
use Rattle.sccs_history.specs.declared.headers.Header.{Header}
use Rattle.sccs_history.specs.declared.headers.Item.{Item}
use Rattle.sccs_store.proofs.Working.{same_touches}
use Rattle.sccs_writers.proofs.OneFile.{only_none}
use Rattle.sccs_changes.specs.declared.prepared.Prepared.{Prepared}
use Rattle.sccs_changes.specs.PFiles.{Answers}
use Rattle.sccs_copies.specs.Copies.{MakesFile, MakesOneFile}
use Rattle.sccs_steps.specs.Actions.{RefusesWithin, has_number}
use Rattle.sccs_admin.proofs.RuleLaws.{wider_checks}
use Rattle.sccs_alter.specs.CheckStep.{check_checks}
use Rattle.sccs_alter.specs.Parts.{Alters}

-- ---- the x-file

pub x_written : (h : Header) (items : List Item) (n : List ℕ) (old new : Option View) (done : Unit {0}) (p : Prepared)
    → MakesFile h items (x_file n) old new (Ok done) → Alters (Ok p) (Ok h) items n old new
x_written h items n old new done p makes = (h, refl, makes)

pub x_unwritten : (h : Header) (items : List Item) (n : List ℕ) (old new : Option View) (fault : FileFault)
    (ended : StepFault) → MakesFile h items (x_file n) old new (Err fault) → ended ≡ file_fault fault
    → Alters (Err ended) (Ok h) items n old new
x_unwritten h items n old new files.Failed ended outer is = subst (λ e. Alters (Err e) (Ok h) items n old new)
    (sym is) tt
x_unwritten h items n old new files.Memory ended outer is = subst (λ e. Alters (Err e) (Ok h) items n old new)
    (sym is) tt
x_unwritten h items n old new files.Missing ended outer is = absurd outer
x_unwritten h items n old new files.TooLong ended outer is = absurd outer
x_unwritten h items n old new files.NotSccs ended outer is = absurd outer
x_unwritten h items n old new (files.BadSum stored sum) ended outer is = absurd outer
x_unwritten h items n old new (files.BadFormat line) ended outer is = absurd outer
x_unwritten h items n old new files.Encoded ended outer is = absurd outer
x_unwritten h items n old new (files.Changed a b c d) ended outer is = absurd outer

disk_failed : (fault : FileFault) → file_fault fault ≡ DiskFault → fault ≡ files.Failed
disk_failed files.Failed is = refl
disk_failed files.Memory is = absurd cc
disk_failed files.Missing is = absurd cc
disk_failed files.TooLong is = absurd cc
disk_failed files.NotSccs is = absurd cc
disk_failed (files.BadSum stored sum) is = absurd cc
disk_failed (files.BadFormat line) is = absurd cc
disk_failed files.Encoded is = absurd cc
disk_failed (files.Changed a b c d) is = absurd cc

same_fault : (r : Result Prepared StepFault) (a b : StepFault) → r ≡ Err a → r ≡ Err b → a ≡ b
same_fault r a b first second = cc

pub frame_written : (n : List ℕ) (a b : Told) (f g : ℕ) (done : Unit {0}) (p : Prepared)
    → MakesOneFile n files.Failed a b f g (Ok done) → MakesOneFile n DiskFault a b f g (Ok p)
frame_written n a b f g done p frame =
    record {
      moves = frame.moves;
      there = frame.there;
      touches = frame.touches;
      firm = frame.firm;
      later = frame.later;
      cause = λ failed. absurd cc;
    }

pub frame_unwritten : (n : List ℕ) (a b : Told) (f g : ℕ) (fault : FileFault) (ended : StepFault)
    → ended ≡ file_fault fault → MakesOneFile {T = Unit {0}} n files.Failed a b f g (Err fault)
    → MakesOneFile {T = Prepared} n DiskFault a b f g (Err ended)
frame_unwritten n a b f g fault ended is frame = record {
  moves = frame.moves;
  there = tt;
  touches = frame.touches;
  firm = tt;
  later = frame.later;
  cause = λ failed. frame.cause
      (ap Err (disk_failed fault (sym is ∙ same_fault (Err ended) ended DiskFault refl failed)));
}

-- nothing was written
pub frame_none : (n : List ℕ) (a : Told) (f : ℕ) (fault : StepFault) → fault ≢ DiskFault
    → MakesOneFile {T = Prepared} n DiskFault a a f f (Err fault)
frame_none n a f fault other = record {
  moves = (only_none n a).view;
  there = tt;
  touches = same_touches (bytes_eq n) a a refl;
  firm = tt;
  later = omega arith;
  cause = λ failed. absurd (other (same_fault (Err fault) fault DiskFault refl failed));
}

-- ---- the header

pub header_altered : (r : Result Prepared StepFault) (made : Result Header Refusal) (h : Header) (items : List Item)
    (n : List ℕ) (old new : Option View) → Answers made (Ok h) → Alters r (Ok h) items n old new
    → Alters r made items n old new
header_altered r made h items n old new answers alters = subst (λ m. Alters r m items n old new) (sym answers) alters

-- how a header that isn't made ends
abbrev pub no_header : StepFault → Result Header StepFault
no_header fault = Err fault

-- ---- refusals

-- a refusal of a file is one of a step that makes these checks among others
pub file_refused : {X : Type 0} (r : Result X StepFault) (checks : List ℕ)
    → AllByRecursion (λ check. has_number checks check ≡ true) check_checks → RefusesWithin check_checks r
    → RefusesWithin checks r
file_refused r checks all within = λ refusal is. wider_checks check_checks checks (number_of refusal) all
    (within refusal is)
