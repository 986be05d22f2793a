use Rattle.std.proofs.Common.{◌≡◌, ◌≤◌, ℕ, List, Some}
use Rattle.sccs_disk.specs.Told.{seen}
use Rattle.sccs_history.specs.Body.{HistoryLine}
use Rattle.sccs_history.specs.declared.headers.Item.{Item}
use Rattle.sccs_table.specs.ReaderState.{bytes_in}
use Rattle.sccs_versions.specs.Coming.{Coming}
use Rattle.sccs_versions.specs.Place.{name_of, steps_to_end}
use Rattle.sccs_versions.specs.WasRead.{HasRead}
use Rattle.sccs_printing.specs.Giving.{KeepsForm, Moved, ReadSome}
use Rattle.sccs_printing.specs.Targets.{KeepsTargetMark, Reaches, file_of, target_bytes}
use Rattle.sccs_printing.proofs.givings.give_all.Given as goal

-- some of the lines were given, and no count fell
abbrev pub invariant-lines : goal.invariant-lines
invariant-lines g l = record {
  keeps : KeepsForm l.fn.giving l.giving;
  reaches : Reaches (file_of l.fn.giving.target) (g.O.Sink.given l.fn.out) (g.O.Sink.given l.out)
      (g.D.Disk.told l.fn.disk) (g.D.Disk.told l.disk);
  mark : KeepsTargetMark (file_of l.fn.giving.target) (g.D.Disk.told l.fn.disk) (g.D.Disk.told l.disk);
  later : g.D.Disk.faults l.fn.disk ≤ g.D.Disk.faults l.disk;
  out_later : g.O.Sink.faults l.fn.out ≤ g.O.Sink.faults l.out;
  name : name_of l.version ≡ name_of l.fn.version;
  set : l.version.set ≡ l.fn.version.set;
  read : (live : List ℕ) (before : List Item) → HasRead live l.fn.version before
      → ReadSome live l.version before l.fn.giving l.giving (target_bytes (file_of l.fn.giving.target)
      (g.O.Sink.given l.fn.out) (g.D.Disk.told l.fn.disk)) (target_bytes (file_of l.fn.giving.target)
      (g.O.Sink.given l.out) (g.D.Disk.told l.disk));
  moved : (file : List ℕ) (lines : List HistoryLine) → bytes_in (seen (g.D.Disk.told l.fn.disk)) (name_of l.fn.version)
      ≡ Some file → Coming file l.fn.version lines
      → Moved file l.version lines l.fn.giving l.giving (target_bytes (file_of l.fn.giving.target)
      (g.O.Sink.given l.fn.out) (g.D.Disk.told l.fn.disk)) (target_bytes (file_of l.fn.giving.target)
      (g.O.Sink.given l.out) (g.D.Disk.told l.disk));
}

-- what is left of the file
abbrev pub decreases-lines : goal.decreases-lines
decreases-lines g l = steps_to_end l.version
