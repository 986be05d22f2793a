use Rattle.std.proofs.Common.{◌≡◌, ◌≤◌, ◌+◌, ℕ, List, Some, length}
use Rattle.sccs_base.specs.Constants.{file_limit}
use Rattle.sccs_disk.specs.Told.{seen}
use Rattle.sccs_history.specs.Body.{HistoryLine}
use Rattle.sccs_table.specs.ReaderState.{bytes_in}
use Rattle.sccs_versions.specs.Coming.{Coming}
use Rattle.sccs_versions.specs.Place.{name_of, steps_to_end}
use Rattle.sccs_copies.specs.Examining.{ExaminesSome}
use Rattle.sccs_copies.proofs.examining.see_all.Given as goal

-- some lines of the base went by, and others are to come
abbrev pub invariant-lines : goal.invariant-lines
invariant-lines g l = record {
  same : g.D.Disk.told l.disk ≡ g.D.Disk.told l.fn.disk;
  later : g.D.Disk.faults l.fn.disk ≤ g.D.Disk.faults l.disk;
  name : l.check.lines.name ≡ l.fn.check.lines.name;
  read : name_of l.version ≡ name_of l.fn.version;
  plan : l.at.plan ≡ l.fn.at.plan;
  few : l.at.line ≤ file_limit;
  told : (file : List ℕ) (lines : List HistoryLine) → bytes_in (seen (g.D.Disk.told l.fn.disk)) (name_of l.fn.version)
      ≡ Some file
      → Coming file l.fn.version lines → l.fn.at.line + length lines ≤ file_limit
      → ExaminesSome file l.version (bytes_in (seen (g.D.Disk.told l.fn.disk)) l.fn.check.lines.name) lines l.fn.at l.at
      l.fn.check l.check;
}

-- what is left of the file
abbrev pub decreases-lines : goal.decreases-lines
decreases-lines g l = steps_to_end l.version
