use Rattle.std.proofs.Common.{◌≡◌, ◌≤◌, ℕ, List, Some}
use Rattle.sccs_disk.specs.Told.{seen}
use Rattle.sccs_history.specs.Body.{HistoryLine}
use Rattle.sccs_table.specs.ReaderState.{bytes_in}
use Rattle.sccs_versions.specs.Coming.{Coming}
use Rattle.sccs_versions.specs.Place.{name_of, steps_to_end}
use Rattle.sccs_printing.specs.Searching.{Searched}
use Rattle.sccs_printing.proofs.keyword_search.search_all.Given as goal

-- some of the lines were searched
abbrev pub invariant-lines : goal.invariant-lines
invariant-lines g l = record {
  same : g.D.Disk.told l.disk ≡ g.D.Disk.told l.fn.disk;
  later : g.D.Disk.faults l.fn.disk ≤ g.D.Disk.faults l.disk;
  name : name_of l.version ≡ name_of l.fn.version;
  told : (file : List ℕ) (lines : List HistoryLine) → bytes_in (seen (g.D.Disk.told l.fn.disk)) (name_of l.fn.version)
      ≡ Some file → Coming file l.fn.version lines → Searched file l.version lines l.found;
}

-- what is left of the file
abbrev pub decreases-lines : goal.decreases-lines
decreases-lines g l = steps_to_end l.version
