use Rattle.std.proofs.Common.{◌≡◌, ◌≤◌, ◌-◌, ℕ, List, Some}
use Rattle.sccs_disk.specs.Told.{seen}
use Rattle.sccs_name_files.specs.WholeFiles.{file_bytes}
use Rattle.sccs_what.specs.Owed.{Searches}
use Rattle.sccs_what.specs.declared.searches.Search.TheVariants.{Unfound}
use Rattle.sccs_what.proofs.files.search_file.Given as goal

-- what was searched of the file so far
abbrev pub invariant-pieces : goal.invariant-pieces
invariant-pieces g l = record {
  so_far : (bytes : List ℕ) → file_bytes (seen (g.D.Disk.told l.fn.disk)) l.name ≡ Some bytes
      → Searches l.first bytes l.from Unfound l.search l.fn.held l.held (g.O.Sink.given l.fn.out)
      (g.O.Sink.given l.out);
  same : g.D.Disk.told l.disk ≡ g.D.Disk.told l.fn.disk;
  later : g.O.Sink.faults l.fn.out ≤ g.O.Sink.faults l.out;
  disk_later : g.D.Disk.faults l.fn.disk ≤ g.D.Disk.faults l.disk;
}

abbrev pub decreases-pieces : goal.decreases-pieces
decreases-pieces g l = l.size - l.from
