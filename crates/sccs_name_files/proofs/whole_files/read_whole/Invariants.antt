use Rattle.std.proofs.Common.{◌≡◌, ◌≤◌, ◌-◌, ℕ, List, Some, length, take}
use Rattle.sccs_base.specs.Constants.{file_limit}
use Rattle.sccs_disk.specs.Told.{seen}
use Rattle.sccs_name_files.specs.WholeFiles.{file_bytes}
use Rattle.sccs_name_files.proofs.whole_files.read_whole.Given as goal

-- what was read is a front of the file
abbrev pub invariant-pieces : goal.invariant-pieces
invariant-pieces g l = record {
  short : length l.all.items ≤ file_limit;
  front : (bytes : List ℕ) → file_bytes (seen (g.D.Disk.told l.fn.disk)) l.name ≡ Some bytes
      → l.all.items ≡ take (length l.all.items) bytes;
  same : g.D.Disk.told l.disk ≡ g.D.Disk.told l.fn.disk;
  later : g.D.Disk.faults l.fn.disk ≤ g.D.Disk.faults l.disk;
}

abbrev pub decreases-pieces : goal.decreases-pieces
decreases-pieces g l = file_limit - length l.all.items
