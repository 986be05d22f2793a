use Rattle.std.proofs.Common.{◌≡◌, ◌++◌, drop}
use Rattle.sccs_disk.specs.Places.{names_placed}
use Rattle.sccs_disk.proofs.name_table.NameTable.list.Given as goal

-- the names so far with those that come
abbrev pub invariant-loop-place : goal.invariant-loop-place
invariant-loop-place l = l.names ++ names_placed (drop l.place l.self.names.items) ≡ names_placed l.self.names.items
