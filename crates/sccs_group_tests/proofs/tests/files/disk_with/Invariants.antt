use Rattle.std.proofs.Common.{◌≡◌}
use Rattle.sccs_disk.specs.MemoryDisks.{disk_call}
use Rattle.sccs_group_tests.proofs.tests.files.disk_with.Given as goal

abbrev pub invariant-loop-file : goal.invariant-loop-file
invariant-loop-file l = disk_call l.disk ≡ 0
