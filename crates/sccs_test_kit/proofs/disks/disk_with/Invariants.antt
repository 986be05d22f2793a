use Rattle.std.specs.Prelude.{◌≡◌}
use Rattle.sccs_disk.specs.MemoryDisks.{disk_call}
use Rattle.sccs_test_kit.proofs.disks.disk_with.Given as goal

-- no call is made
abbrev pub invariant-loop-file : goal.invariant-loop-file
invariant-loop-file l = disk_call l.disk ≡ 0
