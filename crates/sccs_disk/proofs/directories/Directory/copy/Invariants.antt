use Rattle.std.proofs.Common.{◌≡◌, ◌++◌, drop, map}
use Rattle.sccs_disk.specs.States.{stored}
use Rattle.sccs_disk.proofs.directories.Directory.copy.Given as goal

-- the files so far with those that come
abbrev pub invariant-loop-file : goal.invariant-loop-file
invariant-loop-file l = map stored l.files.items ++ map stored (drop l.file-index l.self.files.items)
    ≡ map stored l.self.files.items
