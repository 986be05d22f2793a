use Rattle.std.proofs.Common.{◌≡◌, ◌++◌, drop, map}
use Rattle.sccs_disk.specs.Effects.{firm}
use Rattle.sccs_disk.specs.MemoryFiles.{filled}
use Rattle.sccs_disk.specs.States.{stored}
use Rattle.sccs_disk.proofs.directories.Directory.left.Given as goal

-- the files so far with those that come
abbrev pub invariant-loop-file : goal.invariant-loop-file
invariant-loop-file l = map stored l.files.items ++ map (λ f. firm (filled l.fill (stored f)))
    (drop l.file-index l.file-items) ≡ map (λ f. firm (filled l.fill (stored f))) l.file-items
