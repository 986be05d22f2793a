use Rattle.std.proofs.Common.{ap, ◌∙◌, take, map}
use Rattle.sccs_disk.specs.MemoryFiles.{left_files}
use Rattle.sccs_disk.specs.States.{stored}
use Rattle.sccs_disk.proofs.Left.{left_done}
use Rattle.sccs_disk.proofs.directories.Directory.left.Goals as goal

pub returns-clause-files : goal.returns-clause-files
returns-clause-files c =
    let items = c.args.self.now.files.items in
    left_done c.args.fill c.len-count.result c.loop-file.file-index items (take c.len-count.result c.deref.result.now)
    c.loop-file.files.items (ap (take c.len-count.result) c.deref.ensures.value)
    c.loop-file-test.false c.loop-file.invariant
    ∙ ap (λ count. left_files c.args.fill count (map stored items)) (c.len-count.ensures ∙ c.args.named.now.files.ok.0)
