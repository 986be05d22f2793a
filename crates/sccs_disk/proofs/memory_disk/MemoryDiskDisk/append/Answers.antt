use Rattle.sccs_disk.specs.Effects.{appending}
use Rattle.sccs_disk.specs.MemoryDisks.{disk_told}
use Rattle.sccs_disk.proofs.Written.{writes_by}
use Rattle.sccs_disk.proofs.memory_disk.MemoryDiskDisk.append.Goals as goal

pub returns-clause-writes : goal.returns-clause-writes
returns-clause-writes c =
    let call = c.call.ensures in
    writes_by c.call.result c.append_of-change.result (appending c.args.name.now c.args.bytes.now)
    (disk_told c.args.self.now) (disk_told c.call.new.self) c.args.self.now.faults c.call.new.self.faults
    call.done call.err call.made c.append_of-change.ensures call.later call.cause
