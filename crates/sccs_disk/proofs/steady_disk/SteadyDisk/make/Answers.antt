use Rattle.sccs_disk.specs.DirectoryStates.{state_of}
use Rattle.sccs_disk.proofs.Sanity.{placed}
use Rattle.sccs_disk.proofs.Views.{shown_done}
use Rattle.sccs_disk.proofs.steady_disk.SteadyDisk.make.Goals as goal

pub returns-in-Ok-clause-done : goal.returns-in-Ok-clause-done
returns-in-Ok-clause-done c =
    let d = c.args.self.now.directory in
    shown_done c.args.change.now (state_of d) (state_of c.make.new.self)
    (placed d.files.items d.names.names.items d.paired) c.in-Ok.ensures.ok
