use Rattle.sccs_name_files.proofs.Called.{create_owned, create_touched}
use Rattle.sccs_store.proofs.working_files.make.Goals as goal

pub returns-in-Created-clause-touches : goal.returns-in-Created-clause-touches
returns-in-Created-clause-touches g c = create_touched c.args.name.now _ _ c.create.result
    (g.met.D.Disk.sane c.args.disk.now) c.create.ensures.ok c.create.ensures.half c.create.ensures.memory

pub returns-in-Exists-clause-touches : goal.returns-in-Exists-clause-touches
returns-in-Exists-clause-touches g c = create_touched c.args.name.now _ _ c.create.result
    (g.met.D.Disk.sane c.args.disk.now) c.create.ensures.ok c.create.ensures.half c.create.ensures.memory

pub returns-in_err-create-clause-touches : goal.returns-in_err-create-clause-touches
returns-in_err-create-clause-touches g c = create_touched c.args.name.now _ _ c.create.result
    (g.met.D.Disk.sane c.args.disk.now) c.create.ensures.ok c.create.ensures.half c.create.ensures.memory

pub returns-in-Created-clause-own : goal.returns-in-Created-clause-own
returns-in-Created-clause-own g c = create_owned c.args.name.now _ _ (g.met.D.Disk.sane c.args.disk.now)
    (rw c.in-Created.is at c.in_ok-create.ensures.ok)
