use Rattle.sccs_prs.proofs.deltas.put_part.Goals as goal

pub returns-in-Plain-clause-causes : goal.returns-in-Plain-clause-causes
returns-in-Plain-clause-causes g c = c.put.ensures.causes (g.D.Disk.faults c.args.disk.now)

pub returns-in-Item-clause-causes : goal.returns-in-Item-clause-causes
returns-in-Item-clause-causes g c = c.put_item.ensures.causes (g.D.Disk.faults c.args.disk.now)
