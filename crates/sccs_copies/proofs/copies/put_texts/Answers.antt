use Rattle.sccs_copies.proofs.TextRuns.{no_texts_put}
use Rattle.sccs_copies.proofs.copies.put_texts.Goals as goal

pub returns-else-wanted : goal.returns-else-wanted
returns-else-wanted g c = no_texts_put c.args.wanted c.args.texts.now c.args.out.now (g.D.Disk.told c.args.disk.now)
    (g.D.Disk.faults c.args.disk.now) c.if-wanted.false
