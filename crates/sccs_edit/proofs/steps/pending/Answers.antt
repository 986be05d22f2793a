use Rattle.std.proofs.lemmas.Result.{err_from_is_err_and}
use Rattle.std.proofs.Common.{ap}
use Rattle.sccs_disk.specs.Told.{seen}
use Rattle.sccs_edit.proofs.PendingLaws.{finds_none, printed_causes, prints_entries}
use Rattle.sccs_edit.proofs.steps.pending.Goals as goal

pub returns-clause-meets : goal.returns-clause-meets
returns-clause-meets g c =
    prints_entries c.args.whole c.args.name.now c.in_ok-edits.edits c.print_pending.result
    (seen (g.D.Disk.told c.args.disk.now)) (seen (g.D.Disk.told c.find_edits.new.disk))
    (g.O.Sink.given c.args.out.now) (g.O.Sink.given c.print_pending.new.out)
    (ap seen c.find_edits.ensures.frame.same) c.in_ok-edits.ensures.told c.print_pending.ensures.prints

pub returns-clause-causes : goal.returns-clause-causes
returns-clause-causes g c = printed_causes c.print_pending.result _ _ _ _ c.find_edits.ensures.frame.later
    c.print_pending.ensures.causes

pub returns-in_err-edits-clause-meets : goal.returns-in_err-edits-clause-meets
returns-in_err-edits-clause-meets g c =
    let p = err_from_is_err_and c.from_residual.result c.from_residual.ensures.1 in
    rw (p.1, p.2) (finds_none c.args.whole c.args.name.now c.in_err-edits.field-0.0 (seen
    (g.D.Disk.told c.args.disk.now)) (seen (g.D.Disk.told c.find_edits.new.disk)) (g.O.Sink.given c.args.out.now)
    (ap seen c.find_edits.ensures.frame.same) c.in_err-edits.ensures.told)
