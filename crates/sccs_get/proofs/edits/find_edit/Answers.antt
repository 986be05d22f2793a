use Rattle.std.proofs.lemmas.Result.{err_from_is_err_and}
use Rattle.std.proofs.Common.{ap}
use Rattle.sccs_disk.specs.Told.{seen}
use Rattle.sccs_get.proofs.ReservedLaws.{all_found, no_entry, no_version, unread}
use Rattle.sccs_get.proofs.edits.find_edit.Goals as goal

pub returns-in_err-pending-clause-told : goal.returns-in_err-pending-clause-told
returns-in_err-pending-clause-told g c =
    let p = err_from_is_err_and c.from_residual.result c.from_residual.ensures.1 in
    rw (p.1, p.2) (unread c.args.get.now.words.now c.args.get.now.stamp.now c.args.get.now.place.now c.args.name.now
    (seen (g.D.Disk.told c.args.disk.now)) c.in_err-pending.field-0.0 c.in_err-pending.ensures.told)

pub returns-in_err-edit-clause-told : goal.returns-in_err-edit-clause-told
returns-in_err-edit-clause-told g c =
    let p = err_from_is_err_and c.from_residual-in_err-edit.result c.from_residual-in_err-edit.ensures.1 in
    rw (p.1, p.2) (no_entry c.args.get.now.words.now c.args.get.now.stamp.now c.args.get.now.place.now c.args.name.now
    (seen (g.D.Disk.told c.args.disk.now)) (seen (g.D.Disk.told c.read_pending.new.disk)) c.in_ok-pending.pending
    c.in_ok-in_the_way.in_the_way c.in_err-edit.field-0.0
    (ap seen c.read_pending.ensures.frame.same) c.in_ok-pending.ensures.told c.in_ok-in_the_way.ensures.told
    c.in_err-edit.ensures.value)

pub returns-in_err-version-clause-told : goal.returns-in_err-version-clause-told
returns-in_err-version-clause-told g c =
    let p = err_from_is_err_and c.from_residual-in_err-version.result c.from_residual-in_err-version.ensures.1 in
    rw (p.1, p.2) (no_version c.args.get.now.words.now c.args.get.now.stamp.now c.args.get.now.place.now c.args.name.now
    (seen (g.D.Disk.told c.args.disk.now)) (seen (g.D.Disk.told c.read_pending.new.disk)) c.in_ok-pending.pending
    c.in_ok-in_the_way.in_the_way c.in_ok-edit.edit c.in_err-version.field-0.0
    (ap seen c.read_pending.ensures.frame.same) c.in_ok-pending.ensures.told c.in_ok-in_the_way.ensures.told
    c.in_ok-edit.ensures.value c.in_err-version.ensures.value)

pub returns-clause-told : goal.returns-clause-told
returns-clause-told g c =
    all_found c.args.get.now.words.now c.args.get.now.stamp.now c.args.get.now.place.now c.args.name.now
    (seen (g.D.Disk.told c.args.disk.now)) (seen (g.D.Disk.told c.read_pending.new.disk)) c.in_ok-pending.pending
    c.in_ok-in_the_way.in_the_way c.in_ok-edit.edit c.in_ok-version.version
    (ap seen c.read_pending.ensures.frame.same) c.in_ok-pending.ensures.told c.in_ok-in_the_way.ensures.told
    c.in_ok-edit.ensures.value c.in_ok-version.ensures.value
