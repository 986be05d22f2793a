use Rattle.std.proofs.lemmas.Result.{err_from_is_err_and}
use Rattle.std.proofs.Common.{None, ap}
use Rattle.sccs_disk.specs.Told.{seen}
use Rattle.sccs_get.specs.SummaryStep.{summary_got, writes_l}
use Rattle.sccs_get.proofs.EditPrepares.{cut_change, edit_speaks, found_change, none_speaks, unfound_prepares}
use Rattle.sccs_get.proofs.EditSums.{drafts_both, drafts_same, drafts_summary, fault_causes, firm_behind}
use Rattle.sccs_get.proofs.EditSums.{pending_behind, z_behind}
use Rattle.sccs_get.proofs.SpeakLaws.{as_step, print_print, read_later, read_print}
use Rattle.sccs_get.proofs.edits.ReserveChange.prepare.Goals as goal

pub returns-in_err-reserved-clause-prepares : goal.returns-in_err-reserved-clause-prepares
returns-in_err-reserved-clause-prepares g c = let p =
    err_from_is_err_and c.from_residual.result c.from_residual.ensures.1 in
    rw (p.1, p.2) (λ err. unfound_prepares c.args.self.now.words.now c.args.self.now.stamp.now c.args.self.now.place.now
    c.args.self.now.heading c.args.name.now c.in_err-reserved.field-0.0 _ _ _ _ err c.requires.sfile
    (ap seen c.find_edit.ensures.frame.same) c.in_err-reserved.ensures.told)

pub returns-in_err-reserved-clause-touches : goal.returns-in_err-reserved-clause-touches
returns-in_err-reserved-clause-touches g c = drafts_same (writes_l c.args.self.now.words.now) c.args.name.now _ _
    c.find_edit.ensures.frame.same

pub returns-in_err-give_summary-clause-prepares : goal.returns-in_err-give_summary-clause-prepares
returns-in_err-give_summary-clause-prepares g c = let p = err_from_is_err_and c.from_residual-in_err-give_summary.result
    c.from_residual-in_err-give_summary.ensures.1 in
    rw (p.1, p.2) (λ err. cut_change c.args.self.now.words.now c.args.self.now.stamp.now c.args.self.now.place.now
    c.args.self.now.heading c.args.name.now c.in_ok-reserved.reserved c.in_err-give_summary.field-0.0 _
    (g.D.Disk.told c.args.disk.now) (g.D.Disk.told c.find_edit.new.disk) (g.D.Disk.told c.give_summary.new.disk)
    (g.O.Sink.given c.args.out.now) (g.O.Sink.given c.give_summary.new.out) err c.requires.sfile
    c.find_edit.ensures.frame.same c.in_ok-reserved.ensures.told (c.in_err-give_summary.ensures.gives err))

pub returns-in_err-give_summary-clause-touches : goal.returns-in_err-give_summary-clause-touches
returns-in_err-give_summary-clause-touches g c = drafts_summary (writes_l c.args.self.now.words.now) c.args.name.now
    (g.D.Disk.told c.args.disk.now) (g.D.Disk.told c.find_edit.new.disk) (g.D.Disk.told c.give_summary.new.disk)
    c.find_edit.ensures.frame.same c.give_summary.ensures.same c.give_summary.ensures.others

pub returns-in_err-give_summary-clause-speaks : goal.returns-in_err-give_summary-clause-speaks
returns-in_err-give_summary-clause-speaks g c = let p = err_from_is_err_and c.from_residual-in_err-give_summary.result
    c.from_residual-in_err-give_summary.ensures.1 in
    rw (p.1, p.2) (none_speaks c.args.self.now.words.now c.in_err-give_summary.field-0.0
    c.in_err-give_summary.ensures.checks)

pub returns-in_err-give_summary-clause-causes : goal.returns-in_err-give_summary-clause-causes
returns-in_err-give_summary-clause-causes g c = let p = err_from_is_err_and c.from_residual-in_err-give_summary.result
    c.from_residual-in_err-give_summary.ensures.1 in
    rw (p.1, p.2) (λ err. as_step _ _ _ _ err _ _ (fault_causes c.in_err-give_summary.field-0.0 _ _ _ _
    (read_print _ _ _ _ _ _ c.find_edit.ensures.frame.later c.in_err-give_summary.ensures.causes)))

pub returns-clause-prepares : goal.returns-clause-prepares
returns-clause-prepares g c = λ err. found_change c.args.self.now.words.now c.args.self.now.stamp.now
    c.args.self.now.place.now c.args.self.now.heading c.args.name.now c.in_ok-reserved.reserved c.give_edit.result _
    (g.D.Disk.told c.args.disk.now) (g.D.Disk.told c.find_edit.new.disk) (g.D.Disk.told c.give_summary.new.disk)
    (g.D.Disk.told c.give_edit.new.disk) (g.O.Sink.given c.args.out.now) (g.O.Sink.given c.give_summary.new.out)
    (g.O.Sink.given c.give_edit.new.out) err c.requires.sfile c.find_edit.ensures.frame.same
    c.in_ok-reserved.ensures.placed c.in_ok-reserved.ensures.no_zero c.in_ok-reserved.ensures.told
    (c.in_ok-give_summary.ensures.gives err) (λ v file items is body. c.give_edit.ensures.prepares v file items err is
    body)

pub returns-clause-needs : goal.returns-clause-needs
returns-clause-needs g c = c.give_edit.ensures.needs (z_behind (writes_l c.args.self.now.words.now) c.args.name.now
    (summary_got c.args.self.now.words.now c.in_ok-reserved.reserved.pending.front.header.records
    c.in_ok-reserved.reserved.version) (g.D.Disk.told c.args.disk.now) (g.D.Disk.told c.find_edit.new.disk)
    (g.D.Disk.told c.give_summary.new.disk) c.find_edit.ensures.frame.same (c.in_ok-give_summary.ensures.gives None).1
    c.requires.locked)

pub returns-clause-touches : goal.returns-clause-touches
returns-clause-touches g c = drafts_both (writes_l c.args.self.now.words.now) c.args.name.now
    (g.D.Disk.told c.args.disk.now) (g.D.Disk.told c.find_edit.new.disk) (g.D.Disk.told c.give_summary.new.disk)
    (g.D.Disk.told c.give_edit.new.disk) c.find_edit.ensures.frame.same c.give_summary.ensures.same
    c.give_summary.ensures.others c.give_edit.ensures.touches

pub returns-clause-firm : goal.returns-clause-firm
returns-clause-firm g c = firm_behind c.give_edit.result c.args.name.now (g.D.Disk.told c.args.disk.now)
    (g.D.Disk.told c.find_edit.new.disk) (g.D.Disk.told c.give_summary.new.disk) (g.D.Disk.told c.give_edit.new.disk)
    c.find_edit.ensures.frame.same c.give_summary.ensures.others c.give_edit.ensures.firm

pub returns-clause-entries : goal.returns-clause-entries
returns-clause-entries g c = c.give_edit.ensures.entries c.in_ok-reserved.ensures.agrees c.in_ok-reserved.ensures.free
    (pending_behind (writes_l c.args.self.now.words.now) c.args.name.now
    (summary_got c.args.self.now.words.now c.in_ok-reserved.reserved.pending.front.header.records
    c.in_ok-reserved.reserved.version) c.in_ok-reserved.reserved.pending (g.D.Disk.told c.args.disk.now)
    (g.D.Disk.told c.find_edit.new.disk) (g.D.Disk.told c.give_summary.new.disk) c.requires.sfile
    c.find_edit.ensures.frame.same (c.in_ok-give_summary.ensures.gives None).1 c.in_ok-reserved.ensures.pending)

pub returns-clause-speaks : goal.returns-clause-speaks
returns-clause-speaks g c = edit_speaks c.args.self.now.words.now c.give_edit.result c.give_edit.ensures.says
    c.give_edit.ensures.checks

pub returns-clause-causes : goal.returns-clause-causes
returns-clause-causes g c = λ err. as_step c.give_edit.result _ _ _ err _ _
    (print_print c.give_edit.result _ _ _ _ _ _ c.give_summary.ensures.causes.out_later
    (read_later _ _ _ c.find_edit.ensures.frame.later c.give_summary.ensures.causes.disk_later)
    c.give_edit.ensures.causes)
