use Rattle.std.proofs.lemmas.Result.{err_from_is_err_and}
use Rattle.std.proofs.Common.{Ok, Err, sym, ap, subst, ◌∙◌}
use Rattle.std.specs.Prelude.{IfSome}
use Rattle.sccs_base.specs.Name.{p_file, z_file}
use Rattle.sccs_disk.specs.Calls.{IsThere}
use Rattle.sccs_disk.specs.Told.{seen}
use Rattle.sccs_name_files.specs.StepFiles.{is_working}
use Rattle.sccs_changes.specs.Pending.{AnswersPending}
use Rattle.sccs_changes.proofs.PendingLaws.{found_there}
use Rattle.sccs_store.proofs.Working.{same_touches}
use Rattle.sccs_delta.proofs.PrepareLaws.{asked_end, delta_written, pending_end, sizes_end}
use Rattle.sccs_delta.proofs.SettleLaws.{delta_entries}
use Rattle.sccs_delta.proofs.WriteLaws.{some_entries}
use Rattle.sccs_delta.proofs.preparing.prepare_delta.Goals as goal

pub returns-in_err-check_sizes-clause-prepares : goal.returns-in_err-check_sizes-clause-prepares
returns-in_err-check_sizes-clause-prepares g c =
    let p = err_from_is_err_and c.from_residual.result c.from_residual.ensures.1 in
    rw (p.1, p.2) (λ out err.
    sizes_end c.args.words.now c.args.stamp.now c.args.name.now c.args.script.now c.in_err-check_sizes.field-0.0
    (seen (g.D.Disk.told c.args.disk.now)) (seen (g.D.Disk.told c.check_sizes.new.disk)) out err c.requires.sfile
    (ap seen c.check_sizes.ensures.frame.same) c.in_err-check_sizes.ensures.told)

pub returns-in_err-pending-clause-prepares : goal.returns-in_err-pending-clause-prepares
returns-in_err-pending-clause-prepares g c =
    let p = err_from_is_err_and c.from_residual-in_err-pending.result c.from_residual-in_err-pending.ensures.1 in
    rw (p.1, p.2) (λ out err.
    pending_end c.args.words.now c.args.stamp.now c.args.name.now c.args.script.now c.in_err-pending.field-0.0
    (seen (g.D.Disk.told c.args.disk.now)) (seen (g.D.Disk.told c.read_pending.new.disk)) out err c.requires.sfile
    (ap seen (c.read_pending.ensures.frame.same ∙ c.check_sizes.ensures.frame.same))
    c.in_ok-check_sizes.ensures.told
    (subst (λ t. IfSome (seen t) (λ v. AnswersPending (v c.args.name.now) (v (p_file c.args.name.now))
    (Err c.in_err-pending.field-0.0))) c.check_sizes.ensures.frame.same c.in_err-pending.ensures.told))

pub returns-in_err-asked-clause-prepares : goal.returns-in_err-asked-clause-prepares
returns-in_err-asked-clause-prepares g c =
    let p = err_from_is_err_and c.from_residual-in_err-asked.result c.from_residual-in_err-asked.ensures.1 in
    rw (p.1, p.2) (λ out err.
    asked_end c.args.words.now c.args.stamp.now c.args.name.now c.args.script.now c.in_ok-pending.pending
    c.in_err-asked.field-0.0 (seen (g.D.Disk.told c.args.disk.now)) (seen (g.D.Disk.told c.read_pending.new.disk))
    out err c.requires.sfile (ap seen (c.read_pending.ensures.frame.same ∙ c.check_sizes.ensures.frame.same))
    c.in_ok-check_sizes.ensures.told
    (subst (λ t. IfSome (seen t) (λ v. AnswersPending (v c.args.name.now) (v (p_file c.args.name.now))
    (Ok c.in_ok-pending.pending))) c.check_sizes.ensures.frame.same c.in_ok-pending.ensures.told)
    c.in_err-asked.ensures.value)

pub returns-clause-prepares : goal.returns-clause-prepares
returns-clause-prepares g c = λ out err.
    delta_written c.args.words.now c.args.stamp.now c.args.name.now c.args.script.now c.in_ok-pending.pending
    c.in_ok-asked.asked.chosen c.in_ok-asked.asked.script c.prepare_script.result
    (seen (g.D.Disk.told c.args.disk.now)) (g.D.Disk.told c.read_pending.new.disk)
    (g.D.Disk.told c.prepare_script.new.disk) out err c.requires.sfile
    (ap seen (c.read_pending.ensures.frame.same ∙ c.check_sizes.ensures.frame.same)) c.in_ok-check_sizes.ensures.told
    (subst (λ t. IfSome (seen t) (λ v. AnswersPending (v c.args.name.now) (v (p_file c.args.name.now))
    (Ok c.in_ok-pending.pending))) c.check_sizes.ensures.frame.same c.in_ok-pending.ensures.told)
    c.in_ok-pending.ensures.placed c.in_ok-asked.ensures.no_zero c.in_ok-asked.ensures.value.0
    c.in_ok-asked.ensures.value.1 c.prepare_script.ensures.moves c.prepare_script.ensures.told

pub returns-clause-needs : goal.returns-clause-needs
returns-clause-needs g c =
    c.prepare_script.ensures.needs (subst (λ t. IsThere (z_file c.args.name.now) t)
    (sym (c.read_pending.ensures.frame.same ∙ c.check_sizes.ensures.frame.same)) c.requires.locked)
    (found_there c.args.name.now c.in_ok-pending.pending (g.D.Disk.told c.read_pending.new.disk)
    (subst (λ t. IfSome (seen t) (λ v. AnswersPending (v c.args.name.now) (v (p_file c.args.name.now))
    (Ok c.in_ok-pending.pending))) (sym c.read_pending.ensures.frame.same) c.in_ok-pending.ensures.told)
    (some_entries c.in_ok-pending.pending.edits c.in_ok-asked.asked.chosen.number c.in_ok-asked.ensures.some
    c.in_ok-asked.ensures.there))

pub returns-in_err-check_sizes-clause-touches : goal.returns-in_err-check_sizes-clause-touches
returns-in_err-check_sizes-clause-touches g c = same_touches (is_working c.args.name.now) _ _
    c.check_sizes.ensures.frame.same

pub returns-in_err-pending-clause-touches : goal.returns-in_err-pending-clause-touches
returns-in_err-pending-clause-touches g c = same_touches (is_working c.args.name.now) _ _
    (c.read_pending.ensures.frame.same ∙ c.check_sizes.ensures.frame.same)

pub returns-in_err-asked-clause-touches : goal.returns-in_err-asked-clause-touches
returns-in_err-asked-clause-touches g c = same_touches (is_working c.args.name.now) _ _
    (c.read_pending.ensures.frame.same ∙ c.check_sizes.ensures.frame.same)

pub returns-clause-entries : goal.returns-clause-entries
returns-clause-entries g c =
    delta_entries c.args.words.now c.args.stamp.now c.args.name.now c.args.script.now c.in_ok-pending.pending
    c.in_ok-asked.asked.chosen c.in_ok-asked.asked.script c.prepare_script.result
    (seen (g.D.Disk.told c.args.disk.now)) (g.D.Disk.told c.read_pending.new.disk)
    (g.D.Disk.told c.prepare_script.new.disk) c.requires.sfile
    (ap seen (c.read_pending.ensures.frame.same ∙ c.check_sizes.ensures.frame.same)) c.in_ok-check_sizes.ensures.told
    (subst (λ t. IfSome (seen t) (λ v. AnswersPending (v c.args.name.now) (v (p_file c.args.name.now))
    (Ok c.in_ok-pending.pending))) c.check_sizes.ensures.frame.same c.in_ok-pending.ensures.told)
    c.in_ok-pending.ensures.placed c.in_ok-asked.ensures.no_zero c.in_ok-pending.ensures.rules
    c.in_ok-pending.ensures.edits c.in_ok-pending.ensures.agrees c.in_ok-asked.ensures.value.0
    c.in_ok-asked.ensures.value.1 c.prepare_script.ensures.moves c.prepare_script.ensures.told
