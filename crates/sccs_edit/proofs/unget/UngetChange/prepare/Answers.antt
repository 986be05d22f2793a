use Rattle.std.proofs.lemmas.Result.{err_from_is_err_and}
use Rattle.std.proofs.Common.{◌≡◌, ℕ, false, Ok, Err, ap, subst}
use Rattle.sccs_disk.specs.Told.{seen}
use Rattle.sccs_pfile.specs.Choices.{choice, fits}
use Rattle.sccs_steps.specs.Actions.{quiet_checks}
use Rattle.sccs_changes.specs.NewEntries.{or_no_edit}
use Rattle.sccs_changes.specs.PFiles.{Answers}
use Rattle.sccs_changes.proofs.EntryChanges.{decided_prepares, decided_ready, decided_speaks, undecided_prepares}
use Rattle.sccs_changes.proofs.EntryChanges.{unread_prepares}
use Rattle.sccs_edit.specs.UngetStep.{unget_checks, unget_decides, without_entry}
use Rattle.sccs_edit.proofs.UngetLaws.{none_meant, one_meant, some_edits}
use Rattle.std.specs.Str.{bytes_eq}
use Rattle.std.proofs.Common.{◌-◌}
use Rattle.std.proofs.lemmas.List.Elements.{recursion_from_All}
use Rattle.sccs_base.specs.Name.{q_file}
use Rattle.sccs_name_files.specs.StepFiles.{is_working}
use Rattle.sccs_name_files.proofs.Touched.{only_wider}
use Rattle.sccs_crash_points.proofs.FileNames.{no_q}
use Rattle.sccs_pfile.specs.Entries.{IsEdit}
use Rattle.sccs_pfile.specs.Recovered.{is_done}
use Rattle.sccs_store.proofs.Working.{same_touches, touches_from}
use Rattle.sccs_changes.proofs.StopLaws.{agreeing_undone, decided_settles, firm_still, still_all}
use Rattle.sccs_edit.proofs.unget.UngetChange.prepare.Goals as goal

pub returns-in_err-found-clause-prepares : goal.returns-in_err-found-clause-prepares
returns-in_err-found-clause-prepares g c =
    let p = err_from_is_err_and c.from_residual.result c.from_residual.ensures.1 in
    rw (p.1, p.2) (λ err.
    unread_prepares (unget_decides c.args.self.now.words.now c.args.self.now.stamp.now c.args.self.now.heading)
    (quiet_checks unget_checks) c.in_err-found.field-0.0 c.args.name.now _ _ _ _ err c.requires.sfile
    (ap seen c.read_pending.ensures.frame.same) c.in_err-found.ensures.told)

pub returns-clause-prepares : goal.returns-clause-prepares
returns-clause-prepares g c = λ err.
    decided_prepares (unget_decides c.args.self.now.words.now c.args.self.now.stamp.now c.args.self.now.heading)
    (quiet_checks unget_checks) c.args.name.now c.in_ok-found.found
    (without_entry c.args.self.now.words.now c.args.self.now.heading c.args.name.now c.in_ok-found.found.edits
    c.in_ok-number.number) c.drop_entry.result _
    (g.D.Disk.told c.args.disk.now) (g.D.Disk.told c.read_pending.new.disk) (g.D.Disk.told c.drop_entry.new.disk) _ err
    c.requires.sfile c.read_pending.ensures.frame.same c.in_ok-found.ensures.told
    (one_meant c.args.self.now.words.now c.args.self.now.stamp.now c.args.self.now.heading c.args.name.now
    c.in_ok-found.found c.in_ok-number.number
    (subst (λ sid. or_no_edit (choice (fits c.args.self.now.stamp.now.login sid false) c.in_ok-found.found.edits)
    ≡ Ok c.in_ok-number.number) c.as_ref.ensures.value c.in_ok-number.ensures.value))
    c.drop_entry.ensures.drops

pub returns-clause-needs : goal.returns-clause-needs
returns-clause-needs g c =
    decided_ready c.args.name.now c.in_ok-found.found (without_entry c.args.self.now.words.now c.args.self.now.heading
    c.args.name.now c.in_ok-found.found.edits c.in_ok-number.number) c.drop_entry.result
    (g.D.Disk.told c.args.disk.now) (g.D.Disk.told c.read_pending.new.disk) (g.D.Disk.told c.drop_entry.new.disk)
    c.requires.sfile c.read_pending.ensures.frame.same c.requires.locked c.in_ok-found.ensures.told
    (some_edits c.in_ok-found.found.edits c.in_ok-number.number c.in_ok-number.ensures.some
    c.in_ok-number.ensures.there) c.drop_entry.ensures.drops

pub returns-clause-speaks : goal.returns-clause-speaks
returns-clause-speaks g c =
    decided_speaks unget_checks c.args.name.now (without_entry c.args.self.now.words.now c.args.self.now.heading
    c.args.name.now c.in_ok-found.found.edits c.in_ok-number.number) c.drop_entry.result _ _
    c.drop_entry.ensures.drops c.drop_entry.ensures.checks

pub returns-in_err-number-clause-prepares : goal.returns-in_err-number-clause-prepares
returns-in_err-number-clause-prepares g c =
    let p = err_from_is_err_and c.from_residual-in_err-number.result c.from_residual-in_err-number.ensures.1 in
    rw (p.1, p.2) (λ err.
    undecided_prepares (unget_decides c.args.self.now.words.now c.args.self.now.stamp.now c.args.self.now.heading)
    (quiet_checks unget_checks) c.in_err-number.field-0.0 c.args.name.now c.in_ok-found.found _ _ _ _ err
    c.requires.sfile (ap seen c.read_pending.ensures.frame.same) c.in_ok-found.ensures.told
    (none_meant c.args.self.now.words.now c.args.self.now.stamp.now c.args.self.now.heading c.args.name.now
    c.in_ok-found.found c.in_err-number.field-0.0
    (subst (λ sid. Answers {A = ℕ}
    (or_no_edit (choice (fits c.args.self.now.stamp.now.login sid false) c.in_ok-found.found.edits))
    (Err c.in_err-number.field-0.0)) c.as_ref.ensures.value c.in_err-number.ensures.value)))

pub returns-in_err-found-clause-touches : goal.returns-in_err-found-clause-touches
returns-in_err-found-clause-touches g c = same_touches (is_working c.args.name.now) _ _
    c.read_pending.ensures.frame.same

pub returns-in_err-number-clause-touches : goal.returns-in_err-number-clause-touches
returns-in_err-number-clause-touches g c = same_touches (is_working c.args.name.now) _ _
    c.read_pending.ensures.frame.same

pub returns-clause-touches : goal.returns-clause-touches
returns-clause-touches g c =
    touches_from (is_working c.args.name.now) _ (g.D.Disk.told c.read_pending.new.disk) _
    c.read_pending.ensures.frame.same (only_wider (bytes_eq (q_file c.args.name.now)) (is_working c.args.name.now) _
    _ (no_q c.args.name.now) c.drop_entry.ensures.touches)

pub returns-clause-firm : goal.returns-clause-firm
returns-clause-firm g c = firm_still c.drop_entry.result c.args.name.now _ (g.D.Disk.told c.read_pending.new.disk) _
    c.read_pending.ensures.frame.same c.drop_entry.ensures.firm

pub returns-clause-entries : goal.returns-clause-entries
returns-clause-entries g c =
    decided_settles c.args.name.now c.in_ok-found.found (without_entry c.args.self.now.words.now c.args.self.now.heading
    c.args.name.now c.in_ok-found.found.edits c.in_ok-number.number) c.drop_entry.result
    (g.D.Disk.told c.args.disk.now) (g.D.Disk.told c.read_pending.new.disk) (g.D.Disk.told c.drop_entry.new.disk)
    c.requires.sfile c.read_pending.ensures.frame.same c.in_ok-found.ensures.told
    (still_all IsEdit c.in_ok-found.found.edits (c.in_ok-number.number - 1)
    (recursion_from_All IsEdit c.in_ok-found.found.edits c.in_ok-found.ensures.edits))
    (still_all (λ e. is_done c.in_ok-found.found.front.header.records e ≡ false) c.in_ok-found.found.edits
    (c.in_ok-number.number - 1) (agreeing_undone c.in_ok-found.found.front.header.records c.in_ok-found.found.edits
    c.in_ok-found.found.edits c.in_ok-found.ensures.agrees)) c.drop_entry.ensures.drops
