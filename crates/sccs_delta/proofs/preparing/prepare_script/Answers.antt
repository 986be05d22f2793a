use Rattle.std.proofs.lemmas.Result.{err_from_is_err_and}
use Rattle.std.proofs.Common.{ap, ◌∙◌}
use Rattle.sccs_disk.specs.Told.{seen}
use Rattle.sccs_name_files.specs.StepFiles.{is_working}
use Rattle.sccs_store.proofs.Working.{same_touches}
use Rattle.sccs_table.specs.ReaderState.{bytes_in}
use Rattle.sccs_delta.proofs.ScriptLaws.{script_made, told_body, unfit_makes}
use Rattle.sccs_delta.proofs.preparing.prepare_script.Goals as goal

pub returns-in_err-found-clause-told : goal.returns-in_err-found-clause-told
returns-in_err-found-clause-told g c =
    let p = err_from_is_err_and c.from_residual.result c.from_residual.ensures.1 in
    rw (p.1, p.2) (λ bytes items e told is at.
    unfit_makes (seen (g.D.Disk.told c.args.disk.now)) c.args.words.now c.args.stamp.now c.args.name.now
    c.args.pending.front.header items c.args.pending.edits
    (record { number = c.args.chosen.number; edit = e; base = c.args.chosen.base }) c.args.script.now
    (g.D.Disk.told c.args.disk.now) (g.D.Disk.told c.fit.new.disk) c.in_err-found.field-0.0
    (c.in_err-found.ensures.told bytes items
    (told_body (bytes_in (seen (g.D.Disk.told c.args.disk.now)) c.args.name.now) bytes c.args.pending.front
    c.args.chosen.base.set items told is)))

pub returns-clause-told : goal.returns-clause-told
returns-clause-told g c = λ bytes items e told is at.
    script_made (seen (g.D.Disk.told c.args.disk.now)) c.args.words.now c.args.stamp.now c.args.name.now
    c.args.pending.front.header items c.args.pending.edits
    (record { number = c.args.chosen.number; edit = e; base = c.args.chosen.base }) c.args.script.now
    c.in_ok-found.found
    (g.D.Disk.told c.args.disk.now) (g.D.Disk.told c.fit.new.disk) (g.D.Disk.told c.make.new.disk) c.make.result
    (c.in_ok-found.ensures.told bytes items (told_body (bytes_in (seen (g.D.Disk.told c.args.disk.now)) c.args.name.now)
    bytes c.args.pending.front c.args.chosen.base.set items told is)) c.fit.ensures.frame.same
    (λ lines. c.make.ensures.told bytes items e (ap (λ t. bytes_in (seen t) c.args.name.now) c.fit.ensures.frame.same
    ∙ told) is at lines)

pub returns-in_err-found-clause-touches : goal.returns-in_err-found-clause-touches
returns-in_err-found-clause-touches g c = same_touches (is_working c.args.name.now) _ _ c.fit.ensures.frame.same
