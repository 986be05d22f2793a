use Rattle.std.proofs.lemmas.Result.{err_from_is_err_and}
use Rattle.std.proofs.Common.{[], refl}
use Rattle.sccs_script_laws.specs.Places.{told_behind}
use Rattle.sccs_splicer.specs.Splices.{items_owed}
use Rattle.sccs_name_files.specs.StepFiles.{is_working}
use Rattle.sccs_store.proofs.Working.{same_touches}
use Rattle.sccs_delta.proofs.ScriptLaws.{made_speaks}
use Rattle.sccs_delta.proofs.WriteLaws.{delta_made, no_sfile}
use Rattle.sccs_delta.proofs.preparing.make.Goals as goal

pub returns-in_err-file-clause-told : goal.returns-in_err-file-clause-told
returns-in_err-file-clause-told g c =
    let p = err_from_is_err_and c.from_residual.result c.from_residual.ensures.1 in
    rw (p.1, p.2) (λ bytes items e told is at lines.
    no_sfile c.args.words.now c.args.stamp.now c.args.name.now c.args.pending.front.header items c.args.pending.edits
    (record { number = c.args.chosen.number; edit = e; base = c.args.chosen.base }) c.args.script.now
    c.args.found.now.lines c.args.found.now.keyword (g.D.Disk.told c.args.disk.now) (g.D.Disk.told c.args.disk.now)
    c.in_err-file.field-0.0 (c.in_err-file.ensures.makes e at))

pub returns-clause-told : goal.returns-clause-told
returns-clause-told g c = λ bytes items e told is at lines.
    delta_made c.args.words.now c.args.stamp.now c.args.name.now c.args.pending.front.header items c.args.pending.edits
    (record { number = c.args.chosen.number; edit = e; base = c.args.chosen.base }) c.args.script.now
    c.args.found.now.lines c.args.found.now.keyword c.in_ok-file.file c.in-Ok.said.report c.in-Ok.said.message
    c.write_files.result _ _
    lines (c.in_ok-file.ensures.makes e at) c.in-Ok.ensures.report c.in-Ok.ensures.message
    (c.write_files.ensures.told bytes (items_owed c.in_ok-file.file.copying.filter.splicer
    (told_behind c.args.chosen.base.set [] items)) told (c.in_ok-file.ensures.told bytes items is lines))

pub returns-in_err-file-clause-touches : goal.returns-in_err-file-clause-touches
returns-in_err-file-clause-touches g c = same_touches (is_working c.args.name.now) _ _ refl

pub returns-in_default-clause-touches : goal.returns-in_default-clause-touches
returns-in_default-clause-touches g c = same_touches (is_working c.args.name.now) _ _ refl

pub returns-clause-speaks : goal.returns-clause-speaks
returns-clause-speaks g c = made_speaks c.args.name.now c.args.found.now.keyword c.in-Ok.said.message
    c.write_files.result c.in-Ok.ensures.message c.write_files.ensures.says c.write_files.ensures.checks
