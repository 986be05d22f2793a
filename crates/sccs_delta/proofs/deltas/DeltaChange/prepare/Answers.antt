use Rattle.std.proofs.lemmas.Result.{err_from_is_err_and}
use Rattle.std.proofs.Common.{Ok, ap, subst, sym}
use Rattle.std.specs.Prelude.{IfSome}
use Rattle.sccs_disk.specs.Told.{seen}
use Rattle.sccs_name_files.specs.StepFiles.{is_working}
use Rattle.sccs_store.proofs.Working.{same_touches}
use Rattle.sccs_delta.specs.Sizes.{HearsScript}
use Rattle.sccs_delta.proofs.HearLaws.{heard_prepares, unheard_prepares}
use Rattle.sccs_delta.proofs.deltas.DeltaChange.prepare.Goals as goal

pub returns-clause-prepares : goal.returns-clause-prepares
returns-clause-prepares g c = λ err.
    heard_prepares c.args.self.now.words.now c.args.self.now.stamp.now c.args.name.now c.bytes.result.now
    c.prepare_delta.result (g.I.Source.left c.args.input.now) (seen (g.D.Disk.told c.args.disk.now))
    (seen (g.D.Disk.told c.hear.new.disk)) (seen (g.D.Disk.told c.prepare_delta.new.disk)) _ err
    (ap seen c.hear.ensures.same)
    (λ i is. subst (λ s. IfSome (seen (g.D.Disk.told c.args.disk.now)) (λ v. HearsScript i (v c.args.name.now) (Ok s)))
    (sym c.bytes.ensures) (c.in_ok-script.ensures.hears i is)) (c.prepare_delta.ensures.prepares _ err)

pub returns-in_err-script-clause-prepares : goal.returns-in_err-script-clause-prepares
returns-in_err-script-clause-prepares g c =
    let p = err_from_is_err_and c.from_residual.result c.from_residual.ensures.1 in
    rw (p.1, p.2) (λ err.
    unheard_prepares c.args.self.now.words.now c.args.self.now.stamp.now c.args.name.now c.in_err-script.field-0.0
    (g.I.Source.left c.args.input.now) (seen (g.D.Disk.told c.args.disk.now)) (seen (g.D.Disk.told c.hear.new.disk))
    _ err c.requires.sfile (ap seen c.hear.ensures.same) c.in_err-script.ensures.hears)

pub returns-in_err-script-clause-touches : goal.returns-in_err-script-clause-touches
returns-in_err-script-clause-touches g c = same_touches (is_working c.args.name.now) _ _ c.hear.ensures.same

pub returns-clause-entries : goal.returns-clause-entries
returns-clause-entries g c = c.prepare_delta.ensures.entries
