use Rattle.std.proofs.lemmas.Result.{err_from_is_err_and}
use Rattle.std.proofs.Common.{refl, subst, sym}
use Rattle.std.specs.Str.{bytes_eq}
use Rattle.sccs_base.specs.Name.{x_file}
use Rattle.sccs_disk.specs.Told.{seen}
use Rattle.sccs_history.specs.History.{IsSpelled}
use Rattle.sccs_history.specs.Removal.{dropped}
use Rattle.sccs_store.proofs.Working.{same_touches}
use Rattle.sccs_rmdel.specs.Removed.{without_delta}
use Rattle.sccs_rmdel.proofs.RemovedTables.{spelled_removed}
use Rattle.sccs_rmdel.proofs.WriteLaws.{retyped, written_as}
use Rattle.sccs_rmdel.proofs.writing.write_without.Goals as goal

pub returns-in_default-clause-touches : goal.returns-in_default-clause-touches
returns-in_default-clause-touches g c = same_touches (bytes_eq (x_file c.args.name.now)) _ _ refl

pub returns-in_default-remove_delta-clause-touches : goal.returns-in_default-remove_delta-clause-touches
returns-in_default-remove_delta-clause-touches g c = same_touches (bytes_eq (x_file c.args.name.now)) _ _ refl

pub write_x-requires-clause-spelled : goal.write_x-requires-clause-spelled
write_x-requires-clause-spelled g c = subst IsSpelled (sym c.in-Ok-remove_delta.ensures)
    (spelled_removed c.args.serial c.args.front.header c.requires.spelled)

pub returns-clause-told : goal.returns-clause-told
returns-clause-told g c = λ file items is front are.
    written_as c.args.name.now c.in-Ok-remove_delta.header (without_delta c.args.serial c.args.front.header)
    (dropped c.args.serial items) (seen (g.D.Disk.told c.args.disk.now)) (seen (g.D.Disk.told c.write_x.new.disk))
    c.in-Ok-remove_delta.ensures (c.in_ok-write_x.ensures.told file (dropped c.args.serial items) is
    (c.in-Ok.ensures.told file items front are))

pub returns-in_err-write_x-clause-told : goal.returns-in_err-write_x-clause-told
returns-in_err-write_x-clause-told g c =
    let p = err_from_is_err_and c.from_residual.result c.from_residual.ensures.1 in
    rw (p.1, p.2) (λ file items is front are.
    retyped c.args.name.now c.in-Ok-remove_delta.header (without_delta c.args.serial c.args.front.header)
    (dropped c.args.serial items) (seen (g.D.Disk.told c.args.disk.now)) (seen (g.D.Disk.told c.write_x.new.disk))
    c.in_err-write_x.field-0.0
    (c.in_err-write_x.ensures.told file (dropped c.args.serial items) is (c.in-Ok.ensures.told file items front are)))
