use Rattle.std.proofs.lemmas.Result.{err_from_is_err_and}
use Rattle.sccs_base.specs.Name.{p_file}
use Rattle.sccs_disk.specs.Told.{seen}
use Rattle.sccs_recovery.proofs.ReadingLaws.{second_fails, some_map}
use Rattle.sccs_recovery.proofs.readings.left_with.Goals as goal

pub returns-clause-told : goal.returns-clause-told
returns-clause-told g c = some_map (seen (g.D.Disk.told c.args.disk.now))
    (λ v table first. c.left_of_bytes.ensures.left (v c.args.name.now) (v (p_file c.args.name.now)) first table)
    c.in_ok-front.ensures.told

pub returns-in_err-front-clause-told : goal.returns-in_err-front-clause-told
returns-in_err-front-clause-told g c =
    let p = err_from_is_err_and c.from_residual.result c.from_residual.ensures.1 in
    rw (p.1, p.2) (some_map (seen (g.D.Disk.told c.args.disk.now)) (λ v table first. second_fails
    (v c.args.name.now) (v (p_file c.args.name.now)) c.args.bytes c.in_err-front.field-0.0 first table)
    c.in_err-front.ensures.told)
