use Rattle.std.proofs.lemmas.Result.{err_from_is_err_and}
use Rattle.std.proofs.Common.{rules, subst, ◌<◌}
use Rattle.std.specs.Prelude.{IfSome, length}
use Rattle.sccs_base.specs.Constants.{file_limit}
use Rattle.sccs_disk.specs.Told.{seen}
use Rattle.sccs_delta.proofs.HearLaws.{heard_long, unheard}
use Rattle.sccs_delta.proofs.deltas.hear.Goals as goal

pub returns-in_err-check_there-clause-hears : goal.returns-in_err-check_there-clause-hears
returns-in_err-check_there-clause-hears g c =
    let p = err_from_is_err_and c.from_residual.result c.from_residual.ensures.1 in
    rw (p.1, p.2) (λ i is. unheard (seen (g.D.Disk.told c.args.disk.now)) c.args.name.now i
    c.in_err-check_there.field-0.0 c.in_err-check_there.ensures.told)

pub returns-in-Err-TooLong-clause-hears : goal.returns-in-Err-TooLong-clause-hears
returns-in-Err-TooLong-clause-hears g c = λ i is.
    heard_long (seen (g.D.Disk.told c.args.disk.now)) c.args.name.now i c.in_ok-check_there.ensures.told
    (subst (λ o. IfSome o (λ left. file_limit < length left)) is (c.in-Err-TooLong.ensures.too_long (search rules)))
