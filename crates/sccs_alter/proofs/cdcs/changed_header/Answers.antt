use Rattle.std.proofs.lemmas.Result.{err_from_is_err_and}
use Rattle.sccs_alter.proofs.CdcHeaderLaws.{changed_is, not_changed}
use Rattle.sccs_alter.proofs.cdcs.changed_header.Goals as goal

pub returns-in_err-serial-clause-value : goal.returns-in_err-serial-clause-value
returns-in_err-serial-clause-value c =
    let p = err_from_is_err_and c.from_residual.result c.from_residual.ensures.1 in
    rw (p.1, p.2) (not_changed c.args.words.now c.args.stamp.now c.args.header c.in_err-serial.field-0.0
    c.in_err-serial.ensures.finds)

pub returns-in-Ok-change_delta-clause-value : goal.returns-in-Ok-change_delta-clause-value
returns-in-Ok-change_delta-clause-value c =
    changed_is c.args.words.now c.args.stamp.now c.args.header c.in-Ok-change_delta.header c.in_ok-serial.serial
    c.in-Ok.changes c.in_ok-serial.ensures.finds c.in-Ok.ensures.value
    c.in-Ok-change_delta.ensures

pub returns-in-Ok-change_delta-clause-lines : goal.returns-in-Ok-change_delta-clause-lines
returns-in-Ok-change_delta-clause-lines c =
    record {
      mrs = c.in-Ok.ensures.mrs;
      comment = c.in-Ok.ensures.comment;
      login =
          c.bytes-login.ensures.login;
    }
