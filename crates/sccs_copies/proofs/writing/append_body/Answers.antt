use Rattle.std.proofs.lemmas.Result.{err_from_is_err_and}
use Rattle.sccs_copies.proofs.AppendLaws.{sums_answered}
use Rattle.sccs_copies.proofs.BodyLaws.{answered_body}
use Rattle.sccs_copies.proofs.writing.append_body.Goals as goal

pub returns-clause-told : goal.returns-clause-told
returns-clause-told g c = λ file items is come.
    sums_answered items c.args.name.now c.args.sum c.sum.result c.in-Ok.out c.put_body.new.out _ _ c.sum.ensures
    c.in-Ok.ensures c.in_ok-put_body.ensures.empty (c.in_ok-put_body.ensures.told file items is come)

pub returns-clause-whole : goal.returns-clause-whole
returns-clause-whole g c = λ live begun.
    answered_body g.F.BodyFilter.filter live c.args.copying.filter c.args.name.now c.args.sum c.sum.result c.in-Ok.out
    c.put_body.new.out _ _ c.sum.ensures c.in-Ok.ensures c.in_ok-put_body.ensures.empty
    (c.in_ok-put_body.ensures.whole live begun)

pub returns-in_err-put_body-clause-told : goal.returns-in_err-put_body-clause-told
returns-in_err-put_body-clause-told g c =
    let p = err_from_is_err_and c.from_residual.result c.from_residual.ensures.1 in
    rw (p.1, p.2) (λ file items is come. c.in_err-put_body.ensures.told file items is come)
