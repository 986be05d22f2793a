use Rattle.std.proofs.lemmas.Result.{err_from_is_err_and}
use Rattle.sccs_disk.specs.Told.{seen}
use Rattle.sccs_history.specs.Body.{lines_of}
use Rattle.sccs_history.specs.Select.{select}
use Rattle.sccs_delta.proofs.FitLaws.{fits_judged, fits_unjudged, fits_unread}
use Rattle.sccs_delta.proofs.ScriptLaws.{mrs_fit, mrs_unfit, unfit}
use Rattle.sccs_delta.proofs.scripts.fit.Goals as goal

pub returns-in_err-found-clause-told : goal.returns-in_err-found-clause-told
returns-in_err-found-clause-told g c =
    let p = err_from_is_err_and c.from_residual.result c.from_residual.ensures.1 in
    rw (p.1, p.2) (λ file items is.
    unfit (seen (g.D.Disk.told c.args.disk.now)) c.args.name.now c.args.front.now.header.flags c.args.mrs.now
    c.args.script.now (select c.args.set.now (lines_of items)) c.in_err-found.field-0.0
    (fits_unread (seen (g.D.Disk.told c.args.disk.now)) c.args.name.now c.args.front.now.header.flags c.args.script.now
    (select c.args.set.now (lines_of items)) c.in_err-found.field-0.0 (c.in_err-found.ensures.told file items is)))

pub returns-in_err-judge-clause-told : goal.returns-in_err-judge-clause-told
returns-in_err-judge-clause-told g c =
    let p = err_from_is_err_and c.from_residual-in_err-judge.result c.from_residual-in_err-judge.ensures.1 in
    rw (p.1, p.2) (λ file items is.
    unfit (seen (g.D.Disk.told c.args.disk.now)) c.args.name.now c.args.front.now.header.flags c.args.mrs.now
    c.args.script.now (select c.args.set.now (lines_of items)) c.in_err-judge.field-0.0
    (fits_unjudged (seen (g.D.Disk.told c.args.disk.now)) c.args.name.now c.args.front.now.header.flags
    c.args.script.now (select c.args.set.now (lines_of items)) c.in_ok-found.found c.in_err-judge.field-0.0
    c.in_err-judge.ensures.value (c.in_ok-found.ensures.told file items is)))

pub returns-clause-told : goal.returns-clause-told
returns-clause-told g c = λ file items is.
    mrs_fit (seen (g.D.Disk.told c.args.disk.now)) c.args.name.now c.args.front.now.header.flags c.args.mrs.now
    c.args.script.now (select c.args.set.now (lines_of items)) c.in_ok-found.found c.in_ok-check_mrs.ensures.value
    (fits_judged (seen (g.D.Disk.told c.args.disk.now)) c.args.name.now c.args.front.now.header.flags c.args.script.now
    (select c.args.set.now (lines_of items)) c.in_ok-found.found c.in_ok-judge.ensures.fits
    c.in_ok-judge.ensures.value (c.in_ok-found.ensures.told file items is))

pub returns-in_err-check_mrs-clause-told : goal.returns-in_err-check_mrs-clause-told
returns-in_err-check_mrs-clause-told g c =
    let p = err_from_is_err_and c.from_residual-in_err-check_mrs.result c.from_residual-in_err-check_mrs.ensures.1 in
    rw (p.1, p.2) (λ file items is.
    mrs_unfit (seen (g.D.Disk.told c.args.disk.now)) c.args.name.now c.args.front.now.header.flags c.args.mrs.now
    c.args.script.now (select c.args.set.now (lines_of items)) c.in_ok-found.found c.in_err-check_mrs.field-0.0
    c.in_err-check_mrs.ensures.value
    (fits_judged (seen (g.D.Disk.told c.args.disk.now)) c.args.name.now c.args.front.now.header.flags c.args.script.now
    (select c.args.set.now (lines_of items)) c.in_ok-found.found c.in_ok-judge.ensures.fits
    c.in_ok-judge.ensures.value (c.in_ok-found.ensures.told file items is)))
