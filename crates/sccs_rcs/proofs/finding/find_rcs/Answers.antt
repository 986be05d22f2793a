use Rattle.std.proofs.Common.{Err, Ok, subst, sym}
use Rattle.sccs_disk.specs.Told.{seen}
use Rattle.sccs_admin.proofs.StepLaws.{exit_is}
use Rattle.sccs_rcs.specs.Parts.{FindsRcs, IsFresh}
use Rattle.sccs_rcs.proofs.FindLaws.{free_ends, taken_ends, taken_read, unfound_ends, unfresh_ends}
use Rattle.sccs_rcs.proofs.finding.find_rcs.Goals as goal

pub returns-in_err-found-clause-finds : goal.returns-in_err-found-clause-finds
returns-in_err-found-clause-finds g c =
    let exit = exit_is c.from_residual.result c.in_err-found.field-0.0 c.from_residual.ensures.1 in
    subst (λ r. FindsRcs r c.args.name.now (seen (g.D.Disk.told c.args.disk.now))) (sym exit)
    (unfound_ends c.in_err-found.field-0.0 c.args.name.now (seen (g.D.Disk.told c.args.disk.now))
    c.in_err-found.ensures.finds)

pub returns-in_err-check_fresh-clause-finds : goal.returns-in_err-check_fresh-clause-finds
returns-in_err-check_fresh-clause-finds g c =
    let exit = exit_is c.from_residual-in_err-check_fresh.result c.in_err-check_fresh.field-0.0
    c.from_residual-in_err-check_fresh.ensures.1 in
    subst (λ r. FindsRcs r c.args.name.now (seen (g.D.Disk.told c.args.disk.now))) (sym exit)
    (unfresh_ends c.in_ok-found.found c.in_err-check_fresh.field-0.0 c.args.name.now
    (seen (g.D.Disk.told c.args.disk.now)) c.in_ok-found.ensures.finds
    (subst (λ t. IsFresh (Err c.in_err-check_fresh.field-0.0) c.args.name.now (seen t)) c.in_ok-found.ensures.frame.same
    c.in_err-check_fresh.ensures.fresh))

pub returns-clause-finds : goal.returns-clause-finds
returns-clause-finds g c =
    taken_ends c.in_ok-found.found c.trunk_in.result c.args.name.now (seen (g.D.Disk.told c.args.disk.now))
    c.in_ok-found.ensures.finds
    (subst (λ t. IsFresh (Ok tt) c.args.name.now (seen t)) c.in_ok-found.ensures.frame.same
    c.in_ok-check_fresh.ensures.fresh) c.trunk_in.ensures.takes

pub returns-clause-free : goal.returns-clause-free
returns-clause-free g c =
    free_ends c.trunk_in.result c.args.name.now (seen (g.D.Disk.told c.args.disk.now))
    (subst (λ t. IsFresh (Ok tt) c.args.name.now (seen t)) c.in_ok-found.ensures.frame.same
    c.in_ok-check_fresh.ensures.fresh)

pub returns-clause-read : goal.returns-clause-read
returns-clause-read g c = taken_read c.in_ok-found.found c.trunk_in.result c.trunk_in.ensures.takes
