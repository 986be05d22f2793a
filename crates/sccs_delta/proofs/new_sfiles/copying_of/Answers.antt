use Rattle.std.proofs.Common.{refl}
use Rattle.sccs_splicer.specs.Splices.{new_splice}
use Rattle.sccs_delta.proofs.WriteLaws.{copy_begun}
use Rattle.sccs_delta.proofs.new_sfiles.copying_of.Goals as goal

pub returns-clause-told : goal.returns-clause-told
returns-clause-told c = λ file items body count.
    copy_begun file c.args.front.now items c.args.lines c.new.result c.new-splicer.result c.args.set
    (new_splice c.args.serial c.in_ok-plan.plan) c.new-splicer.ensures.set c.new-splicer.ensures.lines
    c.new-splicer.ensures.splicer refl count body (c.new-splicer.ensures.begins body.no_zero) c.new.ensures.filter
    (c.new.ensures.told file)
