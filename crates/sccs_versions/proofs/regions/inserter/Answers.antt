use Rattle.std.proofs.Common.{arith}
use Rattle.sccs_versions.proofs.Places.{inserter_found, inserter_passed}
use Rattle.sccs_versions.proofs.regions.inserter.Goals as goal

pub returns-then-region : goal.returns-then-region
returns-then-region c = inserter_found c.args.regions.now c.regions.left (omega (arith, c.regions-test.true))
    c.regions.invariant.within c.regions.invariant.rest c.if-region.true

pub regions-preserved : goal.regions-preserved
regions-preserved c = record {
  within = omega (arith, c.regions.invariant.within);
  rest = inserter_passed c.args.regions.now c.regions.left (omega (arith, c.regions-test.true))
      c.regions.invariant.within c.regions.invariant.rest c.if-region.false;
}
