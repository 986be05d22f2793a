use Rattle.std.proofs.Common.{arith}
use Rattle.sccs_versions.proofs.Places.{keep_found, keep_passed}
use Rattle.sccs_versions.proofs.regions.keeps.Goals as goal

pub returns-then-region : goal.returns-then-region
returns-then-region c = keep_found c.args.regions.now c.regions.left (omega (arith, c.regions-test.true))
    c.regions.invariant.within c.regions.invariant.rest c.if-region.true

pub regions-preserved : goal.regions-preserved
regions-preserved c = record {
  within = omega (arith, c.regions.invariant.within);
  rest = keep_passed c.args.regions.now c.regions.left (omega (arith, c.regions-test.true)) c.regions.invariant.within
      c.regions.invariant.rest c.if-region.false;
}
