use Rattle.std.proofs.Common.{arith}
use Rattle.sccs_rcs_file.proofs.SpotLaws.{spots_grow}
use Rattle.sccs_rcs_file.proofs.indexes.spots_of.Goals as goal

pub items-preserved : goal.items-preserved
items-preserved g c = (
  omega (arith, c.items.invariant.0),
  spots_grow g.T.Named.name_of c.items.at c.args.items.now c.index-items-at.result c.name-name.result.now c.items.spots
      c.insert.new.self c.contains_key-again.result
      (omega (arith, c.items-test.true)) c.items.invariant.0 c.index-items-at.is c.name-name.ensures
      c.contains_key-again.ensures c.items.invariant.1 c.in_ok-insert.ensures.updates,
)
