use Rattle.std.proofs.Common.{◌≡◌, rules}
use Rattle.sccs_base.specs.NameSets.{names_in}
use Rattle.sccs_operands.proofs.Listings.{order_of}
use Rattle.sccs_operands.proofs.listing.in_order.Goals as goal

pub returns-clause-order : goal.returns-clause-order
returns-clause-order c = let same : c.names.names ≡ names_in c.args.kept = search rules in
    order_of c.names.names c.args.kept same c.into_iter-name-iterator.ensures.into_iter_gives.4
