use Rattle.sccs_operands.proofs.Listings.{among_more}
use Rattle.sccs_operands.proofs.listing.sfiles_among.Goals as goal

pub loop-name-preserved : goal.loop-name-preserved
loop-name-preserved c = λ n.
    among_more n c.name-item.result c.args.names.now c.loop-name.name-index c.loop-name.kept c.keep.new.kept
    c.loop-name-test.true c.name-item.is (c.loop-name.invariant n) (c.in_ok-keep.ensures n)
