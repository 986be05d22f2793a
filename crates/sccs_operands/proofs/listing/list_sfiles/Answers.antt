use Rattle.sccs_disk.specs.Told.{seen}
use Rattle.sccs_operands.proofs.Listings.{any_names, told_names}
use Rattle.sccs_operands.proofs.listing.list_sfiles.Goals as goal

pub returns-in-Ok-in_order-clause-told : goal.returns-in-Ok-in_order-clause-told
returns-in-Ok-in_order-clause-told g c =
    told_names (seen (g.D.Disk.told c.args.disk.now)) c.in-Ok.names c.items.result.now c.in-Ok-in_order.names
    c.in-Ok-sfiles_among.kept c.in-Ok.ensures.ok c.items.ensures c.in-Ok-in_order.ensures.same
    c.in-Ok-in_order.ensures.order c.in-Ok-sfiles_among.ensures

pub returns-in-Ok-in_order-clause-names : goal.returns-in-Ok-in_order-clause-names
returns-in-Ok-in_order-clause-names g c =
    any_names c.items.result.now c.in-Ok-in_order.names c.in-Ok-sfiles_among.kept c.in-Ok-in_order.ensures.same
    c.in-Ok-in_order.ensures.order c.in-Ok-sfiles_among.ensures
