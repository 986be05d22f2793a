use Rattle.std.proofs.Common.{Result, List, [], ℕ, ap, subst}
use Rattle.sccs_disk.specs.Told.{seen}
use Rattle.sccs_history.specs.Applied.{live_serials}
use Rattle.sccs_history.specs.declared.headers.Item.{Item}
use Rattle.sccs_table.specs.ReaderState.{bytes_in}
use Rattle.sccs_body.specs.ToCome.{ToCome}
use Rattle.sccs_prs.proofs.BodyLaws.{begun}
use Rattle.sccs_prs.proofs.bodies.put_body.Goals as goal

pub returns-clause-gives : goal.returns-clause-gives
returns-clause-gives g c = λ file items is.
    c.put_items.ensures.gives file items
    (begun _ _ file (live_serials c.args.front.now.header.records) items c.in-Ok.items
    (ap (bytes_in (seen (g.D.Disk.told c.args.disk.now))) c.in-Ok.ensures.name) is.told_is
    (subst (λ (found : Result (List Item) ℕ). ToCome file (live_serials c.args.front.now.header.records) [] found
    c.in-Ok.items) is.items_are (c.in-Ok.ensures.told file is.front_is)))
