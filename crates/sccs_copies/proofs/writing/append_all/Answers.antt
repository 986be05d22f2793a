use Rattle.sccs_copies.proofs.AppendLaws.{behind_header, items_behind}
use Rattle.sccs_copies.proofs.BodyLaws.{body_behind}
use Rattle.sccs_copies.proofs.ComingItems.{bytes_stay}
use Rattle.sccs_copies.proofs.writing.append_all.Goals as goal

pub returns-clause-appends : goal.returns-clause-appends
returns-clause-appends g c = behind_header c.args.header.now c.args.name.now _ _ _ _ _ _ _ _ c.write_header.result
    c.in_default.field-0 c.append_body.result c.in_default.is c.write_header.ensures c.append_body.ensures.appends

pub returns-clause-told : goal.returns-clause-told
returns-clause-told g c = λ file items is come.
    items_behind c.args.header.now items c.args.name.now _ _ _ _ _ _ _ c.write_header.result c.in_default.field-0
    c.append_body.result c.in_default.is c.new-sum.ensures c.write_header.ensures
    (c.append_body.ensures.told file items (bytes_stay c.args.name.now _ file _ _ c.requires.copy.apart
    c.write_header.ensures.only.view is) come)

pub returns-clause-whole : goal.returns-clause-whole
returns-clause-whole g c = λ live begun.
    body_behind g.F.BodyFilter.filter live c.args.copying.filter c.args.header.now c.args.name.now _ _ _ _ _ _ _
    c.write_header.result c.in_default.field-0 c.append_body.result c.in_default.is c.new-sum.ensures
    c.write_header.ensures (c.append_body.ensures.whole live begun)
