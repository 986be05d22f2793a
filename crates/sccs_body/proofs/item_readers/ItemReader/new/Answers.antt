use Rattle.std.proofs.Common.{[], ap, subst, sym, ◌∙◌}
use Rattle.sccs_history.specs.Applied.{live_serials}
use Rattle.sccs_body.specs.States.{Knows}
use Rattle.sccs_body.specs.BodyFile.{items_of}
use Rattle.sccs_body.specs.Reader.{BodyPlace}
use Rattle.sccs_body.specs.ToCome.{ToCome}
use Rattle.sccs_body.proofs.ComingLaws.{body_with, fresh_comes}
use Rattle.sccs_body.proofs.item_readers.ItemReader.new.Goals as goal

pub returns-clause-told : goal.returns-clause-told
returns-clause-told c = λ file of.
    let front = c.args.front.now in
    let first = c.min-first.result in
    let from = c.min.result in
    let state = c.in_ok-state.state in
    let live = live_serials front.header.records in
    let knows : Knows live [] state = subst (λ r. Knows (live_serials r) [] state) c.items.ensures
    c.in_ok-state.ensures in
    let body_is = c.new-2.ensures ∙ ap (body_with state first from) c.new-lines.ensures in
    subst (λ (b : BodyPlace). ToCome file live [] (items_of file front)
    (record { body = b; size = front.size; sum = front.sum })) (sym body_is)
    (fresh_comes file c.args.name.now front state first from of knows c.min-first.ensures c.min.ensures)
