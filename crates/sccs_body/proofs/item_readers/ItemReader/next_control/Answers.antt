use Rattle.std.proofs.Common.{Some, arith, refl, subst, sym}
use Rattle.sccs_body.specs.Reader.{ItemPlace}
use Rattle.sccs_body.specs.ToCome.{KeepsFile, ToCome}
use Rattle.sccs_body.proofs.ComingLaws.{control_comes}
use Rattle.sccs_body.proofs.item_readers.ItemReader.next_control.Goals as goal

pub returns-clause-told : goal.returns-clause-told
returns-clause-told c = λ file live before found p.
    let here : ItemPlace = record { body = c.self.inside.body; size = c.self.inside.size; sum = c.self.inside.sum } in
    let gone : ItemPlace = record {
      body = c.next_control.new.self;
      size = c.self.inside.size;
      sum =
          c.self.inside.sum;
    } in
    let kept : KeepsFile here gone = record {
      name = c.next_control.ensures.name;
      limit = c.next_control.ensures.limit;
      body = c.next_control.ensures.body;
      size = refl;
      sum = refl;
    } in
    let come = subst (λ r. ToCome file live before found r) (sym c.self.view_is) p in
    control_comes file live before found here gone c.next_control.result kept
    (omega (arith, c.if-place-body_from.false, c.place.ensures.value, c.body_from.ensures))
    (c.next_control.ensures.stays (Some file)) c.next_control.ensures.further c.next_control.ensures.none
    (c.next_control.ensures.kept live before come.behind) (c.next_control.ensures.goes live before come.behind)
    (c.next_control.ensures.told (Some file) live before come.behind) come
