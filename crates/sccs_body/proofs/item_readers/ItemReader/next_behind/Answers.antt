use Rattle.std.proofs.Common.{◌≤◌, refl, subst, sym}
use Rattle.sccs_body.specs.Reader.{ItemPlace}
use Rattle.sccs_body.specs.ToCome.{KeepsFile, ReadsNextItem}
use Rattle.sccs_body.proofs.ComingLaws.{next_further, next_gives}
use Rattle.sccs_body.proofs.item_readers.ItemReader.next_behind.Goals as goal

pub returns : goal.returns
returns g c =
    let here : ItemPlace = record { body = c.self.inside.body; size = c.self.inside.size; sum = c.self.inside.sum } in
    let gone : ItemPlace = record { body = c.next.new.self; size = c.self.inside.size; sum = c.self.inside.sum } in
    let kept : KeepsFile here gone = record {
      name = c.next.ensures.frame.name;
      limit = c.next.ensures.frame.limit;
      body = c.next.ensures.body;
      size = refl;
      sum = refl;
    } in
    let begun = subst (λ (r : ItemPlace). r.body.from ≤ r.body.lines.place) (sym c.self.view_is) c.requires in
    subst (λ r. ReadsNextItem g.D.Disk.told g.D.Disk.faults c.args.disk.now c.next.new.disk r gone c.next.result)
    c.self.view_is
    (record {
      frame = record {
        same = c.next.ensures.frame.same;
        later = c.next.ensures.frame.later;
        cause =
            c.next.ensures.frame.cause;
      };
      first = c.next.ensures.first;
      kept = kept;
      further = next_further here gone c.next.result c.next.ensures.frame.limit c.next.ensures.frame.ahead
          c.next.ensures.further;
      goes = c.next.ensures.goes;
      gives = λ file live before found is p. next_gives file live before found here gone kept begun
          c.next.ensures.onward p _ c.next.result is (c.next.ensures.told live before p.behind)
          (c.next.ensures.goes live before p.behind);
      stays = λ file live before found is p. c.next.ensures.stays file is p.stands;
    })
