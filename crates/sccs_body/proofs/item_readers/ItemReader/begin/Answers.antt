use Rattle.std.proofs.Common.{◌<◌, arith, refl, subst, sym}
use Rattle.sccs_body.specs.Reader.{ItemPlace}
use Rattle.sccs_body.specs.ToCome.{BeginsReading, KeepsFile}
use Rattle.sccs_body.proofs.ComingLaws.{header_read}
use Rattle.sccs_body.proofs.item_readers.ItemReader.begin.Goals as goal

pub returns : goal.returns
returns g c =
    let here : ItemPlace = record { body = c.self.inside.body; size = c.self.inside.size; sum = c.self.inside.sum } in
    let gone : ItemPlace = record { body = c.skip_to.new.self; size = c.self.inside.size; sum = c.self.inside.sum } in
    let kept : KeepsFile here gone =
    record {
      name = c.in_ok-skip_to.ensures.frame.name;
      limit = c.in_ok-skip_to.ensures.frame.limit;
      body =
          c.in_ok-skip_to.ensures.body;
      size = refl;
      sum = refl;
    } in
    let low = subst (λ (r : ItemPlace). r.body.lines.place < r.body.from) (sym c.self.view_is) c.requires in
    subst (λ r. BeginsReading g.D.Disk.told g.D.Disk.faults c.args.disk.now c.skip_to.new.disk r gone _) c.self.view_is
    (record {
      frame = record {
        same = c.in_ok-skip_to.ensures.frame.same;
        later = c.in_ok-skip_to.ensures.frame.later;
        cause =
            λ is. cc;
      };
      first = λ size sum again sum_again is. cc;
      kept = kept;
      onward = omega (arith, c.in_ok-skip_to.ensures.onward);
      state = c.in_ok-skip_to.ensures.state;
      there = omega (
        arith,
        c.if-place-body_from.false,
        c.place.ensures.value,
        c.body_from-2.ensures,
        c.in_ok-skip_to.ensures.body.from,
      );
      begins = λ file live before found is p. header_read file live before found here gone kept
          c.in_ok-skip_to.ensures.state (c.in_ok-skip_to.ensures.stays file is p.stands) c.in_ok-skip_to.ensures.held
          low (omega (arith, c.in_ok-skip_to.ensures.told file is p.stands, c.body_from.ensures))
          (omega (arith, c.in_ok-skip_to.ensures.bound, c.body_from.ensures)) p;
    })
