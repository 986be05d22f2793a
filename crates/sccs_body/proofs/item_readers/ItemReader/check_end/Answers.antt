use Rattle.std.proofs.Common.{◌≤◌, ◌∙◌, Err, arith, inr, length, refl, rules, subst, sym}
use Rattle.sccs_grammar.specs.declared.faults.FileFault.TheVariants.{Changed}
use Rattle.sccs_body.specs.Reader.{ItemPlace}
use Rattle.sccs_body.specs.ToCome.{EndsReading, KeepsFile}
use Rattle.sccs_body.proofs.ComingLaws.{ends_same}
use Rattle.sccs_body.proofs.item_readers.ItemReader.check_end.Goals as goal

pub returns-then-sum-self : goal.returns-then-sum-self
returns-then-sum-self g c =
    let here : ItemPlace = record { body = c.self.inside.body; size = c.self.inside.size; sum = c.self.inside.sum } in
    let gone : ItemPlace = record { body = c.skip_to.new.self; size = c.self.inside.size; sum = c.self.inside.sum } in
    let kept : KeepsFile here gone =
    record {
      name = c.in_ok-skip_to.ensures.frame.name;
      limit = c.in_ok-skip_to.ensures.frame.limit;
      body =
          c.in_ok-skip_to.ensures.body;
      size = refl;
      sum = refl;
    } in
    subst (λ r. EndsReading g.D.Disk.told g.D.Disk.faults c.args.disk.now c.skip_to.new.disk r gone
    (Err (Changed c.self.inside.size c.self.inside.sum c.place-size.result c.sum-sum.result))) c.self.view_is
    (record {
      frame = search rules;
      kept = kept;
      changed = (refl, refl, inr (λ is. c.if-sum-self.true (sym is)));
      agrees = tt;
      never = λ line is. cc;
      same = λ file is stands size sum.
          let low : length file ≤ 1073741825 = omega (arith, stands.limit, c.self.invariant.limit) in
          c.if-sum-self.true (c.sum-sum.ensures
          ∙ (ends_same file here gone 1073741825 low (c.in_ok-skip_to.ensures.told file is stands)
          (c.in_ok-skip_to.ensures.stays file is stands) size sum).1);
    })
