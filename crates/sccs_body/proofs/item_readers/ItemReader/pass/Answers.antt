use Rattle.std.proofs.Common.{refl, subst, sym}
use Rattle.sccs_body.specs.Reader.{ItemPlace, at_hand}
use Rattle.sccs_body.specs.ToCome.{KeepsFile, MayPass, TextsCome, ToCome}
use Rattle.sccs_body.proofs.ComingLaws.{pass_comes}
use Rattle.sccs_body.proofs.item_readers.ItemReader.pass.Goals as goal

pub returns-clause-told : goal.returns-clause-told
returns-clause-told c = λ file live before found p.
    let here : ItemPlace = record { body = c.self.inside.body; size = c.self.inside.size; sum = c.self.inside.sum } in
    let gone : ItemPlace = record { body = c.pass.new.self; size = c.self.inside.size; sum = c.self.inside.sum } in
    let kept : KeepsFile here gone =
    record {
      name = c.pass.ensures.name;
      limit = c.pass.ensures.limit;
      body = c.pass.ensures.body;
      size = refl;
      sum = refl;
    } in
    let come = subst (λ r. ToCome file live before found r) (sym c.self.view_is) p in
    subst (λ r. TextsCome file live before found (at_hand r c.args.count) gone) c.self.view_is
    (pass_comes file live before found here gone c.args.count kept (subst (λ r. MayPass r c.args.count)
    (sym c.self.view_is) c.requires) c.pass.ensures.place c.pass.ensures.held
    (c.pass.ensures.behind live before come.behind) (c.pass.ensures.told file) come)
