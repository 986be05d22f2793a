use Rattle.std.proofs.Common.{◌∙◌, subst}
use Rattle.sccs_tokens.specs.Items.{IsWrittenItem}
use Rattle.sccs_body.specs.Reader.{BodyPlace}
use Rattle.sccs_body.proofs.ItemLaws.{seen_behind, held_gives}
use Rattle.sccs_body.proofs.body_readers.BodyReader.next_control.Goals as goal

pub returns-in-Ok-true-clause-told : goal.returns-in-Ok-true-clause-told
returns-in-Ok-true-clause-told c = λ o live before behind.
    let here : BodyPlace = record {
      lines = c.self.inside.lines;
      state = c.self.inside.state;
      first =
          c.self.inside.first;
      from = c.self.inside.from;
    } in
    let gone : BodyPlace = record {
      lines = c.pass_line.new.self;
      state = c.goes_on.new.state;
      first =
          c.self.inside.first;
      from = c.self.inside.from;
    } in
    let written = subst (λ bytes. IsWrittenItem bytes c.in-Some.item c.in-Some.count) c.held.ensures
    c.in-Some.ensures.sound in
    let stood = c.in-Ok-true.ensures.goes live before (seen_behind live before here c.args.self.now c.self.view_is
    behind) in
    held_gives o live before here c.args.self.now gone c.in-Some.item c.in-Some.count c.self.view_is
    (subst (λ (p : BodyPlace). IsWrittenItem p.lines.held c.in-Some.item c.in-Some.count) c.self.view_is written)
    c.pass_line.ensures.told (stood.0 ∙ c.in-Ok-true.field-0-test)
