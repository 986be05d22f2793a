use Rattle.std.proofs.Common.{◌∙◌, subst, ap}
use Rattle.std.specs.Prelude.{IfSome}
use Rattle.sccs_disk.specs.Told.{seen}
use Rattle.sccs_table.specs.ReaderState.{bytes_in}
use Rattle.sccs_body.specs.ItemsRead.{IsFormatAt}
use Rattle.sccs_body.specs.Reader.{BodyPlace, number_of_line}
use Rattle.sccs_body.proofs.ItemLaws.{seen_behind, held_gives, held_fault}
use Rattle.sccs_body.proofs.body_readers.BodyReader.pass_item.Goals as goal

pub returns-in-Ok-true-clause-goes : goal.returns-in-Ok-true-clause-goes
returns-in-Ok-true-clause-goes g c = λ live before behind.
    let here : BodyPlace = record {
      lines = c.self.inside.lines;
      state = c.self.inside.state;
      first =
          c.self.inside.first;
      from = c.self.inside.from;
    } in
    let stood = c.in-Ok-true.ensures.goes live before (seen_behind live before here c.args.self.now c.self.view_is
    behind) in
    (stood.0 ∙ c.in-Ok-true.field-0-test, stood.1 c.in-Ok-true.field-0-test)

pub returns-in-Ok-true-clause-told : goal.returns-in-Ok-true-clause-told
returns-in-Ok-true-clause-told g c = λ live before behind.
    let here : BodyPlace = record {
      lines = c.self.inside.lines;
      state = c.self.inside.state;
      first =
          c.self.inside.first;
      from = c.self.inside.from;
    } in
    let gone : BodyPlace = record {
      lines = c.pass_line.new.self;
      state = c.goes_on-stands.new.state;
      first =
          c.self.inside.first;
      from = c.self.inside.from;
    } in
    let stood = c.in-Ok-true.ensures.goes live before (seen_behind live before here c.args.self.now c.self.view_is
    behind) in
    held_gives (bytes_in (seen (g.D.Disk.told c.args.disk.now)) c.args.self.now.lines.name) live before here
    c.args.self.now gone c.args.item c.args.count c.self.view_is c.requires c.pass_line.ensures.told (stood.0
    ∙ c.in-Ok-true.field-0-test)

pub returns-in-Ok-false-clause-told : goal.returns-in-Ok-false-clause-told
returns-in-Ok-false-clause-told g c = λ live before behind.
    let here : BodyPlace = record {
      lines = c.self.inside.lines;
      state = c.self.inside.state;
      first =
          c.self.inside.first;
      from = c.self.inside.from;
    } in
    let gone : BodyPlace = record {
      lines = c.pass_line.new.self;
      state = c.goes_on-stands.new.state;
      first =
          c.self.inside.first;
      from = c.self.inside.from;
    } in
    let stood = c.in-Ok-false.ensures.goes live before (seen_behind live before here c.args.self.now c.self.view_is
    behind) in
    let told = bytes_in (seen (g.D.Disk.told c.args.disk.now)) in
    let same = ap told (c.pass_line.ensures.name ∙ ap (λ (p : BodyPlace). p.lines.name) c.self.view_is) in
    let fault = subst (λ n. IfSome (told gone.lines.name) (λ f. IsFormatAt (number_of_line here.first here.from f n)
    c.fault_at.result)) c.place-place.ensures.value c.fault_at.ensures.told in
    held_fault (told c.args.self.now.lines.name) (told gone.lines.name) live before here c.args.self.now gone gone
    c.args.item c.args.count c.fault_at.result c.self.view_is same c.requires c.pass_line.ensures.told (stood.0
    ∙ c.in-Ok-false.field-0-test) fault
