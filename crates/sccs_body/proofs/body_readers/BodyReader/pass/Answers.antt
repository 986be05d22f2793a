use Rattle.std.proofs.Common.{◌+◌, ◌∙◌, ap, take, drop}
use Rattle.sccs_base.specs.Cut.{cut}
use Rattle.sccs_table.proofs.RunLaws.{run_passed}
use Rattle.sccs_body.specs.Reader.{BodyPlace}
use Rattle.sccs_body.proofs.ItemLaws.{seen_behind}
use Rattle.sccs_body.proofs.TextLaws.{behind_texts}
use Rattle.sccs_body.proofs.body_readers.BodyReader.pass.Goals as goal

pub returns-clause-behind : goal.returns-clause-behind
returns-clause-behind c = λ live before behind.
    let knows = seen_behind live before
    (record {
      lines = c.self.inside.lines;
      state = c.self.inside.state;
      first = c.self.inside.first;
      from =
          c.self.inside.from;
    }) c.args.self.now c.self.view_is behind in
    behind_texts live (cut (take c.args.count c.args.self.now.lines.held)).lines before c.self.inside.state knows

pub returns-clause-told : goal.returns-clause-told
returns-clause-told c = λ file.
    run_passed c.args.self.now.lines c.pass.new.self file c.args.count c.requires.fits c.requires.run.0 (
      c.pass.ensures.limit ∙ ap (λ (p : BodyPlace). p.lines.limit) c.self.view_is,
      c.pass.ensures.sum
          ∙ ap (λ (p : BodyPlace). p.lines.sum) c.self.view_is,
    )
    (c.pass.ensures.held ∙ ap (λ (p : BodyPlace). drop c.args.count p.lines.held) c.self.view_is)
    (c.pass.ensures.place ∙ ap (λ (p : BodyPlace). p.lines.place + c.args.count) c.self.view_is)
