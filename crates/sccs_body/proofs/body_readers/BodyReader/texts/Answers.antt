use Rattle.std.proofs.Common.{◌∙◌, sym}
use Rattle.sccs_history.specs.Body.{may_stand}
use Rattle.sccs_history.specs.declared.headers.Item.TheVariants.{Text}
use Rattle.sccs_table.proofs.RunLaws.{no_run}
use Rattle.sccs_body.proofs.ItemLaws.{seen_behind}
use Rattle.sccs_body.proofs.TextLaws.{not_both}
use Rattle.sccs_body.proofs.body_readers.BodyReader.texts.Goals as goal

pub returns-then-may_stand_text-clause-stand : goal.returns-then-may_stand_text-clause-stand
returns-then-may_stand_text-clause-stand c = λ live before text behind some.
    let knows = seen_behind live before
    (record {
      lines = c.self.inside.lines;
      state = c.self.inside.state;
      first = c.self.inside.first;
      from =
          c.self.inside.from;
    }) c.args.self.now c.self.view_is behind in
    sym (c.may_stand_text.ensures live before text knows) ∙ c.if-may_stand_text.true

pub returns-else-may_stand_text-clause-run : goal.returns-else-may_stand_text-clause-run
returns-else-may_stand_text-clause-run c = no_run

pub returns-else-may_stand_text-clause-longest : goal.returns-else-may_stand_text-clause-longest
returns-else-may_stand_text-clause-longest c = λ live before text behind stands.
    let knows = seen_behind live before
    (record {
      lines = c.self.inside.lines;
      state = c.self.inside.state;
      first = c.self.inside.first;
      from =
          c.self.inside.from;
    }) c.args.self.now c.self.view_is behind in
    not_both (may_stand live before (Text text)) stands (sym (c.may_stand_text.ensures live before text knows)
    ∙ c.if-may_stand_text.false)
