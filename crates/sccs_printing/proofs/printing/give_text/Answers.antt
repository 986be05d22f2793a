use Rattle.std.proofs.Common.{◌∙◌, ap, rules, subst}
use Rattle.sccs_disk.specs.Told.{seen}
use Rattle.sccs_history.specs.Body.{lines_of}
use Rattle.sccs_table.specs.ReaderState.{bytes_in}
use Rattle.sccs_keywords.specs.Forms.{line_form}
use Rattle.sccs_versions.specs.Coming.{shown}
use Rattle.sccs_printing.specs.Targets.{Reaches, file_of}
use Rattle.sccs_printing.proofs.TurnLaws.{reach_on}
use Rattle.sccs_printing.proofs.WholeLaws.{Begun, found, printed, printed_whole}
use Rattle.sccs_printing.proofs.printing.give_text.Goals as goal

pub returns-clause-frame : goal.returns-clause-frame
returns-clause-frame g c = record {
  reaches =
      subst (λ target. Reaches (file_of target) (g.O.Sink.given c.args.out.now) (g.O.Sink.given c.finish.new.out)
      (g.D.Disk.told c.args.disk.now) (g.D.Disk.told c.finish.new.disk)) c.new-giving.ensures.target
      (reach_on c.new-giving.result c.give_all-given.new.giving c.give_all-given.ensures.keeps
      (g.O.Sink.given c.args.out.now) (g.O.Sink.given c.give_all-given.new.out) (g.O.Sink.given c.finish.new.out)
      (g.D.Disk.told c.args.disk.now) (g.D.Disk.told c.give_all-given.new.disk) (g.D.Disk.told c.finish.new.disk)
      c.give_all-given.ensures.frame.reaches c.finish.ensures.reaches);
  mark = search rules;
  spares = search rules;
  causes = search rules;
  checks = search rules;
}

pub returns-clause-prints : goal.returns-clause-prints
returns-clause-prints g c = λ file items is.
    let begun : Begun (line_form c.args.form.now) c.args.front.now.header.records c.args.target c.new-giving.result =
    record {
      form_is = c.new-giving.ensures.form;
      records_are = c.new-giving.ensures.sids ∙ c.items.ensures;
      shown_is =
          c.new-giving.ensures.shown;
      target_is = c.new-giving.ensures.target;
      empty = c.requires.target.empty;
    } in
    let lines = shown c.args.set.now (lines_of items) in
    let gives = c.give_all-given.ensures.gives file lines
    (ap (λ name. bytes_in (seen (g.D.Disk.told c.args.disk.now)) name) c.in-Ok.ensures.name ∙ is.told_is)
    (c.in-Ok.ensures.coming _ file items is) in
    printed (line_form c.args.form.now) c.args.front.now.header.records lines c.give_all-given.result c.finish.result
    c.args.target c.new-giving.result c.give_all-given.new.giving (g.O.Sink.given c.args.out.now)
    (g.O.Sink.given c.give_all-given.new.out) (g.O.Sink.given c.finish.new.out) (g.D.Disk.told c.args.disk.now)
    (g.D.Disk.told c.give_all-given.new.disk) (g.D.Disk.told c.finish.new.disk) begun c.give_all-given.ensures.keeps
    gives c.finish.ensures.prints

pub returns-clause-found : goal.returns-clause-found
returns-clause-found g c = λ file items is.
    let begun : Begun (line_form c.args.form.now) c.args.front.now.header.records c.args.target c.new-giving.result =
    record {
      form_is = c.new-giving.ensures.form;
      records_are = c.new-giving.ensures.sids ∙ c.items.ensures;
      shown_is =
          c.new-giving.ensures.shown;
      target_is = c.new-giving.ensures.target;
      empty = c.requires.target.empty;
    } in
    let lines = shown c.args.set.now (lines_of items) in
    let gives = c.give_all-given.ensures.gives file lines
    (ap (λ name. bytes_in (seen (g.D.Disk.told c.args.disk.now)) name) c.in-Ok.ensures.name ∙ is.told_is)
    (c.in-Ok.ensures.coming _ file items is) in
    found (line_form c.args.form.now) c.args.front.now.header.records lines c.give_all-given.result c.finish.result
    c.args.target c.new-giving.result c.give_all-given.new.giving _ _ begun gives c.finish.ensures.given
    c.finish.ensures.shown

pub returns-clause-whole : goal.returns-clause-whole
returns-clause-whole g c =
    let begun : Begun (line_form c.args.form.now) c.args.front.now.header.records c.args.target c.new-giving.result =
    record {
      form_is = c.new-giving.ensures.form;
      records_are = c.new-giving.ensures.sids ∙ c.items.ensures;
      shown_is =
          c.new-giving.ensures.shown;
      target_is = c.new-giving.ensures.target;
      empty = c.requires.target.empty;
    } in
    printed_whole (line_form c.args.form.now) c.args.front.now.header.records c.args.set.now c.in-Ok.version
    c.give_all-given.result c.finish.result c.args.target c.new-giving.result c.give_all-given.new.giving
    (g.O.Sink.given c.args.out.now) (g.O.Sink.given c.give_all-given.new.out) (g.O.Sink.given c.finish.new.out)
    (g.D.Disk.told c.args.disk.now) (g.D.Disk.told c.give_all-given.new.disk) (g.D.Disk.told c.finish.new.disk)
    begun c.give_all-given.ensures.keeps
    c.in-Ok.ensures.set c.in-Ok.ensures.read c.give_all-given.ensures.read c.finish.ensures.given c.finish.ensures.shown
    c.finish.ensures.prints
