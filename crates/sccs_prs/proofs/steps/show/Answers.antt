use Rattle.std.proofs.Common.{List, ap, sym, ◌∙◌}
use Rattle.sccs_disk.specs.Told.{seen}
use Rattle.sccs_history.specs.declared.headers.Record.{Record}
use Rattle.sccs_prs.specs.Chosen.{chosen_of}
use Rattle.sccs_prs.proofs.StepLaws.{file_ends, report_ends, unchosen_ends}
use Rattle.sccs_prs.proofs.steps.show.Goals as goal

pub returns-in-Err-clause-shows : goal.returns-in-Err-clause-shows
returns-in-Err-clause-shows g c = file_ends c.args.words.now c.args.place.now c.args.name.now
    (seen (g.D.Disk.told c.args.disk.now)) c.in-Err.fault c.from.result (g.O.Sink.given c.args.out.now) c.from.ensures
    c.in-Err.ensures.told

pub returns-in-Err-chosen_of-clause-shows : goal.returns-in-Err-chosen_of-clause-shows
returns-in-Err-chosen_of-clause-shows g c =
    unchosen_ends c.args.words.now c.args.place.now c.args.name.now (seen (g.D.Disk.told c.args.disk.now)) c.in-Ok.front
    (g.O.Sink.given c.args.out.now) c.in-Ok.ensures.placed c.in-Ok.ensures.told
    (ap (λ (l : List Record). chosen_of c.args.words.now l) (sym c.items.ensures) ∙ c.in-Err-chosen_of.ensures)

pub returns-clause-shows : goal.returns-clause-shows
returns-clause-shows g c =
    report_ends c.args.words.now c.args.place.now c.args.name.now (seen (g.D.Disk.told c.args.disk.now))
    (seen (g.D.Disk.told c.inspect.new.disk)) c.in-Ok.front c.in-Ok-chosen_of.chosen c.print_report.result
    (g.O.Sink.given c.args.out.now) (g.O.Sink.given c.print_report.new.out) (ap seen c.inspect.ensures.frame.same)
    c.in-Ok.ensures.placed c.in-Ok.ensures.told
    (ap (λ (l : List Record). chosen_of c.args.words.now l) (sym c.items.ensures) ∙ c.in-Ok-chosen_of.ensures)
    (λ bytes items is. c.print_report.ensures.prints bytes items is)
