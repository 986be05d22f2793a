use Rattle.std.proofs.Common.{ap}
use Rattle.std.proofs.lemmas.Result.{err_from_is_err_and}
use Rattle.sccs_disk.specs.Told.{seen}
use Rattle.sccs_soak.proofs.SummaryLaws.{summary_ends, unsummed_ends}
use Rattle.sccs_soak.proofs.summaries.summarize.Goals as goal

pub returns-in_err-front-clause-shows : goal.returns-in_err-front-clause-shows
returns-in_err-front-clause-shows g c =
    let e = err_from_is_err_and c.from_residual.result c.from_residual.ensures.1 in
    rw e.1 (unsummed_ends c.args.rounds c.args.name.now (seen (g.D.Disk.told c.args.disk.now))
    c.in_err-front.field-0.0 e.0 (g.O.Sink.given c.args.out.now) e.2 c.in_err-front.ensures.told)

pub returns-clause-shows : goal.returns-clause-shows
returns-clause-shows g c =
    summary_ends c.args.rounds c.args.name.now (seen (g.D.Disk.told c.args.disk.now))
    (seen (g.D.Disk.told c.inspect.new.disk)) c.in_ok-front.front c.print_summary.result (g.O.Sink.given c.args.out.now)
    (g.O.Sink.given c.print_summary.new.out) (ap seen c.inspect.ensures.frame.same) c.in_ok-front.ensures.placed
    c.in_ok-front.ensures.told
    (λ bytes items is. c.print_summary.ensures.prints bytes items is)
