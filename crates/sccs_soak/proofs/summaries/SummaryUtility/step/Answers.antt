use Rattle.std.proofs.Common.{refl}
use Rattle.sccs_steps.specs.Calls.{scene}
use Rattle.sccs_steps.proofs.ReadingCrashPoints.{reading_crash_points}
use Rattle.sccs_prs.proofs.StepLaws.{shown_speaks}
use Rattle.sccs_soak.specs.Keeps.{summary_keeps}
use Rattle.sccs_soak.specs.Summaries.{summary_action}
use Rattle.sccs_soak.proofs.SummaryLaws.{summary_steps}
use Rattle.sccs_soak.proofs.summaries.SummaryUtility.step.Goals as goal

pub returns-clause-step : goal.returns-clause-step
returns-clause-step g c =
    summary_steps c.args.self.now.rounds c.args.name.now c.summarize.result (g.D.Disk.told c.args.disk.now)
    (g.D.Disk.told c.summarize.new.disk) (g.I.Source.left c.args._input.now) (g.O.Sink.given c.args.out.now)
    (g.O.Sink.given c.summarize.new.out) (g.E.Sink.given c.args._err.now) c.summarize.ensures.same
    c.summarize.ensures.shows

pub returns-clause-crash_points : goal.returns-clause-crash_points
returns-clause-crash_points g c =
    reading_crash_points (summary_action c.args.self.now.rounds) c.summarize.result c.args.name.now
    (g.I.Source.left c.args._input.now) (scene (g.D.Disk.told c.args.disk.now) (g.O.Sink.given c.args.out.now)
    (g.E.Sink.given c.args._err.now)) (scene (g.D.Disk.told c.summarize.new.disk)
    (g.O.Sink.given c.summarize.new.out) (g.E.Sink.given c.args._err.now))
    (summary_keeps c.args.self.now.rounds) refl c.summarize.ensures.same (returns-clause-step g c)

pub returns-clause-speaks : goal.returns-clause-speaks
returns-clause-speaks g c = shown_speaks c.args.name.now c.summarize.result (g.E.Sink.given c.args._err.now)
    c.summarize.ensures.checks

pub returns-clause-others : goal.returns-clause-others
returns-clause-others g c = (λ changes. absurd cc, λ changes locks. absurd cc)
