use Rattle.std.proofs.Common.{ℕ}
use Rattle.sccs_soak.proofs.DropLaws.{dropped_crash_points, dropped_speaks, dropped_steps}
use Rattle.sccs_soak.proofs.dropping.DroppingUtilityWithStatus.step.Goals as goal

pub returns-clause-crash_points : goal.returns-clause-crash_points
returns-clause-crash_points g c =
    dropped_crash_points (λ (status : ℕ). status) c.args.name.now
    (g.U.UtilityWithStatus.action c.args.self.now.utility.now) c.step.result (g.I.Source.left c.args.input.now) _ _
    (g.O.Sink.given c.args._out.now) (g.E.Sink.given c.args._err.now) c.step.ensures.crash_points

pub returns-clause-speaks : goal.returns-clause-speaks
returns-clause-speaks g c = dropped_speaks (λ (status : ℕ). status) c.args.name.now
    (g.U.UtilityWithStatus.action c.args.self.now.utility.now).could c.step.result _ _ (g.E.Sink.given c.args._err.now)
    c.step.ensures.speaks

pub returns-clause-others : goal.returns-clause-others
returns-clause-others g c = c.step.ensures.others

pub returns-clause-step : goal.returns-clause-step
returns-clause-step g c =
    dropped_steps (λ (status : ℕ). status) c.args.name.now (g.U.UtilityWithStatus.action c.args.self.now.utility.now)
    c.step.result (g.I.Source.left c.args.input.now) _ _ (g.O.Sink.given c.args._out.now)
    (g.E.Sink.given c.args._err.now) c.step.ensures.step
