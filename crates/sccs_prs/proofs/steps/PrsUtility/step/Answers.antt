use Rattle.std.proofs.Common.{refl}
use Rattle.sccs_steps.specs.Calls.{scene}
use Rattle.sccs_steps.proofs.ReadingCrashPoints.{reading_crash_points}
use Rattle.sccs_steps.proofs.UnlockedSteps.{unlocked_reading}
use Rattle.sccs_prs.specs.Keeps.{prs_keeps}
use Rattle.sccs_prs.specs.PrsStep.{prs_action}
use Rattle.sccs_prs.proofs.StepLaws.{as_step, is_sfile, shown_speaks, shown_steps}
use Rattle.sccs_prs.proofs.steps.PrsUtility.step.Goals as goal

pub show-requires : goal.show-requires
show-requires g c = is_sfile c.args.name.now c.requires

pub returns-clause-step : goal.returns-clause-step
returns-clause-step g c =
    shown_steps c.args.self.now.words.now c.args.self.now.place.now c.args.name.now c.show.result
    (g.D.Disk.told c.args.disk.now) (g.D.Disk.told c.show.new.disk) (g.I.Source.left c.args._input.now)
    (g.O.Sink.given c.args.out.now) (g.O.Sink.given c.show.new.out) (g.E.Sink.given c.args._err.now)
    c.show.ensures.same c.show.ensures.shows

pub returns-clause-crash_points : goal.returns-clause-crash_points
returns-clause-crash_points g c =
    reading_crash_points (prs_action c.args.self.now.words.now c.args.self.now.place.now) c.show.result c.args.name.now
    (g.I.Source.left c.args._input.now) (scene (g.D.Disk.told c.args.disk.now) (g.O.Sink.given c.args.out.now)
    (g.E.Sink.given c.args._err.now)) (scene (g.D.Disk.told c.show.new.disk) (g.O.Sink.given c.show.new.out)
    (g.E.Sink.given c.args._err.now))
    (prs_keeps c.args.self.now.words.now c.args.self.now.place.now) refl c.show.ensures.same (returns-clause-step g c)

pub returns-clause-unlocked : goal.returns-clause-unlocked
returns-clause-unlocked g c = unlocked_reading (prs_action c.args.self.now.words.now c.args.self.now.place.now)
    c.args.name.now _ _ c.show.ensures.same

pub returns-clause-speaks : goal.returns-clause-speaks
returns-clause-speaks g c = shown_speaks c.args.name.now c.show.result (g.E.Sink.given c.args._err.now)
    c.show.ensures.checks

pub returns-clause-causes : goal.returns-clause-causes
returns-clause-causes g c = as_step c.show.result _ _ _ _ _ _ c.show.ensures.causes
