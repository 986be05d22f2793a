use Rattle.std.proofs.Common.{ℕ, Result, sym, subst}
use Rattle.sccs_sid.specs.declared.refusals.StepFault.{StepFault}
use Rattle.sccs_steps.specs.Calls.{scene}
use Rattle.sccs_steps.specs.Ordinaries.{ordinary}
use Rattle.sccs_steps.specs.Recovering.{StepRecovers}
use Rattle.sccs_steps.specs.StepStops.{StepCrashPointsAs}
use Rattle.sccs_steps.proofs.OrdinaryLaws.{status_crash_points, status_recovers}
use Rattle.sccs_steps.proofs.ordinary.OrdinaryUtilityWithStatus.step.Goals as goal

pub returns-clause-crash_points : goal.returns-clause-crash_points
returns-clause-crash_points g c =
    subst (λ (r : Result ℕ StepFault). StepCrashPointsAs (λ (status : ℕ). status)
    (ordinary (g.U.Utility.action c.args.self.now.utility)) r c.args.name.now (g.I.Source.left c.args.input.now)
    (scene (g.D.Disk.told c.args.disk.now) (g.O.Sink.given c.args.out.now) (g.E.Sink.given c.args.err.now))
    (scene (g.D.Disk.told c.step-made.new.disk) (g.O.Sink.given c.step-made.new.out)
    (g.E.Sink.given c.step-made.new.err))) (sym c.with_status.ensures)
    (status_crash_points (g.U.Utility.action c.args.self.now.utility) c.step-made.result c.args.name.now
    (g.I.Source.left c.args.input.now) _ _ c.step-made.ensures.crash_points)

pub returns-clause-recovers : goal.returns-clause-recovers
returns-clause-recovers g c =
    subst (λ (r : Result ℕ StepFault). StepRecovers (ordinary (g.U.Utility.action c.args.self.now.utility)) r
    (g.D.Disk.told c.args.disk.now) (g.D.Disk.told c.step-made.new.disk)) (sym c.with_status.ensures)
    (status_recovers (g.U.Utility.action c.args.self.now.utility) c.step-made.result _ _ c.step-made.ensures.recovers)
