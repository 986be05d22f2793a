use Rattle.std.proofs.Common.{rules, [], ◌∷◌, refl, sym}
use Rattle.sccs_steps.specs.Actions.{IsHeard, step_at}
use Rattle.sccs_steps.specs.Calls.{scene}
use Rattle.sccs_steps.specs.Settings.{setting}
use Rattle.sccs_steps.proofs.NameLaws.{misfit_runs, misfit_speaks, step_speaks, stepped_runs}
use Rattle.sccs_steps.proofs.NameStops.{misfit_stops, stepped_stops}
use Rattle.sccs_steps.proofs.RecoveringSteps.{misfit_recovers, stepped_recovers}
use Rattle.sccs_steps.proofs.UnlockedSteps.{none_unlocked, one_unlocked}
use Rattle.sccs_steps.proofs.names.run_name.Goals as goal

pub returns-in_default-clause-run : goal.returns-in_default-clause-run
returns-in_default-clause-run g c = record {
  steps = λ w m i spares clear shows heard. misfit_runs (g.U.UtilityWithStatus.action c.args.utility.now) w m i
      c.args.name.now _ _ _ _ _ (sym c.in_default.ensures.exact) shows c.conclude.ensures.concludes;
  stops =
      misfit_stops (g.U.UtilityWithStatus.action c.args.utility.now) c.args.name.now
      (IsHeard (g.U.UtilityWithStatus.action c.args.utility.now).takes
      (g.I.Source.left c.args.streams.now.input.now)) _ (setting g.I.Source g.O.Sink g.E.Sink g.D.Disk
      c.args.streams.now).stage _
      (sym c.in_default.ensures.exact) c.conclude.ensures.concludes;
  unlocked = none_unlocked (g.U.UtilityWithStatus.action c.args.utility.now)
      (λ m i. step_at (g.U.UtilityWithStatus.action c.args.utility.now) m i c.args.name.now ∷ [])
      (IsHeard (g.U.UtilityWithStatus.action c.args.utility.now).takes (g.I.Source.left c.args.streams.now.input.now)) _
      _ refl;
  recovers = misfit_recovers (g.U.UtilityWithStatus.action c.args.utility.now) c.args.name.now
      (IsHeard (g.U.UtilityWithStatus.action c.args.utility.now).takes (g.I.Source.left c.args.streams.now.input.now)) _
      _ _ refl (sym c.in_default.ensures.exact);
  speaks = misfit_speaks (g.U.UtilityWithStatus.action c.args.utility.now) c.args.name.now _ _ _
      (sym c.in_default.ensures.exact) c.conclude.ensures.concludes;
  reads = search rules;
  silent = search rules;
  ignores = search rules;
  causes = search rules;
}

pub returns-clause-run : goal.returns-clause-run
returns-clause-run g c = record {
  steps = λ w m i spares clear shows heard.
      stepped_runs (g.U.UtilityWithStatus.action c.args.utility.now) w m i c.args.name.now c.in-Some.file
      c.step-made.result _ _
      (setting g.I.Source g.O.Sink g.E.Sink g.D.Disk c.args.streams.now).stage
      (scene (g.D.Disk.told c.step-made.new.disk) (g.O.Sink.given c.step-made.new.out)
      (g.E.Sink.given c.step-made.new.err)) _
      (g.U.UtilityWithStatus.keeps c.args.utility.now) (sym c.in-Some.ensures.exact) c.in-Some.ensures.found clear.0
      c.step-made.ensures.reads shows heard c.step-made.ensures.step c.conclude-2.ensures.concludes;
  stops =
      stepped_stops (g.U.UtilityWithStatus.action c.args.utility.now) c.args.name.now c.in-Some.file c.step-made.result
      _ (g.I.Source.left c.args.streams.now.input.now)
      (setting g.I.Source g.O.Sink g.E.Sink g.D.Disk c.args.streams.now).stage
      (scene (g.D.Disk.told c.step-made.new.disk) (g.O.Sink.given c.step-made.new.out)
      (g.E.Sink.given c.step-made.new.err)) _
      (g.U.UtilityWithStatus.keeps c.args.utility.now) (sym c.in-Some.ensures.exact) c.in-Some.ensures.found
      c.step-made.ensures.reads c.step-made.ensures.crash_points c.step-made.ensures.others
      c.conclude-2.ensures.concludes;
  unlocked =
      one_unlocked (g.U.UtilityWithStatus.action c.args.utility.now) c.args.name.now c.in-Some.file
      (IsHeard (g.U.UtilityWithStatus.action c.args.utility.now).takes
      (g.I.Source.left c.args.streams.now.input.now)) _ _ (g.U.UtilityWithStatus.keeps c.args.utility.now)
      (sym c.in-Some.ensures.exact) c.in-Some.ensures.found c.step-made.ensures.reads c.step-made.ensures.unlocked
      c.step-made.ensures.others;
  recovers =
      stepped_recovers (g.U.UtilityWithStatus.action c.args.utility.now) c.args.name.now c.step-made.result _
      (IsHeard (g.U.UtilityWithStatus.action c.args.utility.now).takes
      (g.I.Source.left c.args.streams.now.input.now))
      (setting g.I.Source g.O.Sink g.E.Sink g.D.Disk c.args.streams.now).stage
      (scene (g.D.Disk.told c.step-made.new.disk) (g.O.Sink.given c.step-made.new.out)
      (g.E.Sink.given c.step-made.new.err)) _ c.step-made.ensures.recovers c.conclude-2.ensures.concludes
      (λ w m i spares clear shows heard.
      stepped_runs (g.U.UtilityWithStatus.action c.args.utility.now) w m i c.args.name.now c.in-Some.file
      c.step-made.result _ _
      (setting g.I.Source g.O.Sink g.E.Sink g.D.Disk c.args.streams.now).stage
      (scene (g.D.Disk.told c.step-made.new.disk) (g.O.Sink.given c.step-made.new.out)
      (g.E.Sink.given c.step-made.new.err)) _
      (g.U.UtilityWithStatus.keeps c.args.utility.now) (sym c.in-Some.ensures.exact) c.in-Some.ensures.found clear.0
      c.step-made.ensures.reads shows heard c.step-made.ensures.step c.conclude-2.ensures.concludes);
  speaks =
      step_speaks (g.U.UtilityWithStatus.action c.args.utility.now) c.args.name.now c.in-Some.file c.step-made.result _
      _ _ _ (sym c.in-Some.ensures.exact) c.in-Some.ensures.found c.step-made.ensures.speaks
      c.conclude-2.ensures.concludes;
  reads = search rules;
  silent = search rules;
  ignores = search rules;
  causes = search rules;
}
