use Rattle.std.proofs.Common.{rules, ℕ, Result, ◌+◌, refl, sym, subst, ◌∙◌, drop}
use Rattle.sccs_steps.specs.Actions.{IsHeard, kind_hears, kind_of, operand_steps, steps_at}
use Rattle.sccs_steps.specs.Calls.{shown}
use Rattle.sccs_steps.specs.Running.{IsInput, RunsOperands}
use Rattle.sccs_steps.specs.Settings.{setting}
use Rattle.sccs_steps.specs.Speaking.{OperandBegins, OperandMakes}
use Rattle.sccs_steps.specs.StepLists.{SoFar, in_turn}
use Rattle.sccs_steps.specs.declared.faults.Fault.{Fault}
use Rattle.sccs_steps.proofs.Exits.{exit_is}
use Rattle.sccs_steps.proofs.JoinedSteps.{begins}
use Rattle.sccs_steps.proofs.KindLaws.{deaf_at, heard_at, still_left}
use Rattle.sccs_steps.proofs.Turns.{SpokeSoFar, spoke_begins, spoke_cut, spoke_ends, spoke_on, turn_on, turn_stops}
use Rattle.sccs_steps.proofs.Turns.{turns_end}
use Rattle.sccs_crash_points.proofs.UnlockedBut.{but_same}
use Rattle.sccs_steps.proofs.RecoveringSteps.{RecoversSoFar, firm_begins, firm_on, recovers_begin, recovers_early}
use Rattle.sccs_steps.proofs.RecoveringSteps.{recovers_end, recovers_on}
use Rattle.sccs_steps.proofs.UnlockedSteps.{next_unlocked}
use Rattle.sccs_steps.proofs.TurnStops.{StopsSoFar, stops_begin, stops_early, stops_end, stops_on}
use Rattle.sccs_steps.proofs.operands.run_operands.Goals as goal

pub loop-operand-init : goal.loop-operand-init
loop-operand-init g c = record {
  loans = search rules;
  so_far = λ w m i spares clear shows given. begins (g.U.UtilityWithStatus.action c.args.utility.now).rule w m
      (λ u. steps_at (g.U.UtilityWithStatus.action c.args.utility.now) u i c.args.operands.now) _
      (shown (setting g.I.Source g.O.Sink g.E.Sink g.D.Disk c.args.streams.now).stage) c.idle_status-status.ensures
      shows;
  stops = λ w folder i m past spares clear shows given is calm safe. stops_begin
      (g.U.UtilityWithStatus.action c.args.utility.now) w folder
      (λ u. steps_at (g.U.UtilityWithStatus.action c.args.utility.now) u i c.args.operands.now) _
      (setting g.I.Source g.O.Sink g.E.Sink g.D.Disk c.args.streams.now).stage m past c.idle_status-status.ensures
      spares shows is calm;
  unlocked = λ w m i spares clear shows given exempt plain are. but_same exempt _ _ refl;
  firm = λ never. firm_begins (g.D.Disk.told c.args.streams.now.disk.now);
  recovered = λ w m i spares clear shows given never.
      recovers_begin (g.U.UtilityWithStatus.action c.args.utility.now).rule w m
      (λ u. in_turn (operand_steps (g.U.UtilityWithStatus.action c.args.utility.now) i) u c.args.operands.now) _
      (setting g.I.Source g.O.Sink g.E.Sink g.D.Disk c.args.streams.now).stage c.idle_status-status.ensures shows;
  said = spoke_begins (g.U.UtilityWithStatus.action c.args.utility.now).rule
      (OperandMakes (g.U.UtilityWithStatus.action c.args.utility.now)) c.args.operands.now _
      (g.E.Sink.given c.args.streams.now.err.now) c.idle_status-status.ensures;
  left = λ lone below. refl;
  silent = λ only. refl;
  same = λ reads. refl;
  input_same = λ none. refl;
  input_quiet = λ none. refl;
  input_later = search rules;
  out_later = search rules;
  err_later = search rules;
  disk_later = search rules;
}

pub returns-in_err-one-clause-run : goal.returns-in_err-one-clause-run
returns-in_err-one-clause-run g c =
    subst (λ (r : Result ℕ Fault). RunsOperands (g.U.UtilityWithStatus.action c.args.utility.now) c.args.operands.now r
    (setting g.I.Source g.O.Sink g.E.Sink g.D.Disk c.args.streams.now)
    (setting g.I.Source g.O.Sink g.E.Sink g.D.Disk c.run_operand.new.streams))
    (sym (exit_is c.from_residual.result c.in_err-one.field-0.0 c.from_residual.ensures.1))
    (record {
      steps = λ w m i spares clear shows given.
          turn_stops (g.U.UtilityWithStatus.action c.args.utility.now) w m
          (operand_steps (g.U.UtilityWithStatus.action c.args.utility.now) i) c.args.operands.now
          c.loop-operand.operand-index c.loop-operand.status c.in_err-one.field-0.0 c.operand-item.result
          c.bytes.result.now _ _ _
          (c.bytes.ensures ∙ c.operand-item.is) c.loop-operand-test.true clear
          (c.loop-operand.invariant.so_far w m i spares clear shows given)
          (λ u clear shows. c.in_err-one.ensures.run.steps w u i spares clear shows
          (heard_at (g.U.UtilityWithStatus.action c.args.utility.now) c.args.operands.now
          c.loop-operand.operand-index c.operand-item.result c.bytes.result.now
          (g.I.Source.left c.args.streams.now.input.now) (g.I.Source.left c.loop-operand.streams.input.now) i
          (c.bytes.ensures ∙ c.operand-item.is) c.loop-operand-test.true given.0
          (c.loop-operand.invariant.left given.1 c.loop-operand-test.true)));
      stops = λ w folder i m past spares clear shows given is calm safe.
          stops_early (g.U.UtilityWithStatus.action c.args.utility.now) w folder
          (operand_steps (g.U.UtilityWithStatus.action c.args.utility.now) i) c.args.operands.now
          c.loop-operand.operand-index c.loop-operand.status c.in_err-one.field-0.0 c.operand-item.result
          c.bytes.result.now
          (setting g.I.Source g.O.Sink g.E.Sink g.D.Disk c.args.streams.now).stage
          (setting g.I.Source g.O.Sink g.E.Sink g.D.Disk c.loop-operand.streams).stage
          (setting g.I.Source g.O.Sink g.E.Sink g.D.Disk c.run_operand.new.streams).stage m past
          (c.bytes.ensures ∙ c.operand-item.is) c.loop-operand-test.true clear safe
          (c.loop-operand.invariant.stops w folder i m past spares clear shows given is calm safe)
          (λ u m past clear shows is calm safe. c.in_err-one.ensures.run.stops w u i m past spares clear shows
          (heard_at (g.U.UtilityWithStatus.action c.args.utility.now) c.args.operands.now
          c.loop-operand.operand-index c.operand-item.result c.bytes.result.now
          (g.I.Source.left c.args.streams.now.input.now) (g.I.Source.left c.loop-operand.streams.input.now) i
          (c.bytes.ensures ∙ c.operand-item.is) c.loop-operand-test.true given.0
          (c.loop-operand.invariant.left given.1 c.loop-operand-test.true)) is calm safe);
      unlocked = λ w m i spares clear shows given exempt plain are.
          next_unlocked (g.U.UtilityWithStatus.action c.args.utility.now) w m
          (operand_steps (g.U.UtilityWithStatus.action c.args.utility.now) i) c.args.operands.now
          c.loop-operand.operand-index c.loop-operand.status c.operand-item.result c.bytes.result.now _
          (shown (setting g.I.Source g.O.Sink g.E.Sink g.D.Disk c.loop-operand.streams).stage) _ _ _ exempt
          (c.bytes.ensures ∙ c.operand-item.is) c.loop-operand-test.true refl clear
          (c.loop-operand.invariant.so_far w m i spares clear shows given) plain are
          (c.loop-operand.invariant.unlocked w m i spares clear shows given exempt plain are)
          (λ u clear shows plain are. c.in_err-one.ensures.run.unlocked w u i spares clear shows
          (heard_at (g.U.UtilityWithStatus.action c.args.utility.now) c.args.operands.now
          c.loop-operand.operand-index c.operand-item.result c.bytes.result.now
          (g.I.Source.left c.args.streams.now.input.now) (g.I.Source.left c.loop-operand.streams.input.now) i
          (c.bytes.ensures ∙ c.operand-item.is) c.loop-operand-test.true given.0
          (c.loop-operand.invariant.left given.1 c.loop-operand-test.true)) exempt plain are);
      recovers = λ never.
          recovers_early (g.U.UtilityWithStatus.action c.args.utility.now)
          (λ m i. steps_at (g.U.UtilityWithStatus.action c.args.utility.now) m i c.args.operands.now)
          (λ m i. operand_steps (g.U.UtilityWithStatus.action c.args.utility.now) i m c.bytes.result.now)
          (IsInput (g.U.UtilityWithStatus.action c.args.utility.now) c.args.operands.now
          (g.I.Source.left c.args.streams.now.input.now))
          (IsHeard (kind_hears (g.U.UtilityWithStatus.action c.args.utility.now).takes
          (kind_of (g.U.UtilityWithStatus.action c.args.utility.now).takes c.bytes.result.now))
          (g.I.Source.left c.loop-operand.streams.input.now)) c.in_err-one.field-0.0
          (setting g.I.Source g.O.Sink g.E.Sink g.D.Disk c.args.streams.now).stage.told
          (setting g.I.Source g.O.Sink g.E.Sink g.D.Disk c.loop-operand.streams).stage.told
          (setting g.I.Source g.O.Sink g.E.Sink g.D.Disk c.run_operand.new.streams).stage.told
          (c.loop-operand.invariant.firm never) (c.in_err-one.ensures.run.recovers never);
      speaks =
          spoke_cut (g.U.UtilityWithStatus.action c.args.utility.now).rule
          (OperandMakes (g.U.UtilityWithStatus.action c.args.utility.now))
          (OperandBegins (g.U.UtilityWithStatus.action c.args.utility.now)) c.args.operands.now
          c.loop-operand.operand-index c.loop-operand.status c.in_err-one.field-0.0 c.operand-item.result
          c.bytes.result.now _ _ _
          (c.bytes.ensures ∙ c.operand-item.is) c.loop-operand-test.true c.loop-operand.invariant.said
          c.in_err-one.ensures.run.speaks;
      reads = λ only. c.in_err-one.ensures.run.reads only ∙ c.loop-operand.invariant.same only;
      silent = λ only. c.in_err-one.ensures.run.silent only ∙ c.loop-operand.invariant.silent only;
      ignores = λ none. record {
        same = (c.in_err-one.ensures.run.ignores (deaf_at (g.U.UtilityWithStatus.action c.args.utility.now)
            c.args.operands.now c.loop-operand.operand-index c.operand-item.result c.bytes.result.now (c.bytes.ensures
            ∙ c.operand-item.is) c.loop-operand-test.true none)).same ∙ c.loop-operand.invariant.input_same none;
        quiet = (c.in_err-one.ensures.run.ignores (deaf_at (g.U.UtilityWithStatus.action c.args.utility.now)
            c.args.operands.now c.loop-operand.operand-index c.operand-item.result c.bytes.result.now (c.bytes.ensures
            ∙ c.operand-item.is) c.loop-operand-test.true none)).quiet ∙ c.loop-operand.invariant.input_quiet none;
        cause = (c.in_err-one.ensures.run.ignores (deaf_at (g.U.UtilityWithStatus.action c.args.utility.now)
            c.args.operands.now c.loop-operand.operand-index c.operand-item.result c.bytes.result.now (c.bytes.ensures
            ∙ c.operand-item.is) c.loop-operand-test.true none)).cause;
      };
      causes = search rules;
    })

pub loop-operand-preserved : goal.loop-operand-preserved
loop-operand-preserved g c = record {
  loans = search rules;
  so_far = λ w m i spares clear shows given.
      subst (λ status. SoFar (g.U.UtilityWithStatus.action c.args.utility.now).rule w m
      (steps_at (g.U.UtilityWithStatus.action c.args.utility.now) m i c.args.operands.now)
      (λ u. steps_at (g.U.UtilityWithStatus.action c.args.utility.now) u i
      (drop (c.loop-operand.operand-index + 1) c.args.operands.now)) status
      (shown (setting g.I.Source g.O.Sink g.E.Sink g.D.Disk c.args.streams.now).stage)
      (shown (setting g.I.Source g.O.Sink g.E.Sink g.D.Disk c.run_operand.new.streams).stage))
      (sym c.joined_status-status.ensures)
      (turn_on (g.U.UtilityWithStatus.action c.args.utility.now) w m
      (operand_steps (g.U.UtilityWithStatus.action c.args.utility.now) i) c.args.operands.now
      c.loop-operand.operand-index c.loop-operand.status c.in_ok-one.one c.operand-item.result c.bytes.result.now _
      _ _
      (c.bytes.ensures ∙ c.operand-item.is) c.loop-operand-test.true clear (c.loop-operand.invariant.so_far w m i spares
      clear shows given) (λ u clear shows. c.in_ok-one.ensures.run.steps w u i spares clear shows
      (heard_at (g.U.UtilityWithStatus.action c.args.utility.now) c.args.operands.now c.loop-operand.operand-index
      c.operand-item.result c.bytes.result.now (g.I.Source.left c.args.streams.now.input.now)
      (g.I.Source.left c.loop-operand.streams.input.now) i (c.bytes.ensures ∙ c.operand-item.is)
      c.loop-operand-test.true given.0 (c.loop-operand.invariant.left given.1 c.loop-operand-test.true))));
  stops = λ w folder i m past spares clear shows given is calm safe.
      subst (λ status. StopsSoFar (g.U.UtilityWithStatus.action c.args.utility.now) w folder
      (steps_at (g.U.UtilityWithStatus.action c.args.utility.now) folder i c.args.operands.now)
      (λ u. steps_at (g.U.UtilityWithStatus.action c.args.utility.now) u i
      (drop (c.loop-operand.operand-index + 1) c.args.operands.now)) status
      (setting g.I.Source g.O.Sink g.E.Sink g.D.Disk c.args.streams.now).stage
      (setting g.I.Source g.O.Sink g.E.Sink g.D.Disk c.run_operand.new.streams).stage m past)
      (sym c.joined_status-status.ensures)
      (stops_on (g.U.UtilityWithStatus.action c.args.utility.now) w folder
      (operand_steps (g.U.UtilityWithStatus.action c.args.utility.now) i) c.args.operands.now
      c.loop-operand.operand-index c.loop-operand.status c.in_ok-one.one c.operand-item.result c.bytes.result.now
      (setting g.I.Source g.O.Sink g.E.Sink g.D.Disk c.args.streams.now).stage
      (setting g.I.Source g.O.Sink g.E.Sink g.D.Disk c.loop-operand.streams).stage
      (setting g.I.Source g.O.Sink g.E.Sink g.D.Disk c.run_operand.new.streams).stage m past
      (c.bytes.ensures ∙ c.operand-item.is) c.loop-operand-test.true clear safe
      (c.loop-operand.invariant.stops w folder i m past spares clear shows given is calm safe)
      (λ u clear shows. c.in_ok-one.ensures.run.steps w u i spares clear shows
      (heard_at (g.U.UtilityWithStatus.action c.args.utility.now) c.args.operands.now c.loop-operand.operand-index
      c.operand-item.result c.bytes.result.now (g.I.Source.left c.args.streams.now.input.now)
      (g.I.Source.left c.loop-operand.streams.input.now) i (c.bytes.ensures ∙ c.operand-item.is)
      c.loop-operand-test.true given.0 (c.loop-operand.invariant.left given.1 c.loop-operand-test.true)))
      (λ u m past clear shows is calm safe. c.in_ok-one.ensures.run.stops w u i m past spares clear shows
      (heard_at (g.U.UtilityWithStatus.action c.args.utility.now) c.args.operands.now c.loop-operand.operand-index
      c.operand-item.result c.bytes.result.now (g.I.Source.left c.args.streams.now.input.now)
      (g.I.Source.left c.loop-operand.streams.input.now) i (c.bytes.ensures ∙ c.operand-item.is)
      c.loop-operand-test.true given.0 (c.loop-operand.invariant.left given.1 c.loop-operand-test.true)) is calm
      safe));
  unlocked = λ w m i spares clear shows given exempt plain are.
      next_unlocked (g.U.UtilityWithStatus.action c.args.utility.now) w m
      (operand_steps (g.U.UtilityWithStatus.action c.args.utility.now) i) c.args.operands.now
      c.loop-operand.operand-index c.loop-operand.status c.operand-item.result c.bytes.result.now _
      (shown (setting g.I.Source g.O.Sink g.E.Sink g.D.Disk c.loop-operand.streams).stage) _ _ _ exempt
      (c.bytes.ensures ∙ c.operand-item.is) c.loop-operand-test.true refl clear
      (c.loop-operand.invariant.so_far w m i spares clear shows given) plain are
      (c.loop-operand.invariant.unlocked w m i spares clear shows given exempt plain are)
      (λ u clear shows plain are. c.in_ok-one.ensures.run.unlocked w u i spares clear shows
      (heard_at (g.U.UtilityWithStatus.action c.args.utility.now) c.args.operands.now c.loop-operand.operand-index
      c.operand-item.result c.bytes.result.now (g.I.Source.left c.args.streams.now.input.now)
      (g.I.Source.left c.loop-operand.streams.input.now) i (c.bytes.ensures ∙ c.operand-item.is)
      c.loop-operand-test.true given.0 (c.loop-operand.invariant.left given.1 c.loop-operand-test.true)) exempt
      plain are);
  firm = λ never. firm_on (g.U.UtilityWithStatus.action c.args.utility.now)
      (λ m i. operand_steps (g.U.UtilityWithStatus.action c.args.utility.now) i m c.bytes.result.now)
      (IsHeard (kind_hears (g.U.UtilityWithStatus.action c.args.utility.now).takes
      (kind_of (g.U.UtilityWithStatus.action c.args.utility.now).takes c.bytes.result.now))
      (g.I.Source.left c.loop-operand.streams.input.now)) c.in_ok-one.one (setting g.I.Source g.O.Sink g.E.Sink g.D.Disk
      c.args.streams.now).stage.told (setting g.I.Source g.O.Sink g.E.Sink g.D.Disk c.loop-operand.streams).stage.told
      (setting g.I.Source g.O.Sink g.E.Sink g.D.Disk c.run_operand.new.streams).stage.told
      (c.loop-operand.invariant.firm never) (c.in_ok-one.ensures.run.recovers never);
  recovered = λ w m i spares clear shows given never.
      subst (λ status. RecoversSoFar (g.U.UtilityWithStatus.action c.args.utility.now).rule w m
      (in_turn (operand_steps (g.U.UtilityWithStatus.action c.args.utility.now) i) m c.args.operands.now)
      (λ u. in_turn (operand_steps (g.U.UtilityWithStatus.action c.args.utility.now) i) u
      (drop (c.loop-operand.operand-index + 1) c.args.operands.now)) status
      (setting g.I.Source g.O.Sink g.E.Sink g.D.Disk c.args.streams.now).stage
      (setting g.I.Source g.O.Sink g.E.Sink g.D.Disk c.run_operand.new.streams).stage)
      (sym c.joined_status-status.ensures)
      (recovers_on (g.U.UtilityWithStatus.action c.args.utility.now) w m
      (operand_steps (g.U.UtilityWithStatus.action c.args.utility.now) i) c.args.operands.now
      c.loop-operand.operand-index c.loop-operand.status c.in_ok-one.one c.operand-item.result c.bytes.result.now
      (setting g.I.Source g.O.Sink g.E.Sink g.D.Disk c.args.streams.now).stage
      (setting g.I.Source g.O.Sink g.E.Sink g.D.Disk c.loop-operand.streams).stage
      (setting g.I.Source g.O.Sink g.E.Sink g.D.Disk c.run_operand.new.streams).stage
      (c.bytes.ensures ∙ c.operand-item.is) c.loop-operand-test.true clear (c.loop-operand.invariant.firm never)
      ((c.in_ok-one.ensures.run.recovers never).keeps (λ is. cc)) (c.loop-operand.invariant.recovered w m i spares
      clear shows given never)
      (λ u clear shows. c.in_ok-one.ensures.run.steps w u i spares clear shows
      (heard_at (g.U.UtilityWithStatus.action c.args.utility.now) c.args.operands.now c.loop-operand.operand-index
      c.operand-item.result c.bytes.result.now (g.I.Source.left c.args.streams.now.input.now)
      (g.I.Source.left c.loop-operand.streams.input.now) i (c.bytes.ensures ∙ c.operand-item.is)
      c.loop-operand-test.true given.0 (c.loop-operand.invariant.left given.1 c.loop-operand-test.true)))
      (λ u clear shows made. (c.in_ok-one.ensures.run.recovers never).calm refl w u i spares clear shows
      (heard_at (g.U.UtilityWithStatus.action c.args.utility.now) c.args.operands.now c.loop-operand.operand-index
      c.operand-item.result c.bytes.result.now (g.I.Source.left c.args.streams.now.input.now)
      (g.I.Source.left c.loop-operand.streams.input.now) i (c.bytes.ensures ∙ c.operand-item.is)
      c.loop-operand-test.true given.0 (c.loop-operand.invariant.left given.1 c.loop-operand-test.true)) made));
  said =
      subst (λ status. SpokeSoFar (g.U.UtilityWithStatus.action c.args.utility.now).rule
      (OperandMakes (g.U.UtilityWithStatus.action c.args.utility.now)) c.args.operands.now
      (c.loop-operand.operand-index + 1) status (g.E.Sink.given c.args.streams.now.err.now)
      (g.E.Sink.given c.run_operand.new.streams.err.now)) (sym c.joined_status-status.ensures)
      (spoke_on (g.U.UtilityWithStatus.action c.args.utility.now).rule
      (OperandMakes (g.U.UtilityWithStatus.action c.args.utility.now))
      (OperandBegins (g.U.UtilityWithStatus.action c.args.utility.now)) c.args.operands.now
      c.loop-operand.operand-index c.loop-operand.status c.in_ok-one.one c.operand-item.result c.bytes.result.now _
      _ _
      (c.bytes.ensures ∙ c.operand-item.is) c.loop-operand-test.true c.loop-operand.invariant.said
      c.in_ok-one.ensures.run.speaks);
  left = λ lone below.
      still_left (g.U.UtilityWithStatus.action c.args.utility.now) c.args.operands.now c.loop-operand.operand-index _ _
      _ lone below (c.loop-operand.invariant.left lone c.loop-operand-test.true)
      (λ none. (c.in_ok-one.ensures.run.ignores (deaf_at (g.U.UtilityWithStatus.action c.args.utility.now)
      c.args.operands.now c.loop-operand.operand-index c.operand-item.result c.bytes.result.now (c.bytes.ensures
      ∙ c.operand-item.is) c.loop-operand-test.true none)).same);
  silent = λ only. c.in_ok-one.ensures.run.silent only ∙ c.loop-operand.invariant.silent only;
  same = λ only. c.in_ok-one.ensures.run.reads only ∙ c.loop-operand.invariant.same only;
  input_same = λ none. (c.in_ok-one.ensures.run.ignores (deaf_at (g.U.UtilityWithStatus.action c.args.utility.now)
      c.args.operands.now c.loop-operand.operand-index c.operand-item.result c.bytes.result.now (c.bytes.ensures
      ∙ c.operand-item.is) c.loop-operand-test.true none)).same ∙ c.loop-operand.invariant.input_same none;
  input_quiet = λ none. (c.in_ok-one.ensures.run.ignores (deaf_at (g.U.UtilityWithStatus.action c.args.utility.now)
      c.args.operands.now c.loop-operand.operand-index c.operand-item.result c.bytes.result.now (c.bytes.ensures
      ∙ c.operand-item.is) c.loop-operand-test.true none)).quiet ∙ c.loop-operand.invariant.input_quiet none;
  input_later = search rules;
  out_later = search rules;
  err_later = search rules;
  disk_later = search rules;
}

pub returns-clause-run : goal.returns-clause-run
returns-clause-run g c = record {
  steps = λ w m i spares clear shows given. turns_end (g.U.UtilityWithStatus.action c.args.utility.now).rule w m
      (operand_steps (g.U.UtilityWithStatus.action c.args.utility.now) i) c.args.operands.now
      c.loop-operand.operand-index c.loop-operand.status _ _ c.loop-operand-test.false
      (c.loop-operand.invariant.so_far w m i spares clear shows given);
  stops = λ w folder i m past spares clear shows given is calm safe.
      stops_end (g.U.UtilityWithStatus.action c.args.utility.now) w folder
      (operand_steps (g.U.UtilityWithStatus.action c.args.utility.now) i) c.args.operands.now
      c.loop-operand.operand-index c.loop-operand.status (setting g.I.Source g.O.Sink g.E.Sink g.D.Disk
      c.args.streams.now).stage (setting g.I.Source g.O.Sink g.E.Sink g.D.Disk c.loop-operand.streams).stage m past
      c.loop-operand-test.false (c.loop-operand.invariant.stops w folder i m past spares clear shows given is calm
      safe);
  unlocked = λ w m i spares clear shows given exempt plain are. c.loop-operand.invariant.unlocked w m i spares clear
      shows given exempt plain are;
  recovers = λ never.
      recovers_end (g.U.UtilityWithStatus.action c.args.utility.now)
      (operand_steps (g.U.UtilityWithStatus.action c.args.utility.now))
      (IsInput (g.U.UtilityWithStatus.action c.args.utility.now) c.args.operands.now
      (g.I.Source.left c.args.streams.now.input.now)) c.args.operands.now c.loop-operand.operand-index
      c.loop-operand.status (setting g.I.Source g.O.Sink g.E.Sink g.D.Disk c.args.streams.now).stage
      (setting g.I.Source g.O.Sink g.E.Sink g.D.Disk c.loop-operand.streams).stage c.loop-operand-test.false
      (c.loop-operand.invariant.firm never) (λ w m i spares clear shows given. c.loop-operand.invariant.recovered w
      m i spares clear shows given never);
  speaks = spoke_ends (g.U.UtilityWithStatus.action c.args.utility.now).rule
      (OperandMakes (g.U.UtilityWithStatus.action c.args.utility.now))
      (OperandBegins (g.U.UtilityWithStatus.action c.args.utility.now)) c.args.operands.now c.loop-operand.operand-index
      c.loop-operand.status _ _ c.loop-operand-test.false c.loop-operand.invariant.said;
  reads = c.loop-operand.invariant.same;
  silent = c.loop-operand.invariant.silent;
  ignores = λ none. record {
    same = c.loop-operand.invariant.input_same none;
    quiet =
        c.loop-operand.invariant.input_quiet none;
    cause = λ is. absurd (cc);
  };
  causes = search rules;
}
