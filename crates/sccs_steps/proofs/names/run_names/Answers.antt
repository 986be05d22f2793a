use Rattle.std.proofs.Common.{rules, ℕ, Result, ◌+◌, [], ◌∷◌, inl, refl, sym, subst, ◌∙◌, drop}
use Rattle.sccs_steps.specs.Actions.{IsHeard, step_at, steps_of}
use Rattle.sccs_steps.specs.Calls.{shown}
use Rattle.sccs_steps.specs.Running.{RunsNames}
use Rattle.sccs_steps.specs.Settings.{setting}
use Rattle.sccs_steps.specs.Speaking.{NameMakes}
use Rattle.sccs_steps.specs.StepLists.{SoFar, in_turn}
use Rattle.sccs_steps.specs.declared.faults.Fault.{Fault}
use Rattle.sccs_steps.proofs.Exits.{exit_is}
use Rattle.sccs_steps.proofs.JoinedSteps.{begins}
use Rattle.sccs_steps.proofs.Turns.{SpokeSoFar, spoke_begins, spoke_cut, spoke_ends, spoke_on, turn_on, turn_stops}
use Rattle.sccs_steps.proofs.Turns.{turns_end}
use Rattle.sccs_crash_points.proofs.UnlockedBut.{but_same}
use Rattle.sccs_steps.proofs.RecoveringSteps.{RecoversSoFar, firm_begins, firm_on, recovers_begin, recovers_early}
use Rattle.sccs_steps.proofs.RecoveringSteps.{recovers_end, recovers_on}
use Rattle.sccs_steps.proofs.UnlockedSteps.{next_unlocked}
use Rattle.sccs_steps.proofs.TurnStops.{StopsSoFar, stops_begin, stops_early, stops_end, stops_on}
use Rattle.sccs_steps.proofs.names.run_names.Goals as goal

pub loop-name-init : goal.loop-name-init
loop-name-init g c = record {
  loans = search rules;
  so_far = λ w m i spares clear shows. begins (g.U.UtilityWithStatus.action c.args.utility.now).rule w m
      (λ u. steps_of (g.U.UtilityWithStatus.action c.args.utility.now) i u c.args.names.now) _
      (shown (setting g.I.Source g.O.Sink g.E.Sink g.D.Disk c.args.streams.now).stage) c.idle_status-status.ensures
      shows;
  stops = λ w folder i m past spares clear shows is calm safe.
      stops_begin (g.U.UtilityWithStatus.action c.args.utility.now) w folder
      (λ u. steps_of (g.U.UtilityWithStatus.action c.args.utility.now) i u c.args.names.now) _
      (setting g.I.Source g.O.Sink g.E.Sink g.D.Disk c.args.streams.now).stage m past c.idle_status-status.ensures
      spares shows is calm;
  unlocked = λ w m i spares clear shows exempt plain are. but_same exempt _ _ refl;
  firm = λ never. firm_begins (g.D.Disk.told c.args.streams.now.disk.now);
  recovered = λ w m i spares clear shows never.
      recovers_begin (g.U.UtilityWithStatus.action c.args.utility.now).rule w m
      (λ u. in_turn (λ u n. step_at (g.U.UtilityWithStatus.action c.args.utility.now) u i n ∷ []) u
      c.args.names.now) _ (setting g.I.Source g.O.Sink g.E.Sink g.D.Disk c.args.streams.now).stage
      c.idle_status-status.ensures shows;
  said = spoke_begins (g.U.UtilityWithStatus.action c.args.utility.now).rule
      (NameMakes (g.U.UtilityWithStatus.action c.args.utility.now)) c.args.names.now _
      (g.E.Sink.given c.args.streams.now.err.now) c.idle_status-status.ensures;
  silent = λ only. refl;
  same = λ reads. refl;
  input_same = refl;
  input_quiet = refl;
  out_later = search rules;
  err_later = search rules;
  disk_later = search rules;
}

pub returns-in_err-one-clause-run : goal.returns-in_err-one-clause-run
returns-in_err-one-clause-run g c =
    subst (λ (r : Result ℕ Fault). RunsNames (g.U.UtilityWithStatus.action c.args.utility.now) c.args.names.now r
    (setting g.I.Source g.O.Sink g.E.Sink g.D.Disk c.args.streams.now)
    (setting g.I.Source g.O.Sink g.E.Sink g.D.Disk c.run_name.new.streams))
    (sym (exit_is c.from_residual.result c.in_err-one.field-0.0 c.from_residual.ensures.1))
    (record {
      steps = λ w m i spares clear shows heard.
          turn_stops (g.U.UtilityWithStatus.action c.args.utility.now) w m
          (λ u n. step_at (g.U.UtilityWithStatus.action c.args.utility.now) u i n ∷ []) c.args.names.now
          c.loop-name.name-index c.loop-name.status c.in_err-one.field-0.0 c.name-item.result c.bytes.result.now _ _
          _
          (c.bytes.ensures ∙ c.name-item.is) c.loop-name-test.true clear
          (c.loop-name.invariant.so_far w m i spares clear shows) (λ u clear shows. c.in_err-one.ensures.run.steps w
          u i spares clear shows (inl c.requires));
      stops = λ w folder i m past spares clear shows heard is calm safe.
          stops_early (g.U.UtilityWithStatus.action c.args.utility.now) w folder
          (λ u n. step_at (g.U.UtilityWithStatus.action c.args.utility.now) u i n ∷ []) c.args.names.now
          c.loop-name.name-index c.loop-name.status c.in_err-one.field-0.0 c.name-item.result c.bytes.result.now
          (setting g.I.Source g.O.Sink g.E.Sink g.D.Disk c.args.streams.now).stage
          (setting g.I.Source g.O.Sink g.E.Sink g.D.Disk c.loop-name.streams).stage
          (setting g.I.Source g.O.Sink g.E.Sink g.D.Disk c.run_name.new.streams).stage m past
          (c.bytes.ensures ∙ c.name-item.is) c.loop-name-test.true clear safe
          (c.loop-name.invariant.stops w folder i m past spares clear shows is calm safe)
          (λ u m past clear shows is calm safe. c.in_err-one.ensures.run.stops w u i m past spares clear shows
          (inl c.requires) is calm safe);
      unlocked = λ w m i spares clear shows heard exempt plain are.
          next_unlocked (g.U.UtilityWithStatus.action c.args.utility.now) w m
          (λ u n. step_at (g.U.UtilityWithStatus.action c.args.utility.now) u i n ∷ []) c.args.names.now
          c.loop-name.name-index c.loop-name.status c.name-item.result c.bytes.result.now _
          (shown (setting g.I.Source g.O.Sink g.E.Sink g.D.Disk c.loop-name.streams).stage) _ _ _ exempt
          (c.bytes.ensures ∙ c.name-item.is) c.loop-name-test.true refl clear
          (c.loop-name.invariant.so_far w m i spares clear shows) plain are
          (c.loop-name.invariant.unlocked w m i spares clear shows exempt plain are)
          (λ u clear shows plain are. c.in_err-one.ensures.run.unlocked w u i spares clear shows (inl c.requires) exempt
          plain are);
      recovers = λ never.
          recovers_early (g.U.UtilityWithStatus.action c.args.utility.now)
          (λ m i. steps_of (g.U.UtilityWithStatus.action c.args.utility.now) i m c.args.names.now)
          (λ m i. step_at (g.U.UtilityWithStatus.action c.args.utility.now) m i c.bytes.result.now ∷ [])
          (IsHeard (g.U.UtilityWithStatus.action c.args.utility.now).takes
          (g.I.Source.left c.args.streams.now.input.now))
          (IsHeard (g.U.UtilityWithStatus.action c.args.utility.now).takes
          (g.I.Source.left c.loop-name.streams.input.now)) c.in_err-one.field-0.0
          (setting g.I.Source g.O.Sink g.E.Sink g.D.Disk c.args.streams.now).stage.told
          (setting g.I.Source g.O.Sink g.E.Sink g.D.Disk c.loop-name.streams).stage.told
          (setting g.I.Source g.O.Sink g.E.Sink g.D.Disk c.run_name.new.streams).stage.told
          (c.loop-name.invariant.firm never) (c.in_err-one.ensures.run.recovers never);
      speaks =
          spoke_cut (g.U.UtilityWithStatus.action c.args.utility.now).rule
          (NameMakes (g.U.UtilityWithStatus.action c.args.utility.now))
          (NameMakes (g.U.UtilityWithStatus.action c.args.utility.now)) c.args.names.now c.loop-name.name-index
          c.loop-name.status c.in_err-one.field-0.0 c.name-item.result c.bytes.result.now _ _ _
          (c.bytes.ensures ∙ c.name-item.is) c.loop-name-test.true c.loop-name.invariant.said
          c.in_err-one.ensures.run.speaks;
      reads = λ only. c.in_err-one.ensures.run.reads only ∙ c.loop-name.invariant.same only;
      silent = λ only. c.in_err-one.ensures.run.silent only ∙ c.loop-name.invariant.silent only;
      ignores = search rules;
      causes = search rules;
    })

pub loop-name-preserved : goal.loop-name-preserved
loop-name-preserved g c = record {
  loans = search rules;
  so_far = λ w m i spares clear shows.
      subst (λ status. SoFar (g.U.UtilityWithStatus.action c.args.utility.now).rule w m
      (steps_of (g.U.UtilityWithStatus.action c.args.utility.now) i m c.args.names.now)
      (λ u. steps_of (g.U.UtilityWithStatus.action c.args.utility.now) i u
      (drop (c.loop-name.name-index + 1) c.args.names.now)) status
      (shown (setting g.I.Source g.O.Sink g.E.Sink g.D.Disk c.args.streams.now).stage)
      (shown (setting g.I.Source g.O.Sink g.E.Sink g.D.Disk c.run_name.new.streams).stage))
      (sym c.joined_status-status.ensures)
      (turn_on (g.U.UtilityWithStatus.action c.args.utility.now) w m
      (λ u n. step_at (g.U.UtilityWithStatus.action c.args.utility.now) u i n ∷ []) c.args.names.now
      c.loop-name.name-index c.loop-name.status c.in_ok-one.one c.name-item.result c.bytes.result.now _ _ _
      (c.bytes.ensures ∙ c.name-item.is) c.loop-name-test.true clear (c.loop-name.invariant.so_far w m i spares clear
      shows) (λ u clear shows. c.in_ok-one.ensures.run.steps w u i spares clear shows (inl c.requires)));
  stops = λ w folder i m past spares clear shows is calm safe.
      subst (λ status. StopsSoFar (g.U.UtilityWithStatus.action c.args.utility.now) w folder
      (steps_of (g.U.UtilityWithStatus.action c.args.utility.now) i folder c.args.names.now)
      (λ u. steps_of (g.U.UtilityWithStatus.action c.args.utility.now) i u
      (drop (c.loop-name.name-index + 1) c.args.names.now)) status
      (setting g.I.Source g.O.Sink g.E.Sink g.D.Disk c.args.streams.now).stage
      (setting g.I.Source g.O.Sink g.E.Sink g.D.Disk c.run_name.new.streams).stage m past)
      (sym c.joined_status-status.ensures)
      (stops_on (g.U.UtilityWithStatus.action c.args.utility.now) w folder
      (λ u n. step_at (g.U.UtilityWithStatus.action c.args.utility.now) u i n ∷ []) c.args.names.now
      c.loop-name.name-index c.loop-name.status c.in_ok-one.one c.name-item.result c.bytes.result.now
      (setting g.I.Source g.O.Sink g.E.Sink g.D.Disk c.args.streams.now).stage
      (setting g.I.Source g.O.Sink g.E.Sink g.D.Disk c.loop-name.streams).stage
      (setting g.I.Source g.O.Sink g.E.Sink g.D.Disk c.run_name.new.streams).stage m past
      (c.bytes.ensures ∙ c.name-item.is) c.loop-name-test.true clear safe (c.loop-name.invariant.stops w folder i m past
      spares clear shows is calm safe) (λ u clear shows. c.in_ok-one.ensures.run.steps w u i spares clear shows
      (inl c.requires))
      (λ u m past clear shows is calm safe. c.in_ok-one.ensures.run.stops w u i m past spares clear shows
      (inl c.requires) is calm safe));
  unlocked = λ w m i spares clear shows exempt plain are.
      next_unlocked (g.U.UtilityWithStatus.action c.args.utility.now) w m
      (λ u n. step_at (g.U.UtilityWithStatus.action c.args.utility.now) u i n ∷ []) c.args.names.now
      c.loop-name.name-index c.loop-name.status c.name-item.result c.bytes.result.now _
      (shown (setting g.I.Source g.O.Sink g.E.Sink g.D.Disk c.loop-name.streams).stage) _ _ _ exempt
      (c.bytes.ensures ∙ c.name-item.is) c.loop-name-test.true refl clear
      (c.loop-name.invariant.so_far w m i spares clear shows) plain are
      (c.loop-name.invariant.unlocked w m i spares clear shows exempt plain are)
      (λ u clear shows plain are. c.in_ok-one.ensures.run.unlocked w u i spares clear shows (inl c.requires) exempt
      plain are);
  firm = λ never. firm_on (g.U.UtilityWithStatus.action c.args.utility.now)
      (λ m i. step_at (g.U.UtilityWithStatus.action c.args.utility.now) m i c.bytes.result.now ∷ [])
      (IsHeard (g.U.UtilityWithStatus.action c.args.utility.now).takes (g.I.Source.left c.loop-name.streams.input.now))
      c.in_ok-one.one (setting g.I.Source g.O.Sink g.E.Sink g.D.Disk c.args.streams.now).stage.told
      (setting g.I.Source g.O.Sink g.E.Sink g.D.Disk c.loop-name.streams).stage.told
      (setting g.I.Source g.O.Sink g.E.Sink g.D.Disk c.run_name.new.streams).stage.told
      (c.loop-name.invariant.firm never) (c.in_ok-one.ensures.run.recovers never);
  recovered = λ w m i spares clear shows never.
      subst (λ status. RecoversSoFar (g.U.UtilityWithStatus.action c.args.utility.now).rule w m
      (in_turn (λ u n. step_at (g.U.UtilityWithStatus.action c.args.utility.now) u i n ∷ []) m c.args.names.now)
      (λ u. in_turn (λ u n. step_at (g.U.UtilityWithStatus.action c.args.utility.now) u i n ∷ []) u
      (drop (c.loop-name.name-index + 1) c.args.names.now)) status (setting g.I.Source g.O.Sink g.E.Sink g.D.Disk
      c.args.streams.now).stage (setting g.I.Source g.O.Sink g.E.Sink g.D.Disk c.run_name.new.streams).stage)
      (sym c.joined_status-status.ensures)
      (recovers_on (g.U.UtilityWithStatus.action c.args.utility.now) w m
      (λ u n. step_at (g.U.UtilityWithStatus.action c.args.utility.now) u i n ∷ []) c.args.names.now
      c.loop-name.name-index c.loop-name.status c.in_ok-one.one c.name-item.result c.bytes.result.now
      (setting g.I.Source g.O.Sink g.E.Sink g.D.Disk c.args.streams.now).stage
      (setting g.I.Source g.O.Sink g.E.Sink g.D.Disk c.loop-name.streams).stage
      (setting g.I.Source g.O.Sink g.E.Sink g.D.Disk c.run_name.new.streams).stage
      (c.bytes.ensures ∙ c.name-item.is) c.loop-name-test.true clear (c.loop-name.invariant.firm never)
      ((c.in_ok-one.ensures.run.recovers never).keeps (λ is. cc)) (c.loop-name.invariant.recovered w m i spares
      clear shows never)
      (λ u clear shows. c.in_ok-one.ensures.run.steps w u i spares clear shows (inl c.requires))
      (λ u clear shows made. (c.in_ok-one.ensures.run.recovers never).calm refl w u i spares clear shows
      (inl c.requires) made));
  said =
      subst (λ status. SpokeSoFar (g.U.UtilityWithStatus.action c.args.utility.now).rule
      (NameMakes (g.U.UtilityWithStatus.action c.args.utility.now)) c.args.names.now (c.loop-name.name-index + 1)
      status (g.E.Sink.given c.args.streams.now.err.now) (g.E.Sink.given c.run_name.new.streams.err.now))
      (sym c.joined_status-status.ensures)
      (spoke_on (g.U.UtilityWithStatus.action c.args.utility.now).rule
      (NameMakes (g.U.UtilityWithStatus.action c.args.utility.now))
      (NameMakes (g.U.UtilityWithStatus.action c.args.utility.now)) c.args.names.now c.loop-name.name-index
      c.loop-name.status c.in_ok-one.one c.name-item.result c.bytes.result.now _ _ _
      (c.bytes.ensures ∙ c.name-item.is) c.loop-name-test.true c.loop-name.invariant.said
      c.in_ok-one.ensures.run.speaks);
  silent = λ only. c.in_ok-one.ensures.run.silent only ∙ c.loop-name.invariant.silent only;
  same = λ only. c.in_ok-one.ensures.run.reads only ∙ c.loop-name.invariant.same only;
  input_same = (c.in_ok-one.ensures.run.ignores c.requires).same ∙ c.loop-name.invariant.input_same;
  input_quiet = (c.in_ok-one.ensures.run.ignores c.requires).quiet ∙ c.loop-name.invariant.input_quiet;
  out_later = search rules;
  err_later = search rules;
  disk_later = search rules;
}

pub returns-clause-run : goal.returns-clause-run
returns-clause-run g c = record {
  steps = λ w m i spares clear shows heard.
      turns_end (g.U.UtilityWithStatus.action c.args.utility.now).rule w m
      (λ u n. step_at (g.U.UtilityWithStatus.action c.args.utility.now) u i n ∷ []) c.args.names.now
      c.loop-name.name-index c.loop-name.status _ _ c.loop-name-test.false
      (c.loop-name.invariant.so_far w m i spares clear shows);
  stops = λ w folder i m past spares clear shows heard is calm safe.
      stops_end (g.U.UtilityWithStatus.action c.args.utility.now) w folder
      (λ u n. step_at (g.U.UtilityWithStatus.action c.args.utility.now) u i n ∷ []) c.args.names.now
      c.loop-name.name-index c.loop-name.status
      (setting g.I.Source g.O.Sink g.E.Sink g.D.Disk c.args.streams.now).stage
      (setting g.I.Source g.O.Sink g.E.Sink g.D.Disk c.loop-name.streams).stage m past
      c.loop-name-test.false (c.loop-name.invariant.stops w folder i m past spares clear shows is calm safe);
  unlocked = λ w m i spares clear shows heard exempt plain are. c.loop-name.invariant.unlocked w m i spares clear shows
      exempt plain are;
  recovers = λ never.
      recovers_end (g.U.UtilityWithStatus.action c.args.utility.now)
      (λ i u n. step_at (g.U.UtilityWithStatus.action c.args.utility.now) u i n ∷ [])
      (IsHeard (g.U.UtilityWithStatus.action c.args.utility.now).takes
      (g.I.Source.left c.args.streams.now.input.now)) c.args.names.now c.loop-name.name-index c.loop-name.status
      (setting g.I.Source g.O.Sink g.E.Sink g.D.Disk c.args.streams.now).stage
      (setting g.I.Source g.O.Sink g.E.Sink g.D.Disk c.loop-name.streams).stage c.loop-name-test.false
      (c.loop-name.invariant.firm never) (λ w m i spares clear shows given. c.loop-name.invariant.recovered w m i
      spares clear shows never);
  speaks = spoke_ends (g.U.UtilityWithStatus.action c.args.utility.now).rule
      (NameMakes (g.U.UtilityWithStatus.action c.args.utility.now))
      (NameMakes (g.U.UtilityWithStatus.action c.args.utility.now)) c.args.names.now c.loop-name.name-index
      c.loop-name.status _ _ c.loop-name-test.false c.loop-name.invariant.said;
  reads = c.loop-name.invariant.same;
  silent = c.loop-name.invariant.silent;
  ignores = search rules;
  causes = search rules;
}
