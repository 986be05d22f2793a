use Rattle.std.proofs.Common.{ℕ, ◌+◌, ◌-◌, ◌≤◌, Result, Ok, arith, subst, sym}
use Rattle.std.proofs.lemmas.Result.{err_from_is_err_and}
use Rattle.sccs_step_lists.specs.QuietSettings.{quiet}
use Rattle.sccs_steps.specs.declared.faults.Fault.{Fault}
use Rattle.sccs_soak.specs.Commands.{rounds_from}
use Rattle.sccs_soak.specs.Runs.{LeadsSoak, RunsRound}
use Rattle.sccs_soak.specs.Turns.{lines_after}
use Rattle.sccs_soak.proofs.SoakStepLists.{leads_cut, leads_end, leads_on, leads_stop, lines_most, none_left}
use Rattle.sccs_soak.proofs.SoakStepLists.{round_first}
use Rattle.sccs_soak.proofs.running.run_rounds.Goals as goal

pub returns-in_err-status : goal.returns-in_err-status
returns-in_err-status g c =
    let e = err_from_is_err_and c.from_residual.result c.from_residual.ensures.1 in
    rw (e.1, e.2) (leads_cut (g.C.Commands.command c.args.commands.now) (g.C.Commands.fits c.args.commands.now)
    (g.C.Commands.whole c.args.commands.now) (g.C.Commands.begun c.args.commands.now)
    (g.C.Commands.takes c.args.commands.now) c.args.number (rounds_from c.args.number 1 c.args.number 0)
    (quiet g.O.Sink g.E.Sink g.D.Disk c.args.out.now c.args.err.now c.args.disk.now) c.rounds.round c.of-turn.result
    (rounds_from (c.args.number + 1 - c.rounds.round) c.rounds.round c.rounds.draws.state c.rounds.lines)
    (rounds_from (c.args.number + 1 - (c.rounds.round + 1)) (c.rounds.round + 1) c.draw-place.new.self.state
    (lines_after c.rounds.lines c.of-turn.result)) (quiet g.O.Sink g.E.Sink g.D.Disk c.rounds.out c.rounds.err
    c.rounds.disk) (quiet g.O.Sink g.E.Sink g.D.Disk c.run_round.new.out c.run_round.new.err c.run_round.new.disk)
    (round_first (c.args.number + 1 - c.rounds.round) (c.args.number + 1 - (c.rounds.round + 1)) c.rounds.round
    c.rounds.draws.state c.rounds.lines c.draw-choice.new.self.state c.draw-place.new.self.state
    c.draw-choice.result c.draw-place.result c.of-turn.result (omega (arith, c.rounds-test.true))
    c.draw-choice.ensures.state c.draw-place.ensures.state c.draw-choice.ensures.value c.draw-place.ensures.value
    c.of-turn.ensures) c.rounds.invariant.leads c.in_err-status.field-0.0
    (subst (λ (r : Result ℕ Fault). RunsRound (g.C.Commands.command c.args.commands.now)
    (g.C.Commands.fits c.args.commands.now) (g.C.Commands.whole c.args.commands.now)
    (g.C.Commands.begun c.args.commands.now) c.rounds.round c.of-turn.result r
    (quiet g.O.Sink g.E.Sink g.D.Disk c.rounds.out c.rounds.err c.rounds.disk)
    (quiet g.O.Sink g.E.Sink g.D.Disk c.run_round.new.out c.run_round.new.err c.run_round.new.disk)) c.in_err-status.was
    c.run_round.ensures))

pub returns-then-status-ne0 : goal.returns-then-status-ne0
returns-then-status-ne0 g c =
    leads_stop (g.C.Commands.command c.args.commands.now) (g.C.Commands.fits c.args.commands.now)
    (g.C.Commands.whole c.args.commands.now) (g.C.Commands.begun c.args.commands.now)
    (g.C.Commands.takes c.args.commands.now) c.args.number (rounds_from c.args.number 1 c.args.number 0)
    (quiet g.O.Sink g.E.Sink g.D.Disk c.args.out.now c.args.err.now c.args.disk.now) c.rounds.round c.of-turn.result
    (rounds_from (c.args.number + 1 - c.rounds.round) c.rounds.round c.rounds.draws.state c.rounds.lines)
    (rounds_from (c.args.number + 1 - (c.rounds.round + 1)) (c.rounds.round + 1) c.draw-place.new.self.state
    (lines_after c.rounds.lines c.of-turn.result)) (quiet g.O.Sink g.E.Sink g.D.Disk c.rounds.out c.rounds.err
    c.rounds.disk) (quiet g.O.Sink g.E.Sink g.D.Disk c.run_round.new.out c.run_round.new.err c.run_round.new.disk)
    (round_first (c.args.number + 1 - c.rounds.round) (c.args.number + 1 - (c.rounds.round + 1)) c.rounds.round
    c.rounds.draws.state c.rounds.lines c.draw-choice.new.self.state c.draw-place.new.self.state
    c.draw-choice.result c.draw-place.result c.of-turn.result (omega (arith, c.rounds-test.true))
    c.draw-choice.ensures.state c.draw-place.ensures.state c.draw-choice.ensures.value c.draw-place.ensures.value
    c.of-turn.ensures) c.rounds.invariant.leads c.in_ok-status.status c.if-status-ne0.true
    (subst (λ (r : Result ℕ Fault). RunsRound (g.C.Commands.command c.args.commands.now)
    (g.C.Commands.fits c.args.commands.now) (g.C.Commands.whole c.args.commands.now)
    (g.C.Commands.begun c.args.commands.now) c.rounds.round c.of-turn.result r
    (quiet g.O.Sink g.E.Sink g.D.Disk c.rounds.out c.rounds.err c.rounds.disk)
    (quiet g.O.Sink g.E.Sink g.D.Disk c.run_round.new.out c.run_round.new.err c.run_round.new.disk)) c.in_ok-status.was
    c.run_round.ensures)

pub rounds-preserved : goal.rounds-preserved
rounds-preserved g c = record {
  leads =
      subst (λ (lines : ℕ). LeadsSoak (g.C.Commands.command c.args.commands.now) (g.C.Commands.fits c.args.commands.now)
      (g.C.Commands.whole c.args.commands.now) (g.C.Commands.begun c.args.commands.now) c.args.number
      (rounds_from c.args.number 1 c.args.number 0) (quiet g.O.Sink g.E.Sink g.D.Disk c.args.out.now c.args.err.now
      c.args.disk.now) (rounds_from (c.args.number + 1 - (c.rounds.round + 1)) (c.rounds.round + 1)
      c.draw-place.new.self.state lines) (quiet g.O.Sink g.E.Sink g.D.Disk c.run_round.new.out c.run_round.new.err
      c.run_round.new.disk)) (sym c.lines_after-lines.ensures)
      (leads_on (g.C.Commands.command c.args.commands.now) (g.C.Commands.fits c.args.commands.now)
      (g.C.Commands.whole c.args.commands.now) (g.C.Commands.begun c.args.commands.now)
      (g.C.Commands.takes c.args.commands.now) c.args.number (rounds_from c.args.number 1 c.args.number 0)
      (quiet g.O.Sink g.E.Sink g.D.Disk c.args.out.now c.args.err.now c.args.disk.now) c.rounds.round
      c.of-turn.result (rounds_from (c.args.number + 1 - c.rounds.round) c.rounds.round c.rounds.draws.state
      c.rounds.lines) (rounds_from (c.args.number + 1 - (c.rounds.round + 1)) (c.rounds.round + 1)
      c.draw-place.new.self.state (lines_after c.rounds.lines c.of-turn.result))
      (quiet g.O.Sink g.E.Sink g.D.Disk c.rounds.out c.rounds.err c.rounds.disk)
      (quiet g.O.Sink g.E.Sink g.D.Disk c.run_round.new.out c.run_round.new.err c.run_round.new.disk)
      (round_first (c.args.number + 1 - c.rounds.round) (c.args.number + 1 - (c.rounds.round + 1)) c.rounds.round
      c.rounds.draws.state c.rounds.lines c.draw-choice.new.self.state c.draw-place.new.self.state
      c.draw-choice.result c.draw-place.result c.of-turn.result (omega (arith, c.rounds-test.true))
      c.draw-choice.ensures.state c.draw-place.ensures.state c.draw-choice.ensures.value c.draw-place.ensures.value
      c.of-turn.ensures) c.rounds.invariant.leads
      (subst (λ (status : ℕ). RunsRound (g.C.Commands.command c.args.commands.now)
      (g.C.Commands.fits c.args.commands.now) (g.C.Commands.whole c.args.commands.now)
      (g.C.Commands.begun c.args.commands.now) c.rounds.round c.of-turn.result (Ok status)
      (quiet g.O.Sink g.E.Sink g.D.Disk c.rounds.out c.rounds.err c.rounds.disk)
      (quiet g.O.Sink g.E.Sink g.D.Disk c.run_round.new.out c.run_round.new.err c.run_round.new.disk))
      c.if-status-ne0.false
      (subst (λ (r : Result ℕ Fault). RunsRound (g.C.Commands.command c.args.commands.now)
      (g.C.Commands.fits c.args.commands.now) (g.C.Commands.whole c.args.commands.now)
      (g.C.Commands.begun c.args.commands.now) c.rounds.round c.of-turn.result r
      (quiet g.O.Sink g.E.Sink g.D.Disk c.rounds.out c.rounds.err c.rounds.disk)
      (quiet g.O.Sink g.E.Sink g.D.Disk c.run_round.new.out c.run_round.new.err c.run_round.new.disk))
      c.in_ok-status.was
      c.run_round.ensures)));
  least = omega arith;
  most = omega (arith, c.rounds-test.true);
  within = c.draw-place.ensures.within;
  few =
      let more : c.lines_after-lines.result ≤ c.rounds.lines + 1 = subst (λ (lines : ℕ). lines ≤ c.rounds.lines + 1)
      (sym c.lines_after-lines.ensures) (lines_most c.rounds.lines c.of-turn.result) in
      omega (arith, c.rounds.invariant.few, more);
}

pub returns : goal.returns
returns g c =
    leads_end (g.C.Commands.command c.args.commands.now) (g.C.Commands.fits c.args.commands.now)
    (g.C.Commands.whole c.args.commands.now) (g.C.Commands.begun c.args.commands.now)
    (g.C.Commands.takes c.args.commands.now) c.args.number (rounds_from c.args.number 1 c.args.number 0)
    (quiet g.O.Sink g.E.Sink g.D.Disk c.args.out.now c.args.err.now c.args.disk.now)
    (rounds_from (c.args.number + 1 - c.rounds.round) c.rounds.round c.rounds.draws.state c.rounds.lines)
    (quiet g.O.Sink g.E.Sink g.D.Disk c.rounds.out c.rounds.err c.rounds.disk)
    (quiet g.O.Sink g.E.Sink g.D.Disk c.run_summary.new.out c.run_summary.new.err c.run_summary.new.disk)
    c.run_summary.result
    (none_left (c.args.number + 1 - c.rounds.round) c.rounds.round c.rounds.draws.state c.rounds.lines
    (omega (arith, c.rounds-test.false))) c.rounds.invariant.leads c.run_summary.ensures
