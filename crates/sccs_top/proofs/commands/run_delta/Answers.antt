use Rattle.std.proofs.Common.{ℕ, true, false, List, [], ◌∷◌, None, sym, subst}
use Rattle.sccs_steps.specs.Running.{RunsOperand, RunsOperands}
use Rattle.sccs_steps.specs.Settings.{setting}
use Rattle.sccs_steps.proofs.LoneOperands.{lone_operand}
use Rattle.sccs_changes.specs.Changes.{locking}
use Rattle.sccs_delta.specs.DeltaStep.{delta_change}
use Rattle.sccs_top.specs.Runs.{hushed}
use Rattle.sccs_top.proofs.commands.run_delta.Goals as goal

pub returns-then-context-clause-run : goal.returns-then-context-clause-run
returns-then-context-clause-run g c =
    subst (λ quiet. RunsOperands
    (hushed None quiet (locking (delta_change c.args.words.now c.args.context.now.stamp.now)))
    (c.args.name.now ∷ []) c.run_operand.result (setting g.I.Source g.O.Sink g.E.Sink g.D.Disk c.args.streams.now)
    (setting g.I.Source g.O.Sink g.E.Sink g.D.Disk c.run_operand.new.streams)) (sym c.if-context.true)
    (lone_operand (hushed None true (locking (delta_change c.args.words.now c.args.context.now.stamp.now)))
    c.args.name.now _ _ _
    (subst (λ (n : List ℕ). RunsOperand
    (hushed None true (locking (delta_change c.args.words.now c.args.context.now.stamp.now))) n c.run_operand.result
    (setting g.I.Source g.O.Sink g.E.Sink g.D.Disk c.args.streams.now)
    (setting g.I.Source g.O.Sink g.E.Sink g.D.Disk c.run_operand.new.streams)) c.bytes.ensures.value
    c.run_operand.ensures.run))

pub returns-else-context-clause-run : goal.returns-else-context-clause-run
returns-else-context-clause-run g c =
    subst (λ quiet. RunsOperands
    (hushed None quiet (locking (delta_change c.args.words.now c.args.context.now.stamp.now)))
    (c.args.name.now ∷ []) c.run_operand-else-context.result (setting g.I.Source g.O.Sink g.E.Sink g.D.Disk
    c.args.streams.now) (setting g.I.Source g.O.Sink g.E.Sink g.D.Disk c.run_operand-else-context.new.streams))
    (sym c.if-context.false)
    (lone_operand (hushed None false (locking (delta_change c.args.words.now c.args.context.now.stamp.now)))
    c.args.name.now _ _ _
    (subst (λ (n : List ℕ). RunsOperand
    (hushed None false (locking (delta_change c.args.words.now c.args.context.now.stamp.now))) n
    c.run_operand-else-context.result
    (setting g.I.Source g.O.Sink g.E.Sink g.D.Disk c.args.streams.now)
    (setting g.I.Source g.O.Sink g.E.Sink g.D.Disk c.run_operand-else-context.new.streams))
    c.bytes-else-context.ensures.value c.run_operand-else-context.ensures.run))
