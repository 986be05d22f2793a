use Rattle.std.proofs.Common.{◌≡◌, ◌≤◌, ◌<◌, ℕ, Bool, true, false, List, drop, length}
use Rattle.sccs_disk.specs.Files.{Folder, Model, view_in}
use Rattle.sccs_disk.specs.Told.{Tells, seen}
use Rattle.sccs_name_files.specs.StepFiles.{Shows}
use Rattle.sccs_crash_points.specs.Unlocked.{BeginsUnlockedBut}
use Rattle.sccs_steps.specs.Actions.{AreClear, IsLone, hears, operand_steps, steps_at}
use Rattle.sccs_steps.specs.Calls.{shown}
use Rattle.sccs_steps.specs.ListStops.{AreSafe, MayBegin, Spares}
use Rattle.sccs_steps.specs.Running.{IsInput}
use Rattle.sccs_steps.specs.Settings.{SameLoans, setting}
use Rattle.sccs_steps.specs.Speaking.{OperandMakes}
use Rattle.sccs_steps.specs.StepLists.{SoFar, in_turn}
use Rattle.sccs_steps.specs.Unlocked.{AreExempt, ArePlain}
use Rattle.sccs_steps.proofs.RecoveringSteps.{RecoversSoFar, StaysFirm}
use Rattle.sccs_steps.proofs.Turns.{SpokeSoFar}
use Rattle.sccs_steps.proofs.TurnStops.{StopsSoFar}
use Rattle.sccs_steps.proofs.operands.run_operands.Given as goal

-- the steps of the operands so far are made, and the input is as it was where none of them takes it
abbrev pub invariant-loop-operand : goal.invariant-loop-operand
invariant-loop-operand g l = record {
  loans : SameLoans l.fn.streams l.streams;
  so_far : (w : List ℕ → Bool) (m : Folder) (i : List ℕ) → Spares w → AreClear (g.U.UtilityWithStatus.action l.utility)
      w (steps_at (g.U.UtilityWithStatus.action l.utility) m i l.operands)
      → Shows w (seen (g.D.Disk.told l.fn.streams.disk.now)) (view_in m)
      → IsInput (g.U.UtilityWithStatus.action l.utility) l.operands (g.I.Source.left l.fn.streams.input.now) i
      → SoFar (g.U.UtilityWithStatus.action l.utility).rule w m (steps_at (g.U.UtilityWithStatus.action l.utility) m i
      l.operands) (λ u. steps_at (g.U.UtilityWithStatus.action l.utility) u i (drop l.operand-index l.operands))
      l.status
      (shown (setting g.I.Source g.O.Sink g.E.Sink g.D.Disk l.fn.streams).stage)
      (shown (setting g.I.Source g.O.Sink g.E.Sink g.D.Disk l.streams).stage);
  stops : (w : List ℕ → Bool) (folder : Folder) (i : List ℕ) (m : Model) (past : List Model) → Spares w
      → AreClear (g.U.UtilityWithStatus.action l.utility) w (steps_at (g.U.UtilityWithStatus.action l.utility) folder i
      l.operands) → Shows w (seen (g.D.Disk.told l.fn.streams.disk.now)) (view_in folder)
      → IsInput (g.U.UtilityWithStatus.action l.utility) l.operands (g.I.Source.left l.fn.streams.input.now) i
      → g.D.Disk.told l.fn.streams.disk.now ≡ Tells m past → MayBegin folder m
      → AreSafe (g.U.UtilityWithStatus.action l.utility) (steps_at (g.U.UtilityWithStatus.action l.utility) folder i
      l.operands) (view_in folder)
      → StopsSoFar (g.U.UtilityWithStatus.action l.utility) w folder (steps_at (g.U.UtilityWithStatus.action l.utility)
      folder i l.operands) (λ u. steps_at (g.U.UtilityWithStatus.action l.utility) u i
      (drop l.operand-index l.operands)) l.status
      (setting g.I.Source g.O.Sink g.E.Sink g.D.Disk l.fn.streams).stage (setting g.I.Source g.O.Sink g.E.Sink g.D.Disk
      l.streams).stage m past;
  unlocked : (w : List ℕ → Bool) (m : Folder) (i : List ℕ) → Spares w
      → AreClear (g.U.UtilityWithStatus.action l.utility) w (steps_at (g.U.UtilityWithStatus.action l.utility) m i
      l.operands) → Shows w (seen (g.D.Disk.told l.fn.streams.disk.now)) (view_in m)
      → IsInput (g.U.UtilityWithStatus.action l.utility) l.operands (g.I.Source.left l.fn.streams.input.now) i
      → (exempt : List ℕ → Bool) → ArePlain (g.U.UtilityWithStatus.action l.utility)
      (steps_at (g.U.UtilityWithStatus.action l.utility) m i l.operands)
      → AreExempt (g.U.UtilityWithStatus.action l.utility) exempt (steps_at (g.U.UtilityWithStatus.action l.utility)
      m i l.operands) → BeginsUnlockedBut exempt (g.D.Disk.told l.fn.streams.disk.now)
      (g.D.Disk.told l.streams.disk.now);
  firm : (g.U.UtilityWithStatus.action l.utility).locks ≡ false → StaysFirm (g.D.Disk.told l.fn.streams.disk.now)
      (g.D.Disk.told l.streams.disk.now);
  recovered : (w : List ℕ → Bool) (m : Folder) (i : List ℕ) → Spares w
      → AreClear (g.U.UtilityWithStatus.action l.utility) w (steps_at (g.U.UtilityWithStatus.action l.utility) m i
      l.operands) → Shows w (seen (g.D.Disk.told l.fn.streams.disk.now)) (view_in m)
      → IsInput (g.U.UtilityWithStatus.action l.utility) l.operands (g.I.Source.left l.fn.streams.input.now) i
      → (g.U.UtilityWithStatus.action l.utility).locks ≡ false
      → RecoversSoFar (g.U.UtilityWithStatus.action l.utility).rule w m
      (in_turn (operand_steps (g.U.UtilityWithStatus.action l.utility) i) m l.operands)
      (λ u. in_turn (operand_steps (g.U.UtilityWithStatus.action l.utility) i) u (drop l.operand-index l.operands))
      l.status
      (setting g.I.Source g.O.Sink g.E.Sink g.D.Disk l.fn.streams).stage (setting g.I.Source g.O.Sink g.E.Sink g.D.Disk
      l.streams).stage;
  said : SpokeSoFar (g.U.UtilityWithStatus.action l.utility).rule
      (OperandMakes (g.U.UtilityWithStatus.action l.utility)) l.operands l.operand-index l.status
      (g.E.Sink.given l.fn.streams.err.now) (g.E.Sink.given l.streams.err.now);
  left : IsLone (g.U.UtilityWithStatus.action l.utility) l.operands → l.operand-index < length l.operands
      → g.I.Source.left l.streams.input.now ≡ g.I.Source.left l.fn.streams.input.now;
  silent : (g.U.UtilityWithStatus.action l.utility).silent ≡ true → g.O.Sink.given l.streams.out.now
      ≡ g.O.Sink.given l.fn.streams.out.now;
  same : (g.U.UtilityWithStatus.action l.utility).reads ≡ true → g.D.Disk.told l.streams.disk.now
      ≡ g.D.Disk.told l.fn.streams.disk.now;
  input_same : hears (g.U.UtilityWithStatus.action l.utility) l.operands ≡ false → g.I.Source.left l.streams.input.now
      ≡ g.I.Source.left l.fn.streams.input.now;
  input_quiet : hears (g.U.UtilityWithStatus.action l.utility) l.operands ≡ false
      → g.I.Source.faults l.streams.input.now ≡ g.I.Source.faults l.fn.streams.input.now;
  input_later : g.I.Source.faults l.fn.streams.input.now ≤ g.I.Source.faults l.streams.input.now;
  out_later : g.O.Sink.faults l.fn.streams.out.now ≤ g.O.Sink.faults l.streams.out.now;
  err_later : g.E.Sink.faults l.fn.streams.err.now ≤ g.E.Sink.faults l.streams.err.now;
  disk_later : g.D.Disk.faults l.fn.streams.disk.now ≤ g.D.Disk.faults l.streams.disk.now;
}
