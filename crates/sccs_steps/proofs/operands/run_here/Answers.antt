use Rattle.std.proofs.Common.{◌≡◌, rules, [], IfSome, subst, sym, ◌∙◌}
use Rattle.sccs_disk.specs.Files.{Folder, View}
use Rattle.sccs_disk.specs.Told.{seen}
use Rattle.sccs_operands.specs.FolderNames.{AreSfiles, HasSfilesOf, sfiles_in}
use Rattle.sccs_steps.specs.Actions.{IsHeard, kind_steps}
use Rattle.sccs_steps.specs.Settings.{setting}
use Rattle.sccs_steps.specs.declared.faults.Fault.TheVariants as end
use Rattle.sccs_steps.specs.declared.operands.OperandKind.TheVariants as kind
use Rattle.sccs_steps.proofs.KindLaws.{here_makes, here_stops, names_speak, never_begun, never_stops, none_spoken}
use Rattle.sccs_steps.proofs.KindLaws.{some_here}
use Rattle.sccs_steps.proofs.RecoveringSteps.{here_recovers, never_recovers}
use Rattle.sccs_steps.proofs.UnlockedSteps.{here_unlocked, none_unlocked}
use Rattle.sccs_steps.proofs.operands.run_here.Goals as goal

pub returns-in-Ok-clause-run : goal.returns-in-Ok-clause-run
returns-in-Ok-clause-run g c =
    let told : IfSome (seen (g.D.Disk.told c.args.streams.now.disk.now)) (λ (v : View). (u : Folder) → HasSfilesOf v u
    → c.items.result.now ≡ sfiles_in u) =
    subst (λ names. IfSome (seen (g.D.Disk.told c.args.streams.now.disk.now)) (λ (v : View). (u : Folder)
    → HasSfilesOf v u → names ≡ sfiles_in u)) (sym c.items.ensures) c.in-Ok.ensures.told in
    record {
      steps =
          here_makes (g.U.UtilityWithStatus.action c.args.utility.now) c.items.result.now c.run_names.result
          (g.I.Source.left c.args.streams.now.input.now) (g.I.Source.left c.args.streams.now.input.now)
          (g.D.Disk.told c.args.streams.now.disk.now) (g.D.Disk.told c.list_sfiles.new.disk)
          (g.O.Sink.given c.args.streams.now.out.now) (g.E.Sink.given c.args.streams.now.err.now)
          (setting g.I.Source g.O.Sink g.E.Sink g.D.Disk c.run_names.new.streams).stage c.requires c.in-Ok.ensures.same
          told c.run_names.ensures.run.steps;
      stops =
          here_stops (g.U.UtilityWithStatus.action c.args.utility.now) c.items.result.now c.run_names.result
          (g.I.Source.left c.args.streams.now.input.now) (g.I.Source.left c.args.streams.now.input.now)
          (g.D.Disk.told c.args.streams.now.disk.now) (g.D.Disk.told c.list_sfiles.new.disk)
          (g.O.Sink.given c.args.streams.now.out.now) (g.E.Sink.given c.args.streams.now.err.now)
          (setting g.I.Source g.O.Sink g.E.Sink g.D.Disk c.run_names.new.streams).stage c.requires c.in-Ok.ensures.same
          told c.run_names.ensures.run.stops;
      unlocked = here_unlocked (g.U.UtilityWithStatus.action c.args.utility.now) c.items.result.now
          (g.I.Source.left c.args.streams.now.input.now) (g.I.Source.left c.args.streams.now.input.now) _ _ _ c.requires
          c.in-Ok.ensures.same told c.run_names.ensures.run.unlocked;
      recovers = here_recovers (g.U.UtilityWithStatus.action c.args.utility.now) c.items.result.now c.run_names.result
          (g.I.Source.left c.args.streams.now.input.now) (g.I.Source.left c.args.streams.now.input.now) _ _ _ c.requires
          c.in-Ok.ensures.same told c.run_names.ensures.run.recovers;
      speaks = names_speak (g.U.UtilityWithStatus.action c.args.utility.now) kind.Here [] c.items.result.now
          c.run_names.result _ _ (subst AreSfiles (sym c.items.ensures) c.in-Ok.ensures.names)
          c.run_names.ensures.run.speaks;
      reads = λ only. c.run_names.ensures.run.reads only ∙ c.in-Ok.ensures.same;
      silent = search rules;
      ignores = λ never. c.run_names.ensures.run.ignores c.requires;
      causes = search rules;
    }

pub returns-in-Err-Failed-clause-run : goal.returns-in-Err-Failed-clause-run
returns-in-Err-Failed-clause-run g c = record {
  steps =
      never_begun (g.U.UtilityWithStatus.action c.args.utility.now)
      (λ m i. kind_steps (g.U.UtilityWithStatus.action c.args.utility.now) i m [] kind.Here)
      (IsHeard _ (g.I.Source.left c.args.streams.now.input.now)) end.DiskFault
      (g.D.Disk.told c.args.streams.now.disk.now) (g.D.Disk.told c.list_sfiles.new.disk)
      (g.O.Sink.given c.args.streams.now.out.now) (g.E.Sink.given c.args.streams.now.err.now)
      (some_here (g.U.UtilityWithStatus.action c.args.utility.now)) c.in-Err-Failed.ensures.same;
  stops =
      never_stops (g.U.UtilityWithStatus.action c.args.utility.now)
      (λ m i. kind_steps (g.U.UtilityWithStatus.action c.args.utility.now) i m [] kind.Here)
      (IsHeard _ (g.I.Source.left c.args.streams.now.input.now)) end.DiskFault
      (g.D.Disk.told c.args.streams.now.disk.now) (g.D.Disk.told c.list_sfiles.new.disk)
      (g.O.Sink.given c.args.streams.now.out.now) (g.E.Sink.given c.args.streams.now.err.now)
      c.in-Err-Failed.ensures.same;
  unlocked = none_unlocked (g.U.UtilityWithStatus.action c.args.utility.now)
      (λ m i. kind_steps (g.U.UtilityWithStatus.action c.args.utility.now) i m [] kind.Here)
      (IsHeard _ (g.I.Source.left c.args.streams.now.input.now)) _ _ c.in-Err-Failed.ensures.same;
  recovers = never_recovers (g.U.UtilityWithStatus.action c.args.utility.now)
      (λ m i. kind_steps (g.U.UtilityWithStatus.action c.args.utility.now) i m [] kind.Here)
      (IsHeard _ (g.I.Source.left c.args.streams.now.input.now)) end.DiskFault _ _ c.in-Err-Failed.ensures.same;
  speaks = none_spoken (g.U.UtilityWithStatus.action c.args.utility.now) kind.Here [] end.DiskFault
      (g.E.Sink.given c.args.streams.now.err.now);
  reads = search rules;
  silent = search rules;
  ignores = search rules;
  causes = search rules;
}

pub returns-in-Err-Memory-clause-run : goal.returns-in-Err-Memory-clause-run
returns-in-Err-Memory-clause-run g c = record {
  steps =
      never_begun (g.U.UtilityWithStatus.action c.args.utility.now)
      (λ m i. kind_steps (g.U.UtilityWithStatus.action c.args.utility.now) i m [] kind.Here)
      (IsHeard _ (g.I.Source.left c.args.streams.now.input.now)) end.Memory
      (g.D.Disk.told c.args.streams.now.disk.now) (g.D.Disk.told c.list_sfiles.new.disk)
      (g.O.Sink.given c.args.streams.now.out.now) (g.E.Sink.given c.args.streams.now.err.now)
      (some_here (g.U.UtilityWithStatus.action c.args.utility.now)) c.in-Err-Memory.ensures.same;
  stops =
      never_stops (g.U.UtilityWithStatus.action c.args.utility.now)
      (λ m i. kind_steps (g.U.UtilityWithStatus.action c.args.utility.now) i m [] kind.Here)
      (IsHeard _ (g.I.Source.left c.args.streams.now.input.now)) end.Memory
      (g.D.Disk.told c.args.streams.now.disk.now) (g.D.Disk.told c.list_sfiles.new.disk)
      (g.O.Sink.given c.args.streams.now.out.now) (g.E.Sink.given c.args.streams.now.err.now)
      c.in-Err-Memory.ensures.same;
  unlocked = none_unlocked (g.U.UtilityWithStatus.action c.args.utility.now)
      (λ m i. kind_steps (g.U.UtilityWithStatus.action c.args.utility.now) i m [] kind.Here)
      (IsHeard _ (g.I.Source.left c.args.streams.now.input.now)) _ _ c.in-Err-Memory.ensures.same;
  recovers = never_recovers (g.U.UtilityWithStatus.action c.args.utility.now)
      (λ m i. kind_steps (g.U.UtilityWithStatus.action c.args.utility.now) i m [] kind.Here)
      (IsHeard _ (g.I.Source.left c.args.streams.now.input.now)) end.Memory _ _ c.in-Err-Memory.ensures.same;
  speaks = none_spoken (g.U.UtilityWithStatus.action c.args.utility.now) kind.Here [] end.Memory
      (g.E.Sink.given c.args.streams.now.err.now);
  reads = search rules;
  silent = search rules;
  ignores = search rules;
  causes = search rules;
}
