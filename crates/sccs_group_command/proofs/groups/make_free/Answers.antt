use Rattle.sccs_group_command.specs.GroupStep.{names_of}
use Rattle.sccs_group_command.proofs.OtherFiles.{free_others, free_unlocked, left_others, left_unlocked}
use Rattle.sccs_group_command.proofs.Wholes.{before_holds, done_crash_points, failed_crash_points, stopped_crash_points}
use Rattle.std.proofs.Common.{List, Ok, Err, refl, sym, subst}
use Rattle.std.proofs.lemmas.Result.{err_from_is_err_and}
use Rattle.sccs_disk.specs.Told.{seen}
use Rattle.sccs_steps.specs.Calls.{world}
use Rattle.sccs_group_command.specs.Making.{CommitCrashPoints, Finishes, MayCommit}
use Rattle.sccs_group_command.specs.declared.prepared_entries.PreparedEntry.{PreparedEntry}
use Rattle.sccs_group_command.proofs.GroupEnds.{finished_group, of_group, stopped_group, unfinished_group}
use Rattle.sccs_group_command.specs.Preparing.{sfiles_of}
use Rattle.sccs_group_command.proofs.GroupNames.{may_commit, own_names}
use Rattle.sccs_group_command.proofs.Speaking.{done_speaks, entry_speaks, failed_speaks}
use Rattle.sccs_group_command.proofs.groups.make_free.Goals as goal

pub finish-requires : goal.finish-requires
finish-requires g c =
    subst MayCommit (sym c.items.ensures) (may_commit c.args.entries.now c.in_ok-made.made c.requires.entries.different
    c.requires.entries.some c.requires.entries.few c.in_ok-made.ensures.made.names_are
    c.in_ok-made.ensures.made.named)

pub returns-in-Ok-clause-told : goal.returns-in-Ok-clause-told
returns-in-Ok-clause-told g c = λ plain.
    finished_group c.args.stamp.now c.args.entries.now c.in_ok-made.made _ _ _ _ _ _ _ _ c.requires.entries.different
    plain (own_names _ _ c.in_ok-made.ensures.made.names_are c.in_ok-made.ensures.made.named) c.requires.none
    (c.in_ok-made.ensures.told plain)
    (subst (λ (made : List PreparedEntry). Finishes (Ok tt) made (world (seen (g.D.Disk.told c.prepare_all.new.disk))
    (g.O.Sink.given c.args.out.now) (g.E.Sink.given c.args.err.now)) (world (seen (g.D.Disk.told c.finish.new.disk))
    (g.O.Sink.given c.finish.new.out) (g.E.Sink.given c.finish.new.err))) c.items.ensures c.in-Ok.ensures.told)

pub returns-clause-told : goal.returns-clause-told
returns-clause-told g c = λ plain.
    unfinished_group c.args.stamp.now c.args.entries.now c.in_ok-made.made _ c.in-Err.fault _ _ _ _ _ _ _
    c.requires.entries.different plain (own_names _ _ c.in_ok-made.ensures.made.names_are
    c.in_ok-made.ensures.made.named) c.requires.none (c.in_ok-made.ensures.told plain)
    (subst (λ (made : List PreparedEntry). Finishes (Err c.in-Err.fault) made
    (world (seen (g.D.Disk.told c.prepare_all.new.disk)) (g.O.Sink.given c.args.out.now)
    (g.E.Sink.given c.args.err.now)) (world (seen (g.D.Disk.told c.finish.new.disk))
    (g.O.Sink.given c.finish.new.out) (g.E.Sink.given c.finish.new.err))) c.items.ensures c.in-Err.ensures.told)

pub returns-in_err-made-clause-told : goal.returns-in_err-made-clause-told
returns-in_err-made-clause-told g c =
    let p = err_from_is_err_and c.from_residual.result c.from_residual.ensures.1 in
    rw (p.1, p.2) (λ plain.
    stopped_group c.args.stamp.now c.args.entries.now (sfiles_of (names_of c.args.entries.now))
    c.in_err-made.field-0.0.name c.in_err-made.field-0.0.fault _ _ _ _
    (c.in_err-made.ensures.causes.read c.in_err-made.field-0.0 refl)
    (c.in_err-made.ensures.causes.write c.in_err-made.field-0.0 refl) c.requires.none
    (c.in_err-made.ensures.told plain))

pub returns-in-Ok-clause-crash_points : goal.returns-in-Ok-clause-crash_points
returns-in-Ok-clause-crash_points g c = λ plain.
    done_crash_points c.args.stamp.now c.args.entries.now c.in_ok-made.made _ (g.D.Disk.told c.prepare_all.new.disk) _
    tt
    (record {
      grouped = c.requires.entries;
      plain = plain;
      none = c.requires.none;
      told =
          c.in_ok-made.ensures.told plain;
      made_are = c.in_ok-made.ensures.made;
      before =
          c.prepare_all.ensures.before plain;
    })
    (subst (λ (made : List PreparedEntry). CommitCrashPoints (Ok tt) made (g.D.Disk.told c.prepare_all.new.disk)
    (g.D.Disk.told c.finish.new.disk)) c.items.ensures c.in-Ok.ensures.crash_points)

pub returns-clause-crash_points : goal.returns-clause-crash_points
returns-clause-crash_points g c = λ plain.
    failed_crash_points c.args.stamp.now c.args.entries.now c.in_ok-made.made _ (g.D.Disk.told c.prepare_all.new.disk) _
    c.own_name.result c.in-Err.fault
    (record {
      grouped = c.requires.entries;
      plain = plain;
      none = c.requires.none;
      told =
          c.in_ok-made.ensures.told plain;
      made_are = c.in_ok-made.ensures.made;
      before =
          c.prepare_all.ensures.before plain;
    })
    (subst (λ (made : List PreparedEntry). CommitCrashPoints (Err c.in-Err.fault) made
    (g.D.Disk.told c.prepare_all.new.disk) (g.D.Disk.told c.finish.new.disk)) c.items.ensures
    c.in-Err.ensures.crash_points)

pub returns-in_err-made-clause-crash_points : goal.returns-in_err-made-clause-crash_points
returns-in_err-made-clause-crash_points g c =
    let p = err_from_is_err_and c.from_residual.result c.from_residual.ensures.1 in
    rw (p.1, p.2) (λ plain. stopped_crash_points c.in_err-made.field-0.0 (names_of c.args.entries.now)
    (of_group c.args.stamp.now c.args.entries.now) _ _ (c.in_err-made.ensures.causes.write c.in_err-made.field-0.0
    refl) (before_holds _ _ (names_of c.args.entries.now) c.requires.none (c.prepare_all.ensures.before plain))
    (c.prepare_all.ensures.before plain))

pub returns-in-Ok-clause-others : goal.returns-in-Ok-clause-others
returns-in-Ok-clause-others g c = free_others c.in_ok-made.made _ (names_of c.args.entries.now) _
    (g.D.Disk.told c.prepare_all.new.disk) _ c.items.ensures c.in_ok-made.ensures.made.names_are
    c.prepare_all.ensures.touches c.finish.ensures.others

pub returns-in-Ok-clause-unlocked : goal.returns-in-Ok-clause-unlocked
returns-in-Ok-clause-unlocked g c = λ plain.
    free_unlocked c.args.stamp.now c.args.entries.now c.in_ok-made.made _ _ (g.D.Disk.told c.prepare_all.new.disk) _
    (record {
      grouped = c.requires.entries;
      plain = plain;
      none = c.requires.none;
      told =
          c.in_ok-made.ensures.told plain;
      made_are = c.in_ok-made.ensures.made;
      before =
          c.prepare_all.ensures.before plain;
    })
    c.items.ensures c.prepare_all.ensures.touches c.finish.ensures.others

pub returns-clause-others : goal.returns-clause-others
returns-clause-others g c = free_others c.in_ok-made.made _ (names_of c.args.entries.now) _
    (g.D.Disk.told c.prepare_all.new.disk) _ c.items.ensures c.in_ok-made.ensures.made.names_are
    c.prepare_all.ensures.touches c.finish.ensures.others

pub returns-clause-unlocked : goal.returns-clause-unlocked
returns-clause-unlocked g c = λ plain.
    free_unlocked c.args.stamp.now c.args.entries.now c.in_ok-made.made _ _ (g.D.Disk.told c.prepare_all.new.disk) _
    (record {
      grouped = c.requires.entries;
      plain = plain;
      none = c.requires.none;
      told =
          c.in_ok-made.ensures.told plain;
      made_are = c.in_ok-made.ensures.made;
      before =
          c.prepare_all.ensures.before plain;
    })
    c.items.ensures c.prepare_all.ensures.touches c.finish.ensures.others

pub returns-in_err-made-clause-others : goal.returns-in_err-made-clause-others
returns-in_err-made-clause-others g c = left_others (names_of c.args.entries.now) _ _ c.prepare_all.ensures.touches

pub returns-in_err-made-clause-unlocked : goal.returns-in_err-made-clause-unlocked
returns-in_err-made-clause-unlocked g c = λ plain. left_unlocked (names_of c.args.entries.now) _ _
    c.prepare_all.ensures.touches

pub returns-in-Ok-clause-speaks : goal.returns-in-Ok-clause-speaks
returns-in-Ok-clause-speaks g c =
    done_speaks tt c.in_ok-made.made _ _ _ _ _ _ c.in_ok-made.ensures.speaks
    (subst (λ (made : List PreparedEntry). Finishes (Ok tt) made (world (seen (g.D.Disk.told c.prepare_all.new.disk))
    (g.O.Sink.given c.args.out.now) (g.E.Sink.given c.args.err.now)) (world (seen (g.D.Disk.told c.finish.new.disk))
    (g.O.Sink.given c.finish.new.out) (g.E.Sink.given c.finish.new.err))) c.items.ensures c.in-Ok.ensures.told)

pub returns-clause-speaks : goal.returns-clause-speaks
returns-clause-speaks g c =
    failed_speaks c.in-Err.fault c.in_ok-made.made _ _ _ _ _ _ c.in_ok-made.ensures.speaks
    (subst (λ (made : List PreparedEntry). Finishes (Err c.in-Err.fault) made
    (world (seen (g.D.Disk.told c.prepare_all.new.disk)) (g.O.Sink.given c.args.out.now)
    (g.E.Sink.given c.args.err.now)) (world (seen (g.D.Disk.told c.finish.new.disk))
    (g.O.Sink.given c.finish.new.out) (g.E.Sink.given c.finish.new.err))) c.items.ensures c.in-Err.ensures.told)

pub returns-in_err-made-clause-speaks : goal.returns-in_err-made-clause-speaks
returns-in_err-made-clause-speaks g c =
    let p = err_from_is_err_and c.from_residual.result c.from_residual.ensures.1 in
    rw (p.1, p.2) (entry_speaks c.in_err-made.field-0.0.fault (g.E.Sink.given c.args.err.now)
    c.in_err-made.ensures.speaks)
