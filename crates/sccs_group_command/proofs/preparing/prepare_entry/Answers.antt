use Rattle.std.proofs.Common.{[], ◌∷◌, Ok, Err, ap, refl, sym, ◌∙◌}
use Rattle.std.specs.Str.{bytes_eq}
use Rattle.sccs_base.specs.Name.{sfile_name_decides, z_file}
use Rattle.sccs_disk.specs.Effects.{empty_file}
use Rattle.sccs_disk.specs.Told.{seen}
use Rattle.sccs_name_files.specs.StepFiles.{is_left, is_working}
use Rattle.sccs_name_files.proofs.Touched.{only_then, only_wider}
use Rattle.sccs_crash_points.proofs.FileNames.{no_working, no_z}
use Rattle.sccs_store.proofs.Working.{made_there, same_touches}
use Rattle.sccs_group_command.specs.GroupStep.{entry_outcome}
use Rattle.sccs_group_command.proofs.EntryEnds.{bad_name, gave_up, lock_failed, locked_name, no_memory, prepared_entry}
use Rattle.sccs_group_command.proofs.EntryEnds.{says_by}
use Rattle.sccs_group_command.proofs.Firms.{firm_from}
use Rattle.sccs_group_command.proofs.Losing.{failed_loses, free_loses, same_loses}
use Rattle.sccs_group_command.proofs.Speaking.{could_back, could_ended}
use Rattle.sccs_group_command.proofs.preparing.prepare_entry.Goals as goal

pub returns-then-not-is_sfile-clause-told : goal.returns-then-not-is_sfile-clause-told
returns-then-not-is_sfile-clause-told g c = bad_name c.args.stamp.now c.args.entry.now _ (sym c.is_sfile.ensures.value
    ∙ c.if-not-is_sfile.true)

pub returns-then-not-is_sfile-clause-touches : goal.returns-then-not-is_sfile-clause-touches
returns-then-not-is_sfile-clause-touches g c = same_touches (is_left c.args.entry.now.name) _ _ refl

pub returns-in-Err-Locked-clause-told : goal.returns-in-Err-Locked-clause-told
returns-in-Err-Locked-clause-told g c =
    locked_name c.args.stamp.now c.args.entry.now _ _ (sym c.is_sfile.ensures.value ∙ c.if-not-is_sfile.false)
    (ap seen (c.lock.ensures.same (c.in-Err-Locked.is ∙ ap Err c.in-Err-Locked.field-0-is)))
    (c.lock.ensures.locked (c.in-Err-Locked.is ∙ ap Err c.in-Err-Locked.field-0-is))

pub returns-in-Err-Locked-clause-touches : goal.returns-in-Err-Locked-clause-touches
returns-in-Err-Locked-clause-touches g c = only_wider (bytes_eq (z_file c.args.entry.now.name))
    (is_left c.args.entry.now.name) _ _ (no_z c.args.entry.now.name) c.lock.ensures.touches

pub returns-in-Err-Failed-clause-told : goal.returns-in-Err-Failed-clause-told
returns-in-Err-Failed-clause-told g c =
    lock_failed (λ u. entry_outcome c.args.stamp.now u c.args.entry.now) c.args.entry.now.name _ _
    (sym c.is_sfile.ensures.value ∙ c.if-not-is_sfile.false) c.in-Err-Failed.ensures.view_err

pub returns-in-Err-Memory-clause-told : goal.returns-in-Err-Memory-clause-told
returns-in-Err-Memory-clause-told g c =
    no_memory (λ u. entry_outcome c.args.stamp.now u c.args.entry.now) c.args.entry.now.name _ _
    (ap seen (c.lock.ensures.memory (c.in-Err-Memory.is ∙ ap Err c.in-Err-Memory.field-0-is)))

pub returns-in-Err-Failed-clause-touches : goal.returns-in-Err-Failed-clause-touches
returns-in-Err-Failed-clause-touches g c = only_wider (bytes_eq (z_file c.args.entry.now.name))
    (is_left c.args.entry.now.name) _ _ (no_z c.args.entry.now.name) c.lock.ensures.touches

pub returns-in-Err-Memory-clause-touches : goal.returns-in-Err-Memory-clause-touches
returns-in-Err-Memory-clause-touches g c = only_wider (bytes_eq (z_file c.args.entry.now.name))
    (is_left c.args.entry.now.name) _ _ (no_z c.args.entry.now.name) c.lock.ensures.touches

pub prepare_delta-requires-clause-locked : goal.prepare_delta-requires-clause-locked
prepare_delta-requires-clause-locked g c = made_there (z_file c.args.entry.now.name) empty_file
    (g.D.Disk.told c.args.disk.now) (g.D.Disk.told c.lock.new.disk) c.in-Ok.ensures.view

pub returns-in-Ok-prepare_delta-clause-told : goal.returns-in-Ok-prepare_delta-clause-told
returns-in-Ok-prepare_delta-clause-told g c =
    let fits = sym c.is_sfile.ensures.value ∙ c.if-not-is_sfile.false in
    let named = (sfile_name_decides c.args.entry.now.name).0 fits in
    prepared_entry c.args.stamp.now c.args.entry.now c.in-Ok-prepare_delta.prepared _ _
    (g.D.Disk.told c.prepare_delta.new.disk) named.0 named.1 fits c.in-Ok.ensures.view c.in-Ok.ensures.free
    (says_by c.args.stamp.now c.args.entry.now c.bytes-script.result.now c.prepare_delta.result
    (Ok c.in-Ok-prepare_delta.prepared) _ _ c.bytes-script.ensures c.in-Ok-prepare_delta.is
    c.prepare_delta.ensures.prepares) c.in-Ok-prepare_delta.ensures.needs c.in-Ok-prepare_delta.ensures.kind
    c.in-Ok-prepare_delta.ensures.entries

pub returns-in-Ok-prepare_delta-clause-firm : goal.returns-in-Ok-prepare_delta-clause-firm
returns-in-Ok-prepare_delta-clause-firm g c = record {
  named = (sfile_name_decides c.args.entry.now.name).0 (sym c.is_sfile.ensures.value ∙ c.if-not-is_sfile.false);
  firm = firm_from c.args.entry.now.name c.in-Ok-prepare_delta.prepared (bytes_eq (z_file c.args.entry.now.name)) _
      (g.D.Disk.told c.lock.new.disk) _ c.lock.ensures.touches c.in-Ok-prepare_delta.ensures.firm;
}

pub returns-in-Ok-prepare_delta-clause-touches : goal.returns-in-Ok-prepare_delta-clause-touches
returns-in-Ok-prepare_delta-clause-touches g c =
    only_then (is_left c.args.entry.now.name) _ (g.D.Disk.told c.lock.new.disk) _
    (only_wider (bytes_eq (z_file c.args.entry.now.name)) (is_left c.args.entry.now.name) _ _
    (no_z c.args.entry.now.name) c.lock.ensures.touches)
    (only_wider (is_working c.args.entry.now.name) (is_left c.args.entry.now.name) _ _
    (no_working c.args.entry.now.name) c.prepare_delta.ensures.touches)

pub returns-in-Err-clause-told : goal.returns-in-Err-clause-told
returns-in-Err-clause-told g c =
    let fits = sym c.is_sfile.ensures.value ∙ c.if-not-is_sfile.false in
    gave_up c.args.stamp.now c.args.entry.now c.in-Err.fault c.give_up.result _ _ _ _ fits c.in-Ok.ensures.view
    c.in-Ok.ensures.free
    (says_by c.args.stamp.now c.args.entry.now c.bytes-script.result.now c.prepare_delta.result (Err c.in-Err.fault) _ _
    c.bytes-script.ensures c.in-Err.is c.prepare_delta.ensures.prepares)
    (λ is. c.prepare_delta.ensures.causes.read (c.in-Err.is ∙ ap Err is)) (λ is. c.prepare_delta.ensures.causes.write
    (c.in-Err.is ∙ ap Err is)) c.give_up.ensures.gives_back

pub returns-in-Err-clause-touches : goal.returns-in-Err-clause-touches
returns-in-Err-clause-touches g c =
    only_then (is_left c.args.entry.now.name) _ (g.D.Disk.told c.prepare_delta.new.disk) _
    (only_then (is_left c.args.entry.now.name) _ (g.D.Disk.told c.lock.new.disk) _
    (only_wider (bytes_eq (z_file c.args.entry.now.name)) (is_left c.args.entry.now.name) _ _
    (no_z c.args.entry.now.name) c.lock.ensures.touches)
    (only_wider (is_working c.args.entry.now.name) (is_left c.args.entry.now.name) _ _
    (no_working c.args.entry.now.name) c.prepare_delta.ensures.touches)) c.give_up.ensures.touches

pub returns-then-not-is_sfile-clause-before : goal.returns-then-not-is_sfile-clause-before
returns-then-not-is_sfile-clause-before g c = same_loses (c.args.entry.now.name ∷ []) _ _ refl

pub returns-in-Err-Locked-clause-before : goal.returns-in-Err-Locked-clause-before
returns-in-Err-Locked-clause-before g c = same_loses (c.args.entry.now.name ∷ []) _ _
    (c.lock.ensures.same (c.in-Err-Locked.is ∙ ap Err c.in-Err-Locked.field-0-is))

pub returns-in-Err-Memory-clause-before : goal.returns-in-Err-Memory-clause-before
returns-in-Err-Memory-clause-before g c = same_loses (c.args.entry.now.name ∷ []) _ _
    (c.lock.ensures.memory (c.in-Err-Memory.is ∙ ap Err c.in-Err-Memory.field-0-is))

pub returns-in-Err-Failed-clause-before : goal.returns-in-Err-Failed-clause-before
returns-in-Err-Failed-clause-before g c =
    failed_loses c.args.entry.now.name _ _ ((sfile_name_decides c.args.entry.now.name).0 (sym c.is_sfile.ensures.value
    ∙ c.if-not-is_sfile.false)) c.lock.ensures.touches (c.lock.ensures.held (c.in-Err-Failed.is
    ∙ ap Err c.in-Err-Failed.field-0-is))

pub returns-in-Ok-prepare_delta-clause-before : goal.returns-in-Ok-prepare_delta-clause-before
returns-in-Ok-prepare_delta-clause-before g c =
    free_loses c.args.entry.now.name _ _ ((sfile_name_decides c.args.entry.now.name).0 (sym c.is_sfile.ensures.value
    ∙ c.if-not-is_sfile.false)) c.in-Ok.ensures.free
    (only_then (is_left c.args.entry.now.name) _ (g.D.Disk.told c.lock.new.disk) _
    (only_wider (bytes_eq (z_file c.args.entry.now.name)) (is_left c.args.entry.now.name) _ _
    (no_z c.args.entry.now.name) c.lock.ensures.touches)
    (only_wider (is_working c.args.entry.now.name) (is_left c.args.entry.now.name) _ _
    (no_working c.args.entry.now.name) c.prepare_delta.ensures.touches))

pub returns-in-Err-clause-before : goal.returns-in-Err-clause-before
returns-in-Err-clause-before g c =
    free_loses c.args.entry.now.name _ _ ((sfile_name_decides c.args.entry.now.name).0 (sym c.is_sfile.ensures.value
    ∙ c.if-not-is_sfile.false)) c.in-Ok.ensures.free
    (only_then (is_left c.args.entry.now.name) _ (g.D.Disk.told c.prepare_delta.new.disk) _
    (only_then (is_left c.args.entry.now.name) _ (g.D.Disk.told c.lock.new.disk) _
    (only_wider (bytes_eq (z_file c.args.entry.now.name)) (is_left c.args.entry.now.name) _ _
    (no_z c.args.entry.now.name) c.lock.ensures.touches)
    (only_wider (is_working c.args.entry.now.name) (is_left c.args.entry.now.name) _ _
    (no_working c.args.entry.now.name) c.prepare_delta.ensures.touches)) c.give_up.ensures.touches)

pub returns-in-Err-clause-speaks : goal.returns-in-Err-clause-speaks
returns-in-Err-clause-speaks g c =
    could_back c.give_up.result c.in-Err.fault c.args.entry.now.name _ _ c.give_up.ensures.gives_back
    (could_ended c.in-Err.fault c.in-Err.ensures.speaks)

pub returns-in-Ok-prepare_delta-clause-speaks : goal.returns-in-Ok-prepare_delta-clause-speaks
returns-in-Ok-prepare_delta-clause-speaks g c = c.in-Ok-prepare_delta.ensures.speaks

pub returns-then-not-is_sfile-clause-speaks : goal.returns-then-not-is_sfile-clause-speaks
returns-then-not-is_sfile-clause-speaks g c = refl

pub returns-in-Err-Locked-clause-speaks : goal.returns-in-Err-Locked-clause-speaks
returns-in-Err-Locked-clause-speaks g c = refl
