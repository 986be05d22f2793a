use Rattle.sccs_name_files.proofs.Called.{sync_firm}
use Rattle.sccs_writers.proofs.OneFile.{only_both}
use Rattle.sccs_store.proofs.Working.{firm_after, sync_only}
use Rattle.sccs_store.proofs.pfiles.append_edits.Goals as goal

pub returns-in-Ok-clause-only : goal.returns-in-Ok-clause-only
returns-in-Ok-clause-only g c = only_both c.args.name.now _ (g.D.Disk.told c.write_edits.new.disk) _
    c.write_edits.ensures.only (sync_only c.args.name.now _ _ _ _ c.sync.result c.sync.ensures)

pub returns-in-Ok-clause-firm : goal.returns-in-Ok-clause-firm
returns-in-Ok-clause-firm g c = firm_after c.args.name.now _ (g.D.Disk.told c.write_edits.new.disk) _
    c.write_edits.ensures.only (sync_firm c.args.name.now _ _ c.in-Ok.ensures.done)

pub returns-in-Err-clause-only : goal.returns-in-Err-clause-only
returns-in-Err-clause-only g c = only_both c.args.name.now _ (g.D.Disk.told c.write_edits.new.disk) _
    c.write_edits.ensures.only (sync_only c.args.name.now _ _ _ _ c.sync.result c.sync.ensures)
