use Rattle.sccs_name_files.proofs.Called.{sync_firm}
use Rattle.sccs_writers.proofs.OneFile.{only_both}
use Rattle.sccs_store.proofs.Working.{firm_after, sync_only}
use Rattle.sccs_group.proofs.Texts.{append_only}
use Rattle.sccs_group.proofs.plans.append_text.Goals as goal

pub returns-in-Ok-clause-only : goal.returns-in-Ok-clause-only
returns-in-Ok-clause-only g c =
    only_both c.args.name.now _ (g.D.Disk.told c.append.new.self) _ (append_only c.args.name.now c.args.text.now _ _ _ _
    c.append.result c.append.ensures) (sync_only c.args.name.now _ _ _ _ c.sync.result c.sync.ensures)

pub returns-in-Ok-clause-firm : goal.returns-in-Ok-clause-firm
returns-in-Ok-clause-firm g c =
    firm_after c.args.name.now _ (g.D.Disk.told c.append.new.self) _ (append_only c.args.name.now c.args.text.now _ _ _
    _ c.append.result c.append.ensures) (sync_firm c.args.name.now _ _ c.in-Ok.ensures.done)

pub returns-in-Err-clause-only : goal.returns-in-Err-clause-only
returns-in-Err-clause-only g c =
    only_both c.args.name.now _ (g.D.Disk.told c.append.new.self) _ (append_only c.args.name.now c.args.text.now _ _ _ _
    c.append.result c.append.ensures) (sync_only c.args.name.now _ _ _ _ c.sync.result c.sync.ensures)

pub returns-in_err-append-clause-only : goal.returns-in_err-append-clause-only
returns-in_err-append-clause-only g c = append_only c.args.name.now c.args.text.now _ _ _ _ c.append.result
    c.append.ensures

pub sync-requires : goal.sync-requires
sync-requires g c = (append_only c.args.name.now c.args.text.now _ _ _ _ c.append.result c.append.ensures).there
    c.requires
