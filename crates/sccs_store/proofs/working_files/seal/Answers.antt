use Rattle.sccs_disk.specs.Effects.{IsAny, protected}
use Rattle.sccs_name_files.proofs.Called.{sync_firm}
use Rattle.sccs_writers.proofs.OneFile.{only_both, only_done, only_half}
use Rattle.sccs_store.proofs.Working.{firm_after, ok_map, sync_only}
use Rattle.sccs_store.proofs.working_files.seal.Goals as goal

pub sync-requires : goal.sync-requires
sync-requires g c = (only_done c.args.name.now protected IsAny _ _ c.in_ok-protect.ensures.done).there c.requires

pub returns-clause-only : goal.returns-clause-only
returns-clause-only g c =
    only_both c.args.name.now _ (g.D.Disk.told c.protect.new.self) _ (only_done c.args.name.now protected IsAny _ _
    c.in_ok-protect.ensures.done) (sync_only c.args.name.now _ _ _ _ c.sync.result c.sync.ensures)

pub returns-clause-firm : goal.returns-clause-firm
returns-clause-firm g c =
    ok_map c.sync.result (λ done. firm_after c.args.name.now _ (g.D.Disk.told c.protect.new.self) _
    (only_done c.args.name.now protected IsAny _ _ c.in_ok-protect.ensures.done) (sync_firm c.args.name.now _ _ done))
    c.sync.ensures.done

pub returns-in_err-protect-clause-only : goal.returns-in_err-protect-clause-only
returns-in_err-protect-clause-only g c = only_half c.args.name.now protected IsAny _ _ c.in_err-protect.ensures.half
