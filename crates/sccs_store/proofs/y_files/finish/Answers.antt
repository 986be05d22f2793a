use Rattle.sccs_name_files.proofs.Called.{sync_firm}
use Rattle.sccs_store.proofs.Working.{ok_map, sync_only}
use Rattle.sccs_store.proofs.Marks.{mark_kept}
use Rattle.sccs_store.proofs.y_files.finish.Goals as goal

pub returns-in-Writable-clause-view : goal.returns-in-Writable-clause-view
returns-in-Writable-clause-view g c = ok_map c.sync.result (λ done. mark_kept c.args.name.now c.args.mode _ _
    c.in-Writable.is done.view) c.sync.ensures.done

pub returns-in-Writable-clause-only : goal.returns-in-Writable-clause-only
returns-in-Writable-clause-only g c = sync_only c.args.name.now _ _ _ _ c.sync.result c.sync.ensures

pub returns-in-Writable-clause-firm : goal.returns-in-Writable-clause-firm
returns-in-Writable-clause-firm g c = ok_map c.sync.result (sync_firm c.args.name.now _ _) c.sync.ensures.done
