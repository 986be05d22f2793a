use Rattle.sccs_store.proofs.Working.{err_map, ok_map}
use Rattle.sccs_store.proofs.Placed.{placed_ends, placed_stops}
use Rattle.sccs_store.proofs.YFileOwnFiles.{place_others}
use Rattle.sccs_store.proofs.g_files.place_l.Goals as goal

pub returns-clause-stopped : goal.returns-clause-stopped
returns-clause-stopped g c = err_map c.place.result (placed_stops c.args.name.now _ _ _ _ _ c.sibling.ensures
    c.sibling-2.ensures) c.place.ensures.half

pub returns-clause-calm : goal.returns-clause-calm
returns-clause-calm g c = ok_map c.place.result (placed_ends c.args.name.now _ _ _ _ _ c.sibling.ensures
    c.sibling-2.ensures) c.place.ensures.done

pub returns-clause-others : goal.returns-clause-others
returns-clause-others g c = place_others c.place.result c.args.name.now c.sibling.result c.sibling-2.result _ _ _
    c.sibling.ensures c.sibling-2.ensures c.place.ensures.done c.place.ensures.half
