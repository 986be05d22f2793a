use Rattle.sccs_disk.specs.Told.{seen}
use Rattle.sccs_store.proofs.Working.{err_of, ok_map}
use Rattle.sccs_group.proofs.Closing.{complete_done, complete_then, placed_first}
use Rattle.sccs_group.proofs.GroupFiles.{complete_others, placed_others}
use Rattle.sccs_group.proofs.Parts.{first_halfway, placed_halfway}
use Rattle.sccs_group.proofs.finishing.complete.Goals as goal

pub returns-in_err-place_all-clause-story : goal.returns-in_err-place_all-clause-story
returns-in_err-place_all-clause-story g c = placed_first c.args.members.now _ _ c.requires.members
    c.place_all.ensures.story

pub returns-clause-story : goal.returns-clause-story
returns-clause-story g c = complete_then c.args.members.now _ _ _ c.requires.members c.in_ok-place_all.ensures.view
    c.place_all.ensures.story c.close.ensures.story

pub returns-clause-done : goal.returns-clause-done
returns-clause-done g c = ok_map c.close.result (complete_done c.args.members.now _ _ _ c.requires.members
    c.in_ok-place_all.ensures.view c.place_all.ensures.story) c.close.ensures.done

pub returns-in_err-place_all-clause-halfway : goal.returns-in_err-place_all-clause-halfway
returns-in_err-place_all-clause-halfway g c = err_of c.from_residual.result
    (first_halfway c.args.members.now _ _ c.in_err-place_all.ensures.halfway)

pub returns-clause-halfway : goal.returns-clause-halfway
returns-clause-halfway g c = err_of c.close.result (placed_halfway c.args.members.now _
    (seen (g.D.Disk.told c.place_all.new.disk)) _ c.in_ok-place_all.ensures.view c.close.ensures.moves)

pub returns-in_err-place_all-clause-others : goal.returns-in_err-place_all-clause-others
returns-in_err-place_all-clause-others g c = placed_others c.args.members.now _ _ c.place_all.ensures.others

pub returns-clause-others : goal.returns-clause-others
returns-clause-others g c = complete_others c.args.members.now _ (g.D.Disk.told c.place_all.new.disk) _
    c.place_all.ensures.others c.close.ensures.others
