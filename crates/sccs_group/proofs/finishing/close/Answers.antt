use Rattle.sccs_group.proofs.GroupFiles.{close_others, intent_gone_others, locks_others}
use Rattle.sccs_group.proofs.Parts.{close_moves, intent_moves, locks_moves}
use Rattle.sccs_store.proofs.Working.{ok_map}
use Rattle.sccs_group.proofs.Closing.{close_done, close_first, close_then, unlock_done, unlock_synced}
use Rattle.sccs_group.proofs.finishing.close.Goals as goal

pub returns-in_err-clear-clause-story : goal.returns-in_err-clear-clause-story
returns-in_err-clear-clause-story g c = close_first c.args.members.now c.args.intent.now _ _ c.requires.intent
    c.clear.ensures.call

pub returns-in_err-unlock_all-clause-story : goal.returns-in_err-unlock_all-clause-story
returns-in_err-unlock_all-clause-story g c =
    close_then c.args.members.now c.args.intent.now _ _ _ c.requires.intent c.requires.members
    c.in_ok-clear.ensures.view c.clear.ensures.call c.unlock_all.ensures.story

pub returns-clause-story : goal.returns-clause-story
returns-clause-story g c =
    close_then c.args.members.now c.args.intent.now _ _ _ c.requires.intent c.requires.members
    c.in_ok-clear.ensures.view c.clear.ensures.call
    (unlock_synced c.args.members.now _ _ _ _ _ c.sync_names.result c.in_ok-unlock_all.ensures.view
    c.unlock_all.ensures.story c.sync_names.ensures)

pub returns-clause-done : goal.returns-clause-done
returns-clause-done g c =
    ok_map c.sync_names.result
    (λ done. close_done c.args.members.now c.args.intent.now _ _ _ c.requires.intent c.requires.members
    c.in_ok-clear.ensures.view c.clear.ensures.call
    (unlock_done c.args.members.now _ _ _ c.in_ok-unlock_all.ensures.view c.unlock_all.ensures.story done))
    c.sync_names.ensures.done

pub returns-in_err-clear-clause-moves : goal.returns-in_err-clear-clause-moves
returns-in_err-clear-clause-moves g c = intent_moves c.args.members.now c.args.intent.now _ _ c.requires.intent
    c.in_err-clear.ensures.view_err

pub returns-in_err-unlock_all-clause-moves : goal.returns-in_err-unlock_all-clause-moves
returns-in_err-unlock_all-clause-moves g c = locks_moves c.args.members.now c.args.intent.now _ _ _ c.requires.intent
    c.in_ok-clear.ensures.view c.unlock_all.ensures.moves

pub returns-clause-moves : goal.returns-clause-moves
returns-clause-moves g c =
    close_moves c.args.members.now c.args.intent.now _ (g.D.Disk.told c.clear.new.disk)
    (g.D.Disk.told c.unlock_all.new.disk) _ _ _ c.sync_names.result c.requires.intent c.in_ok-clear.ensures.view
    c.unlock_all.ensures.moves c.sync_names.ensures

pub returns-in_err-clear-clause-others : goal.returns-in_err-clear-clause-others
returns-in_err-clear-clause-others g c = intent_gone_others c.args.members.now c.args.intent.now _ _ c.requires.intent
    c.clear.ensures.call

pub returns-in_err-unlock_all-clause-others : goal.returns-in_err-unlock_all-clause-others
returns-in_err-unlock_all-clause-others g c = locks_others c.args.members.now c.args.intent.now _
    (g.D.Disk.told c.clear.new.disk) _ c.requires.intent c.clear.ensures.call c.unlock_all.ensures.others

pub returns-clause-others : goal.returns-clause-others
returns-clause-others g c =
    close_others c.args.members.now c.args.intent.now _ (g.D.Disk.told c.clear.new.disk)
    (g.D.Disk.told c.unlock_all.new.disk) _ _ _ c.sync_names.result c.requires.intent c.clear.ensures.call
    c.unlock_all.ensures.others c.sync_names.ensures
