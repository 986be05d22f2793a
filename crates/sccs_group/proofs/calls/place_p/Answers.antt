use Rattle.sccs_group.proofs.GroupFiles.{p_others, q_others}
use Rattle.std.proofs.Common.{◌≡◌, Some, subst, sym}
use Rattle.sccs_disk.specs.Files.{View}
use Rattle.sccs_intents.specs.declared.intents.Fate.{Fate}
use Rattle.sccs_crash_points.specs.Recovery.{fate_at}
use Rattle.sccs_group.specs.Finishing.{FinishesBy}
use Rattle.sccs_group.proofs.Calling.{p_story, q_story}
use Rattle.sccs_group.proofs.calls.place_p.Goals as goal

pub returns-in-Replaced-clause-story : goal.returns-in-Replaced-clause-story
returns-in-Replaced-clause-story g c =
    subst (λ (f : Fate). FinishesBy (λ (v : View). fate_at v c.args.name.now ≡ Some f) (g.D.Disk.told c.args.disk.now)
    (g.D.Disk.told c.place_q.new.disk)) (sym c.in-Replaced.is)
    (q_story c.args.name.now _ _ c.requires c.place_q.ensures.call)

pub returns-in-Removed-clause-story : goal.returns-in-Removed-clause-story
returns-in-Removed-clause-story g c =
    subst (λ (f : Fate). FinishesBy (λ (v : View). fate_at v c.args.name.now ≡ Some f) (g.D.Disk.told c.args.disk.now)
    (g.D.Disk.told c.clear_sibling.new.disk)) (sym c.in-Removed.is)
    (p_story c.args.name.now _ _ c.requires c.clear_sibling.ensures.call)

pub returns-in-Replaced-clause-others : goal.returns-in-Replaced-clause-others
returns-in-Replaced-clause-others g c = q_others c.args.name.now _ _ c.place_q.ensures.call

pub returns-in-Removed-clause-others : goal.returns-in-Removed-clause-others
returns-in-Removed-clause-others g c = p_others c.args.name.now _ _ c.clear_sibling.ensures.call
