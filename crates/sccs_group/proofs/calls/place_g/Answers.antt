use Rattle.sccs_group.specs.Halfway.{is_own_of_member}
use Rattle.sccs_crash_points.proofs.Unlocked.{others_same}
use Rattle.sccs_group.proofs.GroupFiles.{g_others}
use Rattle.std.proofs.Common.{refl}
use Rattle.sccs_disk.specs.Files.{View}
use Rattle.sccs_group.specs.Members.{IsNamed}
use Rattle.sccs_group.proofs.Placing.{g_named}
use Rattle.sccs_group.proofs.Runs.{by_same}
use Rattle.sccs_group.proofs.calls.place_g.Goals as goal

pub returns-then-member-clause-story : goal.returns-then-member-clause-story
returns-then-member-clause-story g c = g_named c.args.member.now _ _ c.if-member.true c.clear_g.ensures.call

pub returns-else-member-clause-story : goal.returns-else-member-clause-story
returns-else-member-clause-story g c = by_same (λ (v : View). IsNamed v c.args.member.now) _ _ refl

pub returns-then-member-clause-others : goal.returns-then-member-clause-others
returns-then-member-clause-others g c = g_others c.args.member.now _ _ c.if-member.true c.clear_g.ensures.call

pub returns-else-member-clause-others : goal.returns-else-member-clause-others
returns-else-member-clause-others g c = others_same (is_own_of_member c.args.member.now) _ _ refl
