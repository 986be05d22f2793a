use Rattle.sccs_group.proofs.GroupFiles.{lock_turn}
use Rattle.sccs_group.proofs.Parts.{lock_moves}
use Rattle.std.proofs.Common.{arith, inr, refl}
use Rattle.sccs_group.specs.Halfway.{is_lock_of}
use Rattle.sccs_crash_points.proofs.Unlocked.{others_same}
use Rattle.sccs_store.proofs.Working.{moves_same}
use Rattle.sccs_group.specs.Members.{unlocked}
use Rattle.sccs_group.proofs.Looping.{all_done, item_at, member_sfile, unlocked_all, unlocked_cut, unlocked_on, view_on}
use Rattle.sccs_group.proofs.finishing.unlock_all.Goals as goal

pub clear_sibling-requires-clause-sfile : goal.clear_sibling-requires-clause-sfile
clear_sibling-requires-clause-sfile g c = member_sfile c.args.members.now _ _ c.member-item.result c.requires
    (item_at c.args.members.now c.loop-member.member-index c.member-item.result c.loop-member-test.true
    c.member-item.is)

pub returns-in_err-clear_sibling-clause-story : goal.returns-in_err-clear_sibling-clause-story
returns-in_err-clear_sibling-clause-story g c =
    unlocked_cut c.args.members.now _ c.loop-member.member-index c.member-item.result _ _ _ c.requires
    (item_at c.args.members.now c.loop-member.member-index c.member-item.result c.loop-member-test.true
    c.member-item.is)
    c.clear_sibling.ensures.call c.loop-member.invariant.story

pub loop-member-preserved : goal.loop-member-preserved
loop-member-preserved g c =
    let at = item_at c.args.members.now c.loop-member.member-index c.member-item.result c.loop-member-test.true
    c.member-item.is in
    let before = c.loop-member.invariant.later in
    let now = c.clear_sibling.ensures.causes.later in
    record {
      view = view_on unlocked c.args.members.now _ c.loop-member.member-index c.member-item.result _ _ _ at
          c.in_ok-clear_sibling.ensures.view c.loop-member.invariant.view;
      moves = lock_moves c.args.members.now _ c.loop-member.member-index c.member-item.result _ _ _ at
          (inr c.in_ok-clear_sibling.ensures.view) c.loop-member.invariant.moves;
      story = unlocked_on c.args.members.now _ c.loop-member.member-index c.member-item.result _ _ _ c.requires at
          c.in_ok-clear_sibling.ensures.view c.clear_sibling.ensures.call c.loop-member.invariant.story;
      others = lock_turn c.args.members.now _ c.loop-member.member-index c.member-item.result _ _ _ at
          c.clear_sibling.ensures.call c.loop-member.invariant.others;
      later = omega (arith, before, now);
    }

pub returns-clause-view : goal.returns-clause-view
returns-clause-view g c = c.loop-member.invariant.view _
    (all_done unlocked c.args.members.now c.loop-member.member-index _ c.loop-member-test.false)

pub returns-clause-story : goal.returns-clause-story
returns-clause-story g c = unlocked_all c.args.members.now c.loop-member.member-index _ _ c.loop-member.invariant.story

pub returns-in_err-clear_sibling-clause-moves : goal.returns-in_err-clear_sibling-clause-moves
returns-in_err-clear_sibling-clause-moves g c =
    lock_moves c.args.members.now _ c.loop-member.member-index c.member-item.result _ _ _
    (item_at c.args.members.now c.loop-member.member-index c.member-item.result c.loop-member-test.true
    c.member-item.is)
    c.in_err-clear_sibling.ensures.view_err c.loop-member.invariant.moves

pub returns-in_err-clear_sibling-clause-others : goal.returns-in_err-clear_sibling-clause-others
returns-in_err-clear_sibling-clause-others g c =
    lock_turn c.args.members.now _ c.loop-member.member-index c.member-item.result _ _ _
    (item_at c.args.members.now c.loop-member.member-index c.member-item.result c.loop-member-test.true
    c.member-item.is)
    c.clear_sibling.ensures.call c.loop-member.invariant.others

pub returns-clause-moves : goal.returns-clause-moves
returns-clause-moves g c = c.loop-member.invariant.moves

pub returns-clause-others : goal.returns-clause-others
returns-clause-others g c = c.loop-member.invariant.others

pub loop-member-init : goal.loop-member-init
loop-member-init g c = record {
  view = λ o all. all;
  moves = moves_same (is_lock_of c.args.members.now) _;
  story = λ t all. all;
  others = others_same (is_lock_of c.args.members.now) _ _ refl;
  later = omega (arith);
}
