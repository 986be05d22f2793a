use Rattle.sccs_store.proofs.Working.{err_of}
use Rattle.sccs_group.proofs.GroupFiles.{own_turn}
use Rattle.sccs_group.proofs.Parts.{first_cut, first_on}
use Rattle.std.proofs.Common.{arith, refl}
use Rattle.sccs_group.specs.Halfway.{is_own_of}
use Rattle.sccs_crash_points.proofs.Unlocked.{others_same}
use Rattle.sccs_group.specs.Members.{placed}
use Rattle.sccs_group.proofs.Looping.{all_done, item_at, member_sfile, placed_all, placed_cut, placed_on, view_on}
use Rattle.sccs_group.proofs.finishing.place_all.Goals as goal

pub place-requires : goal.place-requires
place-requires g c = member_sfile c.args.members.now _ _ c.member-item.result c.requires
    (item_at c.args.members.now c.loop-member.member-index c.member-item.result c.loop-member-test.true
    c.member-item.is)

pub returns-in_err-place-clause-story : goal.returns-in_err-place-clause-story
returns-in_err-place-clause-story g c =
    placed_cut c.args.members.now _ c.loop-member.member-index c.member-item.result _ _ _
    (item_at c.args.members.now c.loop-member.member-index c.member-item.result c.loop-member-test.true
    c.member-item.is)
    c.place.ensures.story c.loop-member.invariant.story

pub loop-member-preserved : goal.loop-member-preserved
loop-member-preserved g c =
    let at = item_at c.args.members.now c.loop-member.member-index c.member-item.result c.loop-member-test.true
    c.member-item.is in
    let before = c.loop-member.invariant.later in
    let now = c.place.ensures.causes.later in
    record {
      view = view_on placed c.args.members.now _ c.loop-member.member-index c.member-item.result _ _ _ at
          c.in_ok-place.ensures.view c.loop-member.invariant.view;
      halfway = first_on c.args.members.now _ c.loop-member.member-index c.member-item.result _ _ _ at
          c.in_ok-place.ensures.view c.loop-member.invariant.halfway;
      story = placed_on c.args.members.now _ c.loop-member.member-index c.member-item.result _ _ _ c.requires at
          c.in_ok-place.ensures.view c.place.ensures.story c.loop-member.invariant.story;
      others = own_turn c.args.members.now _ c.loop-member.member-index c.member-item.result _ _ _ at
          c.place.ensures.others c.loop-member.invariant.others;
      later = omega (arith, before, now);
    }

pub returns-clause-view : goal.returns-clause-view
returns-clause-view g c = c.loop-member.invariant.view _ (all_done placed c.args.members.now c.loop-member.member-index
    _ c.loop-member-test.false)

pub returns-clause-story : goal.returns-clause-story
returns-clause-story g c = placed_all c.args.members.now c.loop-member.member-index _ _ c.loop-member.invariant.story

pub returns-in_err-place-clause-halfway : goal.returns-in_err-place-clause-halfway
returns-in_err-place-clause-halfway g c =
    err_of c.from_residual.result (first_cut c.args.members.now _ c.loop-member.member-index c.member-item.result _ _ _
    (item_at c.args.members.now c.loop-member.member-index c.member-item.result c.loop-member-test.true
    c.member-item.is)
    c.in_err-place.ensures.halfway c.loop-member.invariant.halfway)

pub returns-in_err-place-clause-others : goal.returns-in_err-place-clause-others
returns-in_err-place-clause-others g c =
    own_turn c.args.members.now _ c.loop-member.member-index c.member-item.result _ _ _
    (item_at c.args.members.now c.loop-member.member-index c.member-item.result c.loop-member-test.true
    c.member-item.is)
    c.place.ensures.others c.loop-member.invariant.others

pub returns-clause-others : goal.returns-clause-others
returns-clause-others g c = c.loop-member.invariant.others

pub loop-member-init : goal.loop-member-init
loop-member-init g c = record {
  view = λ o all. all;
  halfway = λ o all. all;
  story = λ t all. all;
  others =
      others_same (is_own_of c.args.members.now) _ _ refl;
  later = omega (arith);
}
