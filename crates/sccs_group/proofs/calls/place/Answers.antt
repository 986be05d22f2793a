use Rattle.sccs_store.proofs.Working.{err_map, err_of}
use Rattle.sccs_group.proofs.GroupFiles.{four_others, one_others, three_others, two_others}
use Rattle.sccs_group.proofs.Parts.{g_part, p_part, s_part, y_part}
use Rattle.sccs_group.proofs.Placing.{four_named, p_named, s_named, three_named, two_named, y_named}
use Rattle.sccs_group.proofs.calls.place.Goals as goal

pub returns-in_err-place_s-clause-story : goal.returns-in_err-place_s-clause-story
returns-in_err-place_s-clause-story g c = s_named c.args.member.now _ _ c.requires c.place_s.ensures.call

pub returns-in_err-place_p-clause-story : goal.returns-in_err-place_p-clause-story
returns-in_err-place_p-clause-story g c =
    two_named c.args.member.now _ _ _ c.requires c.in_ok-place_s.ensures.view c.place_s.ensures.call
    (p_named c.args.member.now _ _ c.place_p.ensures.story)

pub returns-in_err-clear_sibling-clause-story : goal.returns-in_err-clear_sibling-clause-story
returns-in_err-clear_sibling-clause-story g c =
    two_named c.args.member.now _ _ _ c.requires c.in_ok-place_s.ensures.view c.place_s.ensures.call
    (three_named c.args.member.now _ _ _ c.in_ok-place_p.ensures.view c.place_p.ensures.story
    (y_named c.args.member.now _ _ c.clear_sibling.ensures.call))

pub returns-clause-story : goal.returns-clause-story
returns-clause-story g c =
    two_named c.args.member.now _ _ _ c.requires c.in_ok-place_s.ensures.view c.place_s.ensures.call
    (three_named c.args.member.now _ _ _ c.in_ok-place_p.ensures.view c.place_p.ensures.story
    (four_named c.args.member.now _ _ _ c.in_ok-clear_sibling.ensures.view c.clear_sibling.ensures.call
    c.place_g.ensures.story))

pub returns-in_err-place_s-clause-halfway : goal.returns-in_err-place_s-clause-halfway
returns-in_err-place_s-clause-halfway g c = err_of c.from_residual.result
    (s_part c.args.member.now _ _ c.in_err-place_s.ensures.view_err)

pub returns-in_err-place_p-clause-halfway : goal.returns-in_err-place_p-clause-halfway
returns-in_err-place_p-clause-halfway g c = err_of c.from_residual-in_err-place_p.result
    (p_part c.args.member.now _ _ _ c.in_ok-place_s.ensures.view c.in_err-place_p.ensures.view_err)

pub returns-in_err-clear_sibling-clause-halfway : goal.returns-in_err-clear_sibling-clause-halfway
returns-in_err-clear_sibling-clause-halfway g c =
    err_of c.from_residual-in_err-clear_sibling.result (y_part c.args.member.now _ _ _ _ c.in_ok-place_s.ensures.view
    c.in_ok-place_p.ensures.view c.in_err-clear_sibling.ensures.view_err)

pub returns-clause-halfway : goal.returns-clause-halfway
returns-clause-halfway g c =
    err_map c.place_g.result (g_part c.args.member.now _ _ _ _ _ c.in_ok-place_s.ensures.view
    c.in_ok-place_p.ensures.view c.in_ok-clear_sibling.ensures.view) c.place_g.ensures.view_err

pub returns-in_err-place_s-clause-others : goal.returns-in_err-place_s-clause-others
returns-in_err-place_s-clause-others g c = one_others c.args.member.now _ _ c.place_s.ensures.call

pub returns-in_err-place_p-clause-others : goal.returns-in_err-place_p-clause-others
returns-in_err-place_p-clause-others g c = two_others c.args.member.now _ _ _ c.place_s.ensures.call
    c.place_p.ensures.others

pub returns-in_err-clear_sibling-clause-others : goal.returns-in_err-clear_sibling-clause-others
returns-in_err-clear_sibling-clause-others g c = three_others c.args.member.now _ _ _ _ c.place_s.ensures.call
    c.place_p.ensures.others c.clear_sibling.ensures.call

pub returns-clause-others : goal.returns-clause-others
returns-clause-others g c = four_others c.args.member.now _ _ _ _ _ c.place_s.ensures.call c.place_p.ensures.others
    c.clear_sibling.ensures.call c.place_g.ensures.others
