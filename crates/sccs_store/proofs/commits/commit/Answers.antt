use Rattle.std.proofs.Common.{drop, refl}
use Rattle.sccs_base.specs.Name.{p_file, q_file, x_file, y_file, z_file}
use Rattle.sccs_store.specs.Commits.{plan, replaced}
use Rattle.sccs_crash_points.proofs.FileNames.{from_g, s_and_g, to_g, to_s}
use Rattle.sccs_store.proofs.OwnFiles.{commit_others, first_others, second_others, third_others}
use Rattle.sccs_store.proofs.Stages.{commit_ends, first_stop, last_stop, second_stop, third_stop}
use Rattle.sccs_store.proofs.Swaps.{all_made, first_cut, last_cut, second_cut, swapped_needs, swapped_there, third_cut}
use Rattle.sccs_store.proofs.Working.{err_map, err_of, ok_map}
use Rattle.sccs_store.proofs.commits.commit.Goals as goal

pub returns-in_err-swap_s-clause-halfway : goal.returns-in_err-swap_s-clause-halfway
returns-in_err-swap_s-clause-halfway g c = err_of c.from_residual.result (first_cut c.args.name.now
    (plan c.args.new_s c.args.new_p c.args.new_g) _ _ c.in_err-swap_s.ensures.err)

pub returns-in_err-swap_s-clause-stopped : goal.returns-in_err-swap_s-clause-stopped
returns-in_err-swap_s-clause-stopped g c = err_of c.from_residual.result (first_stop c.args.name.now
    (plan c.args.new_s c.args.new_p c.args.new_g) _ _ c.requires.sfile c.requires.z c.in_err-swap_s.ensures.half)

pub swap_p-requires-clause-needs : goal.swap_p-requires-clause-needs
swap_p-requires-clause-needs g c =
    swapped_needs (replaced c.args.new_s) c.args.new_p (x_file c.args.name.now) c.args.name.now (q_file c.args.name.now)
    (p_file c.args.name.now) _ _ refl (to_s 113 c.args.name.now c.requires.sfile refl) refl
    (to_s 112 c.args.name.now c.requires.sfile refl) c.in_ok-swap_s.ensures.ok c.requires.p

pub returns-in_err-swap_p-clause-halfway : goal.returns-in_err-swap_p-clause-halfway
returns-in_err-swap_p-clause-halfway g c = err_of c.from_residual-in_err-swap_p.result (second_cut c.args.name.now
    (plan c.args.new_s c.args.new_p c.args.new_g) _ _ _ c.in_ok-swap_s.ensures.ok c.in_err-swap_p.ensures.err)

pub returns-in_err-swap_p-clause-stopped : goal.returns-in_err-swap_p-clause-stopped
returns-in_err-swap_p-clause-stopped g c =
    err_of c.from_residual-in_err-swap_p.result (second_stop c.args.name.now
    (plan c.args.new_s c.args.new_p c.args.new_g) _ _ _ c.requires.sfile c.requires.z c.in_ok-swap_s.ensures.done
    c.in_err-swap_p.ensures.half)

pub swap_g-requires-clause-needs : goal.swap_g-requires-clause-needs
swap_g-requires-clause-needs g c =
    swapped_needs c.args.new_p c.args.new_g (q_file c.args.name.now) (p_file c.args.name.now) (y_file c.args.name.now)
    (drop 2 c.args.name.now) _ _ refl refl (from_g 113 c.args.name.now c.requires.sfile)
    (from_g 112 c.args.name.now c.requires.sfile) c.in_ok-swap_p.ensures.ok
    (swapped_needs (replaced c.args.new_s) c.args.new_g (x_file c.args.name.now) c.args.name.now
    (y_file c.args.name.now) (drop 2 c.args.name.now) _ _ refl (to_s 121 c.args.name.now c.requires.sfile refl)
    (from_g 120 c.args.name.now c.requires.sfile) (s_and_g c.args.name.now c.requires.sfile)
    c.in_ok-swap_s.ensures.ok c.requires.g)

pub returns-in_err-swap_g-clause-halfway : goal.returns-in_err-swap_g-clause-halfway
returns-in_err-swap_g-clause-halfway g c = err_of c.from_residual-in_err-swap_g.result (third_cut c.args.name.now
    (plan c.args.new_s c.args.new_p c.args.new_g) _ _ _ _ c.in_ok-swap_s.ensures.ok c.in_ok-swap_p.ensures.ok
    c.in_err-swap_g.ensures.err)

pub returns-in_err-swap_g-clause-stopped : goal.returns-in_err-swap_g-clause-stopped
returns-in_err-swap_g-clause-stopped g c =
    err_of c.from_residual-in_err-swap_g.result (third_stop c.args.name.now
    (plan c.args.new_s c.args.new_p c.args.new_g) _ _ _ _ c.requires.sfile c.requires.z c.in_ok-swap_s.ensures.done
    c.in_ok-swap_p.ensures.done c.in_err-swap_g.ensures.half)

pub unlock-requires-clause-there : goal.unlock-requires-clause-there
unlock-requires-clause-there g c =
    swapped_there c.args.new_g (y_file c.args.name.now) (drop 2 c.args.name.now) (z_file c.args.name.now) _ _ refl
    (to_g 122 c.args.name.now c.requires.sfile) c.in_ok-swap_g.ensures.ok
    (swapped_there c.args.new_p (q_file c.args.name.now) (p_file c.args.name.now) (z_file c.args.name.now) _ _ refl refl
    c.in_ok-swap_p.ensures.ok
    (swapped_there (replaced c.args.new_s) (x_file c.args.name.now) c.args.name.now (z_file c.args.name.now) _ _ refl
    (to_s 122 c.args.name.now c.requires.sfile refl) c.in_ok-swap_s.ensures.ok c.requires.z))

pub returns-clause-view : goal.returns-clause-view
returns-clause-view g c = ok_map c.unlock.result (all_made c.args.name.now (plan c.args.new_s c.args.new_p c.args.new_g)
    _ _ _ _ _ c.in_ok-swap_s.ensures.ok c.in_ok-swap_p.ensures.ok c.in_ok-swap_g.ensures.ok) c.unlock.ensures.ok

pub returns-clause-halfway : goal.returns-clause-halfway
returns-clause-halfway g c =
    err_map c.unlock.result (last_cut c.args.name.now (plan c.args.new_s c.args.new_p c.args.new_g) _ _ _ _ _
    c.in_ok-swap_s.ensures.ok c.in_ok-swap_p.ensures.ok c.in_ok-swap_g.ensures.ok) c.unlock.ensures.err

pub returns-clause-stopped : goal.returns-clause-stopped
returns-clause-stopped g c =
    err_map c.unlock.result (last_stop c.args.name.now (plan c.args.new_s c.args.new_p c.args.new_g) _ _ _ _ _
    c.requires.sfile c.requires.z c.in_ok-swap_s.ensures.done c.in_ok-swap_p.ensures.done c.in_ok-swap_g.ensures.done)
    c.unlock.ensures.half

pub returns-clause-calm : goal.returns-clause-calm
returns-clause-calm g c = ok_map c.unlock.result (commit_ends c.args.name.now
    (plan c.args.new_s c.args.new_p c.args.new_g) _ _ _ _ _ c.requires.sfile c.requires.z c.in_ok-swap_s.ensures.done
    c.in_ok-swap_p.ensures.done c.in_ok-swap_g.ensures.done) c.unlock.ensures.done

pub returns-in_err-swap_s-clause-others : goal.returns-in_err-swap_s-clause-others
returns-in_err-swap_s-clause-others g c = first_others c.args.name.now (plan c.args.new_s c.args.new_p c.args.new_g) _ _
    c.in_err-swap_s.ensures.half

pub returns-in_err-swap_p-clause-others : goal.returns-in_err-swap_p-clause-others
returns-in_err-swap_p-clause-others g c = second_others c.args.name.now (plan c.args.new_s c.args.new_p c.args.new_g) _
    _ _ c.in_ok-swap_s.ensures.done c.in_err-swap_p.ensures.half

pub returns-in_err-swap_g-clause-others : goal.returns-in_err-swap_g-clause-others
returns-in_err-swap_g-clause-others g c = third_others c.args.name.now (plan c.args.new_s c.args.new_p c.args.new_g) _ _
    _ _ c.in_ok-swap_s.ensures.done c.in_ok-swap_p.ensures.done c.in_err-swap_g.ensures.half

pub returns-clause-others : goal.returns-clause-others
returns-clause-others g c = commit_others c.unlock.result c.args.name.now (plan c.args.new_s c.args.new_p c.args.new_g)
    _ _ _ _ _ c.in_ok-swap_s.ensures.done c.in_ok-swap_p.ensures.done c.in_ok-swap_g.ensures.done c.unlock.ensures.done
    c.unlock.ensures.half
