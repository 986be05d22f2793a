use Rattle.std.proofs.Common.{inl, inr, subst}
use Rattle.sccs_disk.specs.Calls.{Done, Half}
use Rattle.sccs_disk.specs.Effects.{removing}
use Rattle.sccs_store.proofs.Working.{err_map, err_of, ok_map}
use Rattle.sccs_store.proofs.commits.unlock.Goals as goal

pub returns-clause-done : goal.returns-clause-done
returns-clause-done g c =
    ok_map c.sync_names.result
    (λ done. (
      g.D.Disk.told c.remove.new.self,
      subst (λ k. Done (removing k) (g.D.Disk.told c.args.disk.now)
          (g.D.Disk.told c.remove.new.self)) c.sibling.ensures c.in_ok-remove.ensures.done,
      done,
    )) c.sync_names.ensures.done

pub returns-clause-half : goal.returns-clause-half
returns-clause-half g c =
    err_map c.sync_names.result (λ half. inr (
      g.D.Disk.told c.remove.new.self,
      subst
          (λ k. Done (removing k) (g.D.Disk.told c.args.disk.now) (g.D.Disk.told c.remove.new.self)) c.sibling.ensures
          c.in_ok-remove.ensures.done,
      half,
    )) c.sync_names.ensures.half

pub returns-in_err-remove-clause-half : goal.returns-in_err-remove-clause-half
returns-in_err-remove-clause-half g c =
    err_of c.from_residual.result (inl (subst (λ k. Half (removing k) (g.D.Disk.told c.args.disk.now)
    (g.D.Disk.told c.remove.new.self)) c.sibling.ensures c.in_err-remove.ensures.half))
