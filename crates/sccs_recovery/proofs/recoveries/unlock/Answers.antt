use Rattle.std.proofs.lemmas.Result.{err_from_is_err_and}
use Rattle.std.proofs.Common.{rules}
use Rattle.sccs_name_files.specs.StepFiles.{is_working}
use Rattle.sccs_store.proofs.Working.{ok_map, same_touches, touches_from}
use Rattle.sccs_recovery.proofs.RecoveryLaws.{calm_from, firm_since, same_firm, same_story}
use Rattle.sccs_recovery.proofs.RecoveryEnds.{finished_partly, same_cleared, same_partly}
use Rattle.sccs_crash_points.specs.Unlocked.{is_own}
use Rattle.sccs_crash_points.proofs.Unlocked.{others_same}
use Rattle.sccs_recovery.proofs.OtherNames.{others_since}
use Rattle.sccs_recovery.proofs.recoveries.unlock.Goals as goal

pub returns-clause-ends : goal.returns-clause-ends
returns-clause-ends g c = record {
  view = search rules;
  refused = search rules;
  memory = search rules;
  cleared = search rules;
  touches = λ fault. touches_from (is_working c.args.name.now) _ (g.D.Disk.told c.read_left.new.disk) _
      c.read_left.ensures.same (c.finish.ensures.touches fault);
  others = others_since c.args.name.now _ (g.D.Disk.told c.read_left.new.disk) _ c.read_left.ensures.same
      c.finish.ensures.others;
  partly = λ fault. finished_partly c.args.name.now c.in_ok-left.left (g.D.Disk.told c.args.disk.now)
      (g.D.Disk.told c.read_left.new.disk) (g.D.Disk.told c.finish.new.disk) c.read_left.ensures.same c.requires.z
      c.in_ok-left.ensures.told (c.finish.ensures.partly fault);
  story = search rules;
  calm = ok_map c.finish.result (calm_from _ (g.D.Disk.told c.read_left.new.disk) _ c.read_left.ensures.same)
      c.finish.ensures.calm;
  firm = firm_since _ (g.D.Disk.told c.read_left.new.disk) _ c.read_left.ensures.same c.finish.ensures.firm;
  later = search rules;
  cause = search rules;
  within = search rules;
}

pub returns-in_err-left-clause-ends : goal.returns-in_err-left-clause-ends
returns-in_err-left-clause-ends g c =
    let p = err_from_is_err_and c.from_residual.result c.from_residual.ensures.1 in
    rw (p.1, p.2) (record {
      view = search rules;
      refused = search rules;
      memory = search rules;
      cleared = λ fault. same_cleared c.args.name.now (g.D.Disk.told c.args.disk.now)
          (g.D.Disk.told c.read_left.new.disk) c.read_left.ensures.same;
      touches = λ fault. same_touches (is_working c.args.name.now) _ _ c.read_left.ensures.same;
      others = others_same (is_own c.args.name.now) _ _ c.read_left.ensures.same;
      partly = λ fault. same_partly c.args.name.now _ (g.D.Disk.told c.args.disk.now)
          (g.D.Disk.told c.read_left.new.disk) c.read_left.ensures.same;
      story = same_story _ _ c.read_left.ensures.same;
      calm = search rules;
      firm = same_firm _ _ c.read_left.ensures.same;
      later = search rules;
      cause = search rules;
      within = search rules;
    })
