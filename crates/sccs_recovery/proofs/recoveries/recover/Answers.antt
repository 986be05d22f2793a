use Rattle.std.proofs.Common.{rules}
use Rattle.sccs_recovery.proofs.RecoveryLaws.{calm_from, firm_since, same_firm, same_story, story_from}
use Rattle.sccs_recovery.proofs.RecoveryEnds.{ended, failed, partly, partly_from, same_partly}
use Rattle.sccs_crash_points.specs.Unlocked.{is_own}
use Rattle.sccs_crash_points.proofs.Unlocked.{others_same}
use Rattle.sccs_recovery.proofs.OtherNames.{others_since}
use Rattle.sccs_recovery.proofs.recoveries.recover.Goals as goal

pub returns-in-Ok-clause-ends : goal.returns-in-Ok-clause-ends
returns-in-Ok-clause-ends g c = ended c.args.name.now _ (g.D.Disk.told c.size.new.self) _ _ _ _ c.in-Ok.field-0 _
    c.size.ensures.same c.size.ensures.later c.in-Ok.ensures.ends

pub returns-in-Err-unlock-clause-ends : goal.returns-in-Err-unlock-clause-ends
returns-in-Err-unlock-clause-ends g c = failed c.args.name.now _ (g.D.Disk.told c.size.new.self) _ _ _ _
    c.in-Err-unlock.fault c.size.ensures.same c.size.ensures.later c.in-Err-unlock.ensures.ends

pub returns-in-Ok-tidy-clause-ends : goal.returns-in-Ok-tidy-clause-ends
returns-in-Ok-tidy-clause-ends g c = record {
  view = search rules;
  refused = search rules;
  memory = search rules;
  cleared = search rules;
  touches = search rules;
  others = others_since c.args.name.now _ (g.D.Disk.told c.size.new.self) _ c.size.ensures.same c.tidy.ensures.others;
  partly = search rules;
  story = story_from _ (g.D.Disk.told c.size.new.self) _ c.size.ensures.same c.tidy.ensures.story;
  calm = calm_from _ (g.D.Disk.told c.size.new.self) _ c.size.ensures.same c.in-Ok-tidy.ensures.calm;
  firm = firm_since _ (g.D.Disk.told c.size.new.self) _ c.size.ensures.same c.tidy.ensures.firm;
  later = search rules;
  cause = search rules;
  within = search rules;
}

pub returns-in-Err-tidy-clause-ends : goal.returns-in-Err-tidy-clause-ends
returns-in-Err-tidy-clause-ends g c = record {
  view = search rules;
  refused = search rules;
  memory = search rules;
  cleared = search rules;
  touches = search rules;
  others = others_since c.args.name.now _ (g.D.Disk.told c.size.new.self) _ c.size.ensures.same c.tidy.ensures.others;
  partly = λ fault. partly_from c.args.name.now _ (g.D.Disk.told c.args.disk.now) (g.D.Disk.told c.size.new.self) _
      c.size.ensures.same (partly c.args.name.now _ _ _ c.in-Err-tidy.ensures.view_err);
  story = story_from _ (g.D.Disk.told c.size.new.self) _ c.size.ensures.same c.tidy.ensures.story;
  calm = search rules;
  firm = firm_since _ (g.D.Disk.told c.size.new.self) _ c.size.ensures.same c.tidy.ensures.firm;
  later = search rules;
  cause = search rules;
  within = search rules;
}

pub returns-in-Err-clause-ends : goal.returns-in-Err-clause-ends
returns-in-Err-clause-ends g c = record {
  view = search rules;
  refused = search rules;
  memory = search rules;
  cleared = search rules;
  touches = search rules;
  others = others_same (is_own c.args.name.now) _ _ c.size.ensures.same;
  partly = λ fault. same_partly c.args.name.now _ (g.D.Disk.told c.args.disk.now) (g.D.Disk.told c.size.new.self)
      c.size.ensures.same;
  story = same_story _ _ c.size.ensures.same;
  calm = search rules;
  firm = same_firm _ _ c.size.ensures.same;
  later = search rules;
  cause = search rules;
  within = search rules;
}
