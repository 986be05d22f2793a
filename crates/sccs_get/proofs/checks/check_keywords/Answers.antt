use Rattle.std.proofs.lemmas.Result.{err_from_is_err_and}
use Rattle.sccs_get.proofs.GivingLaws.{failed_frame, passed_frame, refused_frame}
use Rattle.sccs_sid.specs.declared.refusals.Refusal.TheVariants.{NoKeywords}
use Rattle.sccs_get.proofs.checks.check_keywords.Goals as goal

pub returns-then-branch-clause-frame : goal.returns-then-branch-clause-frame
returns-then-branch-clause-frame g c = passed_frame g.D.Disk.told g.D.Disk.faults c.args.disk.now
    c.has_keywords.new.disk c.has_keywords.ensures.same (c.has_keywords.ensures.causes 0).disk_later

pub returns-else-branch-clause-frame : goal.returns-else-branch-clause-frame
returns-else-branch-clause-frame g c = refused_frame g.D.Disk.told g.D.Disk.faults c.args.disk.now
    c.has_keywords.new.disk NoKeywords c.has_keywords.ensures.same (c.has_keywords.ensures.causes 0).disk_later

pub returns-in_err-has_keywords-clause-frame : goal.returns-in_err-has_keywords-clause-frame
returns-in_err-has_keywords-clause-frame g c =
    let p = err_from_is_err_and c.from_residual.result c.from_residual.ensures.1 in
    rw (p.1, p.2) (failed_frame g.D.Disk.told g.D.Disk.faults c.args.disk.now c.has_keywords.new.disk
    c.in_err-has_keywords.field-0.0 c.has_keywords.ensures.same (c.in_err-has_keywords.ensures.causes 0))
