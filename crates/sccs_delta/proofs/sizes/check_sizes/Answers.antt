use Rattle.std.proofs.lemmas.Result.{err_from_is_err_and}
use Rattle.std.proofs.Common.{ap, ◌∙◌}
use Rattle.sccs_disk.specs.Told.{seen}
use Rattle.sccs_delta.proofs.SizeLaws.{all_sized, p_ends, s_ends, script_ends, there_ends}
use Rattle.sccs_delta.proofs.sizes.check_sizes.Goals as goal

pub returns-in_err-check_there-clause-told : goal.returns-in_err-check_there-clause-told
returns-in_err-check_there-clause-told g c =
    let p = err_from_is_err_and c.from_residual.result c.from_residual.ensures.1 in
    rw (p.1, p.2) (there_ends (seen (g.D.Disk.told c.args.disk.now)) c.args.name.now c.args.script.now
    c.in_err-check_there.field-0.0 c.in_err-check_there.ensures.told)

pub returns-in_err-check_script-clause-told : goal.returns-in_err-check_script-clause-told
returns-in_err-check_script-clause-told g c =
    let p = err_from_is_err_and c.from_residual-in_err-check_script.result
    c.from_residual-in_err-check_script.ensures.1 in
    rw (p.1, p.2) (script_ends (seen (g.D.Disk.told c.args.disk.now)) c.args.name.now c.args.script.now
    c.in_err-check_script.field-0.0 c.in_ok-check_there.ensures.told c.in_err-check_script.ensures.told)

pub returns-in_err-check_script-clause-frame : goal.returns-in_err-check_script-clause-frame
returns-in_err-check_script-clause-frame g c =
    let p = err_from_is_err_and c.from_residual-in_err-check_script.result
    c.from_residual-in_err-check_script.ensures.1 in
    rw (p.1, p.2) (record {
      same = c.check_there.ensures.frame.same;
      later = c.check_there.ensures.frame.later;
      cause = λ is. absurd (c.in_err-check_script.ensures.broke is);
      read = λ is. absurd (c.in_err-check_script.ensures.read is);
      write = λ is. absurd (c.in_err-check_script.ensures.write is);
    })

pub returns-in_err-check_short-clause-told : goal.returns-in_err-check_short-clause-told
returns-in_err-check_short-clause-told g c =
    let p = err_from_is_err_and c.from_residual-in_err-check_short.result
    c.from_residual-in_err-check_short.ensures.1 in
    rw (p.1, p.2) (s_ends (seen (g.D.Disk.told c.args.disk.now)) (seen (g.D.Disk.told c.check_there.new.disk))
    c.args.name.now c.args.script.now c.in_err-check_short.field-0.0 (ap seen c.check_there.ensures.frame.same)
    c.in_ok-check_there.ensures.told c.in_err-check_short.ensures.told)

pub returns-in_err-check_short-2-clause-told : goal.returns-in_err-check_short-2-clause-told
returns-in_err-check_short-2-clause-told g c =
    let p = err_from_is_err_and c.from_residual-in_err-check_short-2.result
    c.from_residual-in_err-check_short-2.ensures.1 in
    rw (p.1, p.2) (p_ends (seen (g.D.Disk.told c.args.disk.now)) (seen (g.D.Disk.told c.check_there.new.disk))
    (seen (g.D.Disk.told c.check_short.new.disk)) c.args.name.now c.sibling.result c.args.script.now
    c.in_err-check_short-2.field-0.0
    (ap seen c.check_there.ensures.frame.same) (ap seen (c.check_short.ensures.frame.same
    ∙ c.check_there.ensures.frame.same)) c.sibling.ensures c.in_ok-check_there.ensures.told
    c.in_ok-check_short.ensures.told c.in_err-check_short-2.ensures.told)

pub returns-clause-told : goal.returns-clause-told
returns-clause-told g c =
    all_sized (seen (g.D.Disk.told c.args.disk.now)) (seen (g.D.Disk.told c.check_there.new.disk))
    (seen (g.D.Disk.told c.check_short.new.disk)) (seen (g.D.Disk.told c.check_short-2.new.disk)) c.args.name.now
    c.sibling.result c.module.result c.args.script.now c.check_short-3.result
    (ap seen c.check_there.ensures.frame.same) (ap seen (c.check_short.ensures.frame.same
    ∙ c.check_there.ensures.frame.same)) (ap seen (c.check_short-2.ensures.frame.same
    ∙ (c.check_short.ensures.frame.same ∙ c.check_there.ensures.frame.same)))
    c.sibling.ensures c.module.ensures c.in_ok-check_script.ensures.told c.in_ok-check_there.ensures.told
    c.in_ok-check_short.ensures.told c.in_ok-check_short-2.ensures.told c.check_short-3.ensures.told
