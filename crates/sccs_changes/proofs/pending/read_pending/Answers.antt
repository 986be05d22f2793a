use Rattle.std.proofs.lemmas.Result.{err_from_is_err_and}
use Rattle.std.proofs.Common.{ℕ, List, Ok, Err, refl, subst, ap, ◌∙◌}
use Rattle.sccs_base.specs.Name.{p_file}
use Rattle.sccs_disk.specs.Told.{seen}
use Rattle.sccs_pfile.specs.Reading.{edits_of}
use Rattle.sccs_pfile.specs.declared.entries.Edit.{Edit}
use Rattle.sccs_changes.specs.PFiles.{Answers, or_bad_pfile}
use Rattle.sccs_changes.proofs.PendingLaws.{agreement_ends, all_found, both_sized, edits_ends, file_ends, file_found}
use Rattle.sccs_changes.proofs.PendingLaws.{p_ends, size_ends}
use Rattle.sccs_changes.proofs.pending.read_pending.Goals as goal

pub returns-in_err-check_size-clause-told : goal.returns-in_err-check_size-clause-told
returns-in_err-check_size-clause-told g c =
    let p = err_from_is_err_and c.from_residual.result c.from_residual.ensures.1 in
    rw (p.1, p.2) (size_ends (seen (g.D.Disk.told c.args.disk.now)) c.args.name.now (p_file c.args.name.now)
    c.in_err-check_size.field-0.0 c.in_err-check_size.ensures.told)

pub returns-in_err-bytes-clause-told : goal.returns-in_err-bytes-clause-told
returns-in_err-bytes-clause-told g c =
    let p = err_from_is_err_and c.from_residual-in_err-bytes.result c.from_residual-in_err-bytes.ensures.1 in
    rw (p.1, p.2) (p_ends (seen (g.D.Disk.told c.args.disk.now)) (seen (g.D.Disk.told c.check_size.new.disk))
    c.args.name.now (p_file c.args.name.now) c.in_err-bytes.field-0.0 (ap seen c.check_size.ensures.frame.same)
    c.in_ok-check_size.ensures.told c.in_err-bytes.ensures.told)

pub returns-in_err-front-clause-told : goal.returns-in_err-front-clause-told
returns-in_err-front-clause-told g c =
    let p = err_from_is_err_and c.from_residual-in_err-front.result c.from_residual-in_err-front.ensures.1 in
    rw p.1 (file_ends (seen (g.D.Disk.told c.args.disk.now)) (seen (g.D.Disk.told c.read_p.new.disk)) c.args.name.now
    (p_file c.args.name.now) c.in_ok-bytes.bytes c.in_err-front.field-0.0 p.0 (ap seen (c.read_p.ensures.frame.same
    ∙ c.check_size.ensures.frame.same))
    (both_sized (seen (g.D.Disk.told c.args.disk.now)) (seen (g.D.Disk.told c.check_size.new.disk)) c.args.name.now
    (p_file c.args.name.now) c.in_ok-bytes.bytes (ap seen c.check_size.ensures.frame.same)
    c.in_ok-check_size.ensures.told c.in_ok-bytes.ensures.told) p.2 c.in_err-front.ensures.told)

pub returns-in_err-edits-clause-told : goal.returns-in_err-edits-clause-told
returns-in_err-edits-clause-told g c =
    let p = err_from_is_err_and c.from_residual-in_err-edits.result c.from_residual-in_err-edits.ensures.1 in
    rw (p.1, p.2) (edits_ends (seen (g.D.Disk.told c.args.disk.now)) c.args.name.now (p_file c.args.name.now)
    c.in_ok-bytes.bytes c.in_ok-front.front c.in_err-edits.field-0.0
    (file_found (seen (g.D.Disk.told c.args.disk.now)) (seen (g.D.Disk.told c.read_p.new.disk)) c.args.name.now
    (p_file c.args.name.now) c.in_ok-bytes.bytes c.in_ok-front.front (ap seen (c.read_p.ensures.frame.same
    ∙ c.check_size.ensures.frame.same))
    (both_sized (seen (g.D.Disk.told c.args.disk.now)) (seen (g.D.Disk.told c.check_size.new.disk)) c.args.name.now
    (p_file c.args.name.now) c.in_ok-bytes.bytes (ap seen c.check_size.ensures.frame.same)
    c.in_ok-check_size.ensures.told c.in_ok-bytes.ensures.told) c.in_ok-front.ensures.told)
    (subst (λ (x : List ℕ). Answers {A = List Edit} (or_bad_pfile (edits_of x)) (Err c.in_err-edits.field-0.0))
    c.bytes-2.ensures c.in_err-edits.ensures.value))

pub returns-clause-told : goal.returns-clause-told
returns-clause-told g c =
    all_found (seen (g.D.Disk.told c.args.disk.now)) c.args.name.now (p_file c.args.name.now) c.in_ok-bytes.bytes
    c.in_ok-front.front c.in_ok-edits.edits _ refl refl
    (file_found (seen (g.D.Disk.told c.args.disk.now)) (seen (g.D.Disk.told c.read_p.new.disk)) c.args.name.now
    (p_file c.args.name.now) c.in_ok-bytes.bytes c.in_ok-front.front (ap seen (c.read_p.ensures.frame.same
    ∙ c.check_size.ensures.frame.same))
    (both_sized (seen (g.D.Disk.told c.args.disk.now)) (seen (g.D.Disk.told c.check_size.new.disk)) c.args.name.now
    (p_file c.args.name.now) c.in_ok-bytes.bytes (ap seen c.check_size.ensures.frame.same)
    c.in_ok-check_size.ensures.told c.in_ok-bytes.ensures.told) c.in_ok-front.ensures.told)
    (subst (λ (x : List ℕ). Answers (or_bad_pfile (edits_of x)) (Ok c.in_ok-edits.edits)) c.bytes-2.ensures
    c.in_ok-edits.ensures.value) c.in_ok-check_agreement.ensures.value

pub returns-in_err-check_agreement-clause-told : goal.returns-in_err-check_agreement-clause-told
returns-in_err-check_agreement-clause-told g c =
    let p = err_from_is_err_and c.from_residual-in_err-check_agreement.result
    c.from_residual-in_err-check_agreement.ensures.1 in
    rw (p.1, p.2) (agreement_ends (seen (g.D.Disk.told c.args.disk.now)) c.args.name.now (p_file c.args.name.now)
    c.in_ok-bytes.bytes c.in_ok-front.front c.in_ok-edits.edits c.in_err-check_agreement.field-0.0
    (file_found (seen (g.D.Disk.told c.args.disk.now)) (seen (g.D.Disk.told c.read_p.new.disk)) c.args.name.now
    (p_file c.args.name.now) c.in_ok-bytes.bytes c.in_ok-front.front (ap seen (c.read_p.ensures.frame.same
    ∙ c.check_size.ensures.frame.same))
    (both_sized (seen (g.D.Disk.told c.args.disk.now)) (seen (g.D.Disk.told c.check_size.new.disk)) c.args.name.now
    (p_file c.args.name.now) c.in_ok-bytes.bytes (ap seen c.check_size.ensures.frame.same)
    c.in_ok-check_size.ensures.told c.in_ok-bytes.ensures.told) c.in_ok-front.ensures.told)
    (subst (λ (x : List ℕ). Answers (or_bad_pfile (edits_of x)) (Ok c.in_ok-edits.edits)) c.bytes-2.ensures
    c.in_ok-edits.ensures.value) c.in_err-check_agreement.ensures.value)
