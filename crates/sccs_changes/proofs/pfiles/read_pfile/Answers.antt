use Rattle.std.proofs.lemmas.Result.{err_from_is_err_and}
use Rattle.std.proofs.Common.{ℕ, List, subst}
use Rattle.sccs_base.specs.Name.{p_file}
use Rattle.sccs_disk.specs.Told.{seen}
use Rattle.sccs_pfile.specs.Reading.{edits_of}
use Rattle.sccs_changes.specs.PFiles.{Answers, or_bad_pfile}
use Rattle.sccs_changes.proofs.PendingLaws.{entries_read, entries_unread}
use Rattle.sccs_changes.proofs.pfiles.read_pfile.Goals as goal

pub returns-clause-told : goal.returns-clause-told
returns-clause-told g c =
    entries_read (seen (g.D.Disk.told c.args.disk.now)) (p_file c.args.name.now) c.in_ok-bytes.bytes c.entries.result
    c.in_ok-bytes.ensures.told (subst (λ (x : List ℕ). Answers (or_bad_pfile (edits_of x)) c.entries.result)
    c.bytes-2.ensures c.entries.ensures.value)

pub returns-in_err-bytes-clause-told : goal.returns-in_err-bytes-clause-told
returns-in_err-bytes-clause-told g c =
    let p = err_from_is_err_and c.from_residual.result c.from_residual.ensures.1 in
    rw (p.1, p.2) (entries_unread (seen (g.D.Disk.told c.args.disk.now)) (p_file c.args.name.now)
    c.in_err-bytes.field-0.0 c.in_err-bytes.ensures.told)
