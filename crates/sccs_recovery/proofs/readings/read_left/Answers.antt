use Rattle.std.proofs.lemmas.Result.{err_from_is_err_and}
use Rattle.std.proofs.Common.{◌≡◌, Ok, ap}
use Rattle.sccs_base.specs.Name.{p_file}
use Rattle.sccs_disk.specs.Told.{seen}
use Rattle.sccs_recovery.specs.Checks.{bytes_read}
use Rattle.sccs_recovery.specs.Entries.{Finds}
use Rattle.sccs_recovery.proofs.ReadingLaws.{both_some, none_first}
use Rattle.sccs_recovery.proofs.readings.read_left.Goals as goal

pub returns-clause-told : goal.returns-clause-told
returns-clause-told g c = both_some (λ v. bytes_read (v (p_file c.args.name.now)) ≡ Ok c.in_ok-bytes.bytes)
    (λ v. Finds (v c.args.name.now) (v (p_file c.args.name.now)) c.left_with.result)
    (seen (g.D.Disk.told c.args.disk.now)) (seen (g.D.Disk.told c.read_p.new.disk)) (ap seen c.read_p.ensures.same)
    c.in_ok-bytes.ensures.told c.left_with.ensures.told

pub returns-in_err-bytes-clause-told : goal.returns-in_err-bytes-clause-told
returns-in_err-bytes-clause-told g c =
    let p = err_from_is_err_and c.from_residual.result c.from_residual.ensures.1 in
    rw (p.1, p.2) (none_first (seen (g.D.Disk.told c.args.disk.now)) c.args.name.now
    (p_file c.args.name.now) c.in_err-bytes.field-0.0 c.in_err-bytes.ensures.told)
