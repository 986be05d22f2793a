use Rattle.std.proofs.Common.{Ok, Err, arith, subst, ap, ◌∙◌}
use Rattle.sccs_disk.specs.Reads.{Measures}
use Rattle.sccs_disk.specs.Told.{seen}
use Rattle.sccs_name_files.specs.WholeFiles.{ReadsToEnd, file_bytes}
use Rattle.sccs_name_files.proofs.WholeFileLaws.{whole_answer, whole_fault}
use Rattle.sccs_name_files.proofs.whole_files.read_whole.Goals as goal

pub returns-in-Ok-false-clause-told : goal.returns-in-Ok-false-clause-told
returns-in-Ok-false-clause-told g c =
    whole_answer (seen (g.D.Disk.told c.args.disk.now)) c.args.name.now c.from_vec.result c.in-Ok-Some.size
    (subst (λ o. Measures (seen (g.D.Disk.told c.args.disk.now)) c.args.name.now o) c.in-Ok-Some.field-0-is
    c.in-Ok-Some.ensures.ok) (omega arith)
    (λ bytes is. c.from_vec.ensures ∙ subst (λ b. ReadsToEnd bytes c.pieces.all.items c.read_more.new.all.items (Ok b))
    c.in-Ok-false.field-0-test (c.in-Ok-false.ensures.told bytes (ap (λ t. file_bytes (seen t) c.args.name.now)
    c.pieces.invariant.same ∙ is)) (c.pieces.invariant.front bytes is))

pub returns-in-Err-read_more-clause-told : goal.returns-in-Err-read_more-clause-told
returns-in-Err-read_more-clause-told g c =
    whole_fault (seen (g.D.Disk.told c.args.disk.now)) c.args.name.now c.pieces.all.items c.read_more.new.all.items
    c.in-Err-read_more.fault c.in-Ok-Some.size
    (subst (λ o. Measures (seen (g.D.Disk.told c.args.disk.now)) c.args.name.now o) c.in-Ok-Some.field-0-is
    c.in-Ok-Some.ensures.ok)
    (λ e. c.read_more.ensures.missing (c.in-Err-read_more.is ∙ ap Err e))
    (λ bytes is. c.in-Err-read_more.ensures.told bytes (ap (λ t. file_bytes (seen t) c.args.name.now)
    c.pieces.invariant.same ∙ is))
