use Rattle.std.proofs.Common.{ap, subst}
use Rattle.sccs_disk.specs.Reads.{Measures}
use Rattle.sccs_disk.specs.Told.{seen}
use Rattle.sccs_edit.proofs.SactLaws.{edits_found, missing_found}
use Rattle.sccs_edit.proofs.sact.find_edits.Goals as goal

pub returns-in-Ok-Some-clause-told : goal.returns-in-Ok-Some-clause-told
returns-in-Ok-Some-clause-told g c =
    edits_found (seen (g.D.Disk.told c.args.disk.now)) (seen (g.D.Disk.told c.size.new.self)) c.args.name.now _
    c.read_pfile.result (ap seen c.size.ensures.same)
    (subst (λ m. Measures (seen (g.D.Disk.told c.args.disk.now)) c.args.name.now m) c.in-Ok-Some.field-0-is
    c.in-Ok-Some.ensures.ok) c.read_pfile.ensures.told

pub returns-in-Ok-None-clause-told : goal.returns-in-Ok-None-clause-told
returns-in-Ok-None-clause-told g c = missing_found (seen (g.D.Disk.told c.args.disk.now)) c.args.name.now
    (subst (λ m. Measures (seen (g.D.Disk.told c.args.disk.now)) c.args.name.now m) c.in-Ok-None.field-0-is
    c.in-Ok-None.ensures.ok)
