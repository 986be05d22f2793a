use Rattle.std.proofs.Common.{Err, subst}
use Rattle.sccs_disk.specs.Told.{seen}
use Rattle.sccs_admin.specs.Parts.{ReadsNamed}
use Rattle.sccs_alter.proofs.ReadLaws.{named_found, named_missing, named_too_long}
use Rattle.sccs_alter.proofs.reading.named_text.Goals as goal

pub returns-in-Ok-clause-told : goal.returns-in-Ok-clause-told
returns-in-Ok-clause-told g c = named_found c.args.file.now c.args.name.now c.in-Ok.text
    (seen (g.D.Disk.told c.args.disk.now)) c.in-Ok.ensures.reads

pub returns-in-Err-Missing-clause-told : goal.returns-in-Err-Missing-clause-told
returns-in-Err-Missing-clause-told g c =
    named_missing c.args.file.now c.args.name.now (seen (g.D.Disk.told c.args.disk.now))
    (subst (λ f. ReadsNamed (Err f) c.args.file.now c.args.name.now (seen (g.D.Disk.told c.args.disk.now)))
    c.in-Err-Missing.field-0-is c.in-Err-Missing.ensures.reads)

pub returns-in-Err-TooLong-clause-told : goal.returns-in-Err-TooLong-clause-told
returns-in-Err-TooLong-clause-told g c =
    named_too_long c.args.file.now c.args.name.now (seen (g.D.Disk.told c.args.disk.now))
    (subst (λ f. ReadsNamed (Err f) c.args.file.now c.args.name.now (seen (g.D.Disk.told c.args.disk.now)))
    c.in-Err-TooLong.field-0-is c.in-Err-TooLong.ensures.reads)
