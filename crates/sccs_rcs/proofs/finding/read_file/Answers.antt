use Rattle.sccs_disk.specs.Told.{seen}
use Rattle.sccs_rcs.proofs.FindLaws.{long_found}
use Rattle.sccs_rcs.proofs.finding.read_file.Goals as goal

pub returns-in-Err-TooLong-clause-finds : goal.returns-in-Err-TooLong-clause-finds
returns-in-Err-TooLong-clause-finds g c =
    long_found c.args.name.now c.in-Ok.file (seen (g.D.Disk.told c.args.disk.now)) c.in-Err-TooLong.field-0
    c.in-Ok.ensures c.in-Err-TooLong.field-0-is c.in-Err-TooLong.ensures.reads
