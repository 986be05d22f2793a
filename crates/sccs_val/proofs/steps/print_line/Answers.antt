use Rattle.sccs_disk.specs.Told.{seen}
use Rattle.sccs_val.proofs.LineLaws.{line_printed}
use Rattle.sccs_val.proofs.steps.print_line.Goals as goal

pub returns-in-Ok-clause-told : goal.returns-in-Ok-clause-told
returns-in-Ok-clause-told g c = line_printed (seen (g.D.Disk.told c.args.disk.now)) c.args.line.now c.in-Ok.words
    c.print_under.result _ _ c.in-Ok.ensures c.print_under.ensures.told
