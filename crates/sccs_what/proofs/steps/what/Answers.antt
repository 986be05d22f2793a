use Rattle.std.proofs.Common.{◌∙◌, arith, ap, subst}
use Rattle.sccs_disk.specs.Reads.{Measures}
use Rattle.sccs_disk.specs.Told.{seen}
use Rattle.sccs_name_files.specs.WholeFiles.{file_bytes}
use Rattle.sccs_what.proofs.StepLaws.{prints_file}
use Rattle.sccs_what.proofs.steps.what.Goals as goal

pub returns-else-size-gt-FILE_LIMIT-clause-meets : goal.returns-else-size-gt-FILE_LIMIT-clause-meets
returns-else-size-gt-FILE_LIMIT-clause-meets g c =
    prints_file c.args.first c.args.name.now c.in-Ok-Some.size c.print_texts.result
    (seen (g.D.Disk.told c.args.disk.now)) (seen (g.D.Disk.told c.print_texts.new.disk))
    (g.O.Sink.given c.args.out.now) (g.O.Sink.given c.print_texts.new.out)
    (ap seen (c.print_texts.ensures.same ∙ c.in-Ok-Some.ensures.same))
    (subst (λ o. Measures (seen (g.D.Disk.told c.args.disk.now)) c.args.name.now o) c.in-Ok-Some.field-0-is
    c.in-Ok-Some.ensures.ok) (omega (arith, c.if-size-gt-FILE_LIMIT.false))
    (λ bytes is. c.print_texts.ensures.told bytes (ap (λ t. file_bytes (seen t) c.args.name.now)
    c.in-Ok-Some.ensures.same ∙ is))
