use Rattle.sccs_prs.specs.PrsText.{report_text}
use Rattle.sccs_prs.specs.Shown.{shown_file}
use Rattle.sccs_prs.proofs.GivesLaws.{gives_prints, prints_all, prints_some}
use Rattle.sccs_prs.proofs.printing.print_report.Goals as goal

pub returns-in-Err-clause-prints : goal.returns-in-Err-clause-prints
returns-in-Err-clause-prints g c = λ bytes items is.
    gives_prints (report_text c.args.words.now c.args.chosen (shown_file c.args.file items)) c.in-Err.fault
    c.in-Ok.listing.buffer c.put_report.new.listing.buffer _ _ c.in-Ok.ensures
    (c.in-Err.ensures.gives bytes items is)

pub returns-in-Ok-flush-clause-prints : goal.returns-in-Ok-flush-clause-prints
returns-in-Ok-flush-clause-prints g c = λ bytes items is.
    prints_all (report_text c.args.words.now c.args.chosen (shown_file c.args.file items)) c.in-Ok.listing.buffer
    c.put_report.new.listing.buffer _ _ _ c.in-Ok.ensures (c.in_default-put_report.ensures.gives bytes items is)
    c.in-Ok-flush.ensures.gives.ok

pub returns-clause-prints : goal.returns-clause-prints
returns-clause-prints g c = λ bytes items is.
    prints_some (report_text c.args.words.now c.args.chosen (shown_file c.args.file items)) c.in-Ok.listing.buffer
    c.put_report.new.listing.buffer _ _ _ c.in-Ok.ensures (c.in_default-put_report.ensures.gives bytes items is)
    c.in-Err-flush.ensures.gives.err
