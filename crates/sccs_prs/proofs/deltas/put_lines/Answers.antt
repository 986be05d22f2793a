use Rattle.sccs_base.proofs.Gifts.{some_longer}
use Rattle.sccs_prs.specs.PrsText.{delta_lines}
use Rattle.sccs_prs.specs.Shown.{shown_file}
use Rattle.sccs_prs.proofs.GivesLaws.{flushed_gives}
use Rattle.sccs_prs.proofs.deltas.put_lines.Goals as goal

pub returns-in-Err-clause-gives : goal.returns-in-Err-clause-gives
returns-in-Err-clause-gives g c = λ bytes items is. some_longer _ _ c.args.listing.now.buffer
    (delta_lines (shown_file c.args.file items) c.args.delta.now) c.in-Err.ensures.gives.err

pub returns-clause-gives : goal.returns-clause-gives
returns-clause-gives g c = λ bytes items is.
    flushed_gives (delta_lines (shown_file c.args.file items) c.args.delta.now) c.print_lines.result
    c.args.listing.now.buffer c.flush.new.self _ _ _ c.flush.ensures.empty c.in_default.ensures.gives.ok
    (c.print_lines.ensures.prints bytes items is)
