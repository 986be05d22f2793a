use Rattle.std.proofs.Common.{[], ◌∷◌}
use Rattle.sccs_prs.specs.PrsText.{parts_text}
use Rattle.sccs_prs.specs.Shown.{shown_file}
use Rattle.sccs_prs.proofs.GivesLaws.{causes_on, gives_less, gives_then_gives}
use Rattle.sccs_prs.proofs.deltas.put_delta.Goals as goal

pub returns-in-Err-clause-gives : goal.returns-in-Err-clause-gives
returns-in-Err-clause-gives g c = λ bytes items is.
    gives_less (parts_text c.args.parts.now (shown_file c.args.file items) c.args.delta.now) (10 ∷ []) c.in-Err.fault
    c.args.listing.now.buffer c.put_parts.new.listing.buffer _ _ _ (c.in-Err.ensures.gives bytes items is)

pub returns-clause-causes : goal.returns-clause-causes
returns-clause-causes g c = causes_on c.put.result _ _ _ _ _ _ c.put_parts.ensures.causes.out_later
    c.put_parts.ensures.causes.disk_later (c.put.ensures.causes (g.D.Disk.faults c.put_parts.new.disk))

pub returns-clause-gives : goal.returns-clause-gives
returns-clause-gives g c = λ bytes items is.
    gives_then_gives (parts_text c.args.parts.now (shown_file c.args.file items) c.args.delta.now)
    (10 ∷ []) c.put.result c.args.listing.now.buffer c.put_parts.new.listing.buffer c.put.new.buffer _ _ _
    (c.in_default-put_parts.ensures.gives bytes items is) c.put.ensures.gives
