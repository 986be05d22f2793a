use Rattle.std.proofs.Common.{Some, subst}
use Rattle.sccs_rcs_file.specs.Trunk.{ReadsTrunk, revisions_at}
use Rattle.sccs_rcs_file.proofs.trunks.revisions_of.Goals as goal

pub returns : goal.returns
returns c =
    subst (λ o. ReadsTrunk c.revisions_from.result (revisions_at o c.args.file.now)) c.in-Some.ensures
    (subst (λ f. ReadsTrunk c.revisions_from.result (revisions_at (Some c.in-Some.head.now) f)) c.in-Ok.ensures
    c.revisions_from.ensures)
