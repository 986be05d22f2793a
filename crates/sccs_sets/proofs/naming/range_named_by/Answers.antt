use Rattle.std.proofs.Common.{◌≡◌, ◌∙◌, subst, sym}
use Rattle.std.specs.Prelude.{IfOk, IfSome}
use Rattle.sccs_sid.specs.declared.sid_lists.Range.{Range}
use Rattle.sccs_sets.specs.LiveIndexes.{HasDeltas}
use Rattle.sccs_sets.specs.Naming.{range_named}
use Rattle.sccs_sets.proofs.LiveIndexes.{range_single}
use Rattle.sccs_sets.proofs.naming.range_named_by.Goals as goal

pub returns-in-Some : goal.returns-in-Some
returns-in-Some c =
    subst (λ (r : Range). IfOk c.named_at.result (λ found. found.items ≡ range_named c.args.records.now r))
    (sym (range_single c.args.range.now (sym c.eq.ensures ∙ c.if-eq.true)))
    (c.named_at.ensures c.args.records.now (subst (λ o. IfSome o (λ index. HasDeltas index c.args.records.now))
    c.in-Some.is c.requires))
