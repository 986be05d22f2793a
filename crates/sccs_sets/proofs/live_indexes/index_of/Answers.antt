use Rattle.std.proofs.Common.{take, sym, subst}
use Rattle.std.specs.Prelude.{IfSome, ◌++◌, [], ◌∷◌}
use Rattle.sccs_sets.specs.LiveIndexes.{HasDeltas}
use Rattle.sccs_sets.proofs.LiveIndexes.{taken_record}
use Rattle.sccs_sets.proofs.live_indexes.index_of.Goals as goal

pub loop-record-preserved : goal.loop-record-preserved
loop-record-preserved c =
    let all = c.args.records.now in
    let i = c.loop-record.record-index in
    subst (HasDeltas c.in-Some.more)
    (sym (taken_record all i c.record-item.result c.loop-record-test.true c.record-item.is))
    (subst (λ o. IfSome o (λ index. HasDeltas index (take i all ++ c.record-item.result ∷ []))) c.in-Some.is
    (c.in_ok-more.ensures (take i all) c.loop-record.invariant))
