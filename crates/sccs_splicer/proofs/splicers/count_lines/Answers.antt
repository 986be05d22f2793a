use Rattle.std.proofs.Common.{ℕ, ◌+◌, min, ap, ◌∙◌}
use Rattle.sccs_base.specs.Stream.{last_count}
use Rattle.sccs_splicer.proofs.Counts.{counts_more}
use Rattle.sccs_splicer.proofs.splicers.count_lines.Goals as goal

pub loop-list-preserved : goal.loop-list-preserved
loop-list-preserved c =
    counts_more c.args.added.now c.loop-list.list-index c.list-item.result c.loop-list.count
    c.saturating_add-count.result _ c.loop-list-test.true c.loop-list.invariant
    (c.saturating_add-count.ensures ∙ ap (λ (k : ℕ). min (c.loop-list.count + k) last_count) c.len.ensures)
    c.list-item.is
