use Rattle.std.proofs.Common.{◌+◌, ℕ, List, drop, fold, map, reverse, sym, ap, ◌∙◌}
use Rattle.sccs_history.specs.declared.headers.Record.{Record}
use Rattle.sccs_sets.specs.Naming.{in_range, sid_named, put_named}
use Rattle.sccs_sets.specs.Retrieved.{live_where}
use Rattle.sccs_sets.proofs.Passing.{drop-record}
use Rattle.sccs_sets.proofs.Putting.{put_record}
use Rattle.sccs_sets.proofs.naming.range_falling.Goals as goal

pub loop-record-preserved : goal.loop-record-preserved
loop-record-preserved c =
    let i : ℕ = c.loop-record.record-index in
    let all : List Record = c.args.records.now in
    let r : Record = c.record-item.result in
    put_record c.args.range.now r (drop (i + 1) all) (reverse c.loop-record.found.items)
    (reverse c.put_falling.new.found.items) (c.in_ok-put_falling.ensures c.if-not-branch.false)
    ∙ (ap (λ l. fold put_named (reverse c.loop-record.found.items)
    (map sid_named (live_where (in_range c.args.range.now) l)))
    (sym (drop-record all i r c.loop-record-test.true c.record-item.is))
    ∙ c.loop-record.invariant)
