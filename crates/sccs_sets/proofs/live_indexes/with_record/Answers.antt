use Rattle.std.proofs.Common.{◌≡◌, ◌∙◌, None, Some, ap, subst, sym}
use Rattle.std.specs.BTreeMap.{Updates, get}
use Rattle.sccs_sets.specs.LiveIndexes.{place_of}
use Rattle.sccs_sets.specs.Naming.{sid_named}
use Rattle.sccs_sets.proofs.LiveIndexes.{index_more}
use Rattle.sccs_sets.proofs.live_indexes.with_record.Goals as goal
use Rattle.sccs_sid.specs.FourNumbers.{four_cmp}

pub returns-in-None : goal.returns-in-None
returns-in-None c =
    let free : get four_cmp c.args.index.deltas (place_of c.args.delta.now.sid) ≡ None =
    ap (get four_cmp c.args.index.deltas) (sym c.place_of.ensures) ∙ (sym c.in_ok-insert.ensures.old
    ∙ c.in-None.is) in λ before has.
    index_more c.args.index.deltas c.insert.new.self before c.args.delta.now c.if-delta.false free
    (subst (λ key. Updates four_cmp c.args.index.deltas c.insert.new.self key (Some (sid_named c.args.delta.now)))
    c.place_of.ensures c.in_ok-insert.ensures.updates) has
