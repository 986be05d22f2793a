use Rattle.std.proofs.Common.{◌≡◌, ◌+◌, suc, ◌∙◌, ap, arith, subst, sym}
use Rattle.sccs_history.specs.Applied.{newest}
use Rattle.sccs_history.specs.History.{IsSpelled}
use Rattle.sccs_history.specs.declared.headers.Header.{Header}
use Rattle.sccs_records.proofs.NullLaws.{null_last, null_put, sid_at}
use Rattle.sccs_records.proofs.TableLaws.{spelled_kept}
use Rattle.sccs_records.proofs.null_deltas.add_null_deltas.Goals as goal

pub loop-sid-preserved : goal.loop-sid-preserved
loop-sid-preserved c = record {
  value = null_put c.args.stamp.now c.args.sids.now c.loop-sid.sid-index _ c.loop-sid.header c.put.new.self
      c.loop-sid.on (c.newest-next.result + 1) c.in_ok-delta.delta c.loop-sid-test.true c.in_ok-delta.ensures.value
      c.in_ok-put.ensures (omega (arith, c.newest-next.ensures)) ∙ c.loop-sid.invariant.value;
  last = null_last c.args.stamp.now c.args.sids.now c.loop-sid.sid-index
      (record { release = 0; level = 0; branch = 0; sequence = 0 }) c.loop-sid.header c.put.new.self c.loop-sid.on
      (c.newest-next.result + 1) c.in_ok-delta.delta c.loop-sid-test.true c.in_ok-put.ensures
      (omega (arith, c.newest-next.ensures)) ∙ c.loop-sid.invariant.last;
  newest = let one : newest c.put.new.self.records ≡ suc (newest c.loop-sid.header.records) =
      ap (λ (h : Header). newest h.records) c.in_ok-put.ensures in omega (arith, one, c.loop-sid.invariant.newest);
  spelled = λ spelled moment sids. subst IsSpelled (sym c.in_ok-put.ensures)
      (spelled_kept c.loop-sid.header c.loop-sid.on c.in_ok-delta.delta
      (c.loop-sid.invariant.spelled spelled moment sids) (c.in_ok-delta.ensures.spelled moment
      (sid_at c.args.sids.now c.loop-sid.sid-index _ c.loop-sid-test.true sids)));
}
