use Rattle.std.proofs.Common.{inl, inr, arith}
use Rattle.sccs_disk.proofs.CallsAgain.{count_next, kept_next}
use Rattle.sccs_disk.proofs.replays.count_kept.Goals as goal
use Rattle.sccs_disk.proofs.replays.count_kept.Goals.{then-pending-made, else-pending-made}

pub loop-place-preserved : goal.loop-place-preserved
loop-place-preserved c =
    let before = c.loop-place.invariant in
    let log = c.args.log.now in
    let place = c.loop-place.place in
    let entry = c.index-log-place.result in
    record {
      within = elim c.if-pending-made.branch [
        | then-pending-made w ↦ omega (arith, w.kept-is)
        | else-pending-made w ↦
            omega (arith, w.kept-is, before.within)
      ];
      few = omega (arith, c.count_pending-pending.ensures.most, before.few);
      pending = count_next log place c.loop-place.pending c.count_pending-pending.result entry c.loop-place-test.true
          c.index-log-place.is c.count_pending-pending.ensures.count before.pending;
      names = kept_next log place c.loop-place.kept c.if-pending-made.kept c.loop-place.pending
          c.count_pending-pending.result c.args.made entry c.loop-place-test.true c.index-log-place.is
          c.count_pending-pending.ensures.count before.pending before.names
          (elim c.if-pending-made.branch [
            | then-pending-made w ↦ inl (w.if-pending-made.true, w.kept-is)
            | else-pending-made w ↦ inr (w.if-pending-made.false, w.kept-is)
          ]);
    }
