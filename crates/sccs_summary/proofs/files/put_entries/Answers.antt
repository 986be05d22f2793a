use Rattle.std.proofs.Common.{get_or}
use Rattle.sccs_writers.proofs.PutLaws.{part_cut, part_put, puts_nothing}
use Rattle.sccs_summary.specs.Summaries.{choice_of, live_text}
use Rattle.sccs_summary.proofs.LFiles.{put_as}
use Rattle.sccs_summary.proofs.files.put_entries.Goals as goal

pub loop-delta-init : goal.loop-delta-init
loop-delta-init g c = puts_nothing c.args.to.now _ _

pub returns-in-Err : goal.returns-in-Err
returns-in-Err g c =
    part_cut (live_text (choice_of c.args.choices)) c.args.records.now c.loop-delta.delta-index c.delta-item.result
    c.loop-delta-test.true c.args.to.now c.loop-delta.to c.put_entry.new.to _ _ _ _ _ _ c.put_entry.result
    c.in-Err.fault c.in-Err.is c.loop-delta.invariant
    (put_as (live_text (choice_of c.args.choices)) c.delta-item.result
    (get_or c.args.records.now c.loop-delta.delta-index c.delta-item.result) c.loop-delta.to c.put_entry.new.to _ _
    _ _ c.put_entry.result c.delta-item.is c.put_entry.ensures)

pub loop-delta-preserved : goal.loop-delta-preserved
loop-delta-preserved g c =
    part_put (live_text (choice_of c.args.choices)) c.args.records.now c.loop-delta.delta-index c.delta-item.result
    c.loop-delta-test.true c.args.to.now c.loop-delta.to c.put_entry.new.to _ _ _ _ _ _ c.put_entry.result
    c.in_default.field-0 c.in_default.is c.loop-delta.invariant
    (put_as (live_text (choice_of c.args.choices)) c.delta-item.result
    (get_or c.args.records.now c.loop-delta.delta-index c.delta-item.result) c.loop-delta.to c.put_entry.new.to _ _
    _ _ c.put_entry.result c.delta-item.is c.put_entry.ensures)
