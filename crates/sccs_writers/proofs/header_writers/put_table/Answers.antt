use Rattle.sccs_writers.specs.HeaderBytes.{entry_bytes}
use Rattle.sccs_writers.proofs.PutLaws.{list_cut, list_put, puts_nothing, still_there}
use Rattle.sccs_writers.proofs.header_writers.put_table.Goals as goal

pub put_entry-requires-clause-there : goal.put_entry-requires-clause-there
put_entry-requires-clause-there g c = still_there _ _ _ _ _ _ _ _ c.loop-entry.invariant c.requires.there

pub loop-entry-init : goal.loop-entry-init
loop-entry-init g c = puts_nothing c.args.out.now _ _

pub returns-in-Err : goal.returns-in-Err
returns-in-Err g c =
    list_cut (entry_bytes) c.args.records.now c.items-entry-items.result.now c.items-entry-items.ensures
    c.loop-entry.entry-index c.entry-item.result c.entry-item.result c.loop-entry-test.true c.entry-item.is
    c.args.out.now c.loop-entry.out c.put_entry.new.out _ _ _ _ _ _ c.put_entry.result c.in-Err.fault c.in-Err.is
    c.loop-entry.invariant c.put_entry.ensures

pub loop-entry-preserved : goal.loop-entry-preserved
loop-entry-preserved g c =
    list_put (entry_bytes) c.args.records.now c.items-entry-items.result.now c.items-entry-items.ensures
    c.loop-entry.entry-index c.entry-item.result c.entry-item.result c.loop-entry-test.true c.entry-item.is
    c.args.out.now c.loop-entry.out c.put_entry.new.out _ _ _ _ _ _ c.put_entry.result c.in_default.field-0
    c.in_default.is c.loop-entry.invariant c.put_entry.ensures
