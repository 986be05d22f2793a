use Rattle.sccs_recovery.proofs.FreedNames.{entry_among}
use Rattle.sccs_recovery.proofs.freed_names.entry_names.Goals as goal

pub loop-entry-preserved : goal.loop-entry-preserved
loop-entry-preserved c =
    entry_among c.items-entry-items.result.now c.args.entries.now c.loop-entry.entry-index c.entry-item.result
    c.bytes.result.now c.loop-entry.set c.insert_name.new.names c.items-entry-items.ensures c.loop-entry-test.true
    c.entry-item.is c.bytes.ensures.value c.loop-entry.invariant
    c.in_ok-insert_name.ensures.more
