use Rattle.sccs_get.proofs.PlacedSids.{placed}
use Rattle.sccs_get.proofs.new_entries.placed_sid.Goals as goal

pub returns-then-record-serial : goal.returns-then-record-serial
returns-then-record-serial c =
    placed 65536 c.args.records.now c.from.result c.args.serial c.in_ok-record.record.now c.in_ok-record.record.now
    c.requires
    c.in_ok-record.ensures.lookup.3.0 c.in_ok-record.ensures.lookup.1 c.if-record-serial.true
