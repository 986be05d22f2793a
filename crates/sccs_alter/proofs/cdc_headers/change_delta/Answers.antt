use Rattle.sccs_alter.proofs.Places.{comes_in, stays_whole}
use Rattle.sccs_alter.proofs.cdc_headers.change_delta.Goals as goal

pub returns-in_default : goal.returns-in_default
returns-in_default c = stays_whole c.args.changes.now c.args.stamp.now c.args.header c.args.serial c.items.result.now
    c.place_of.result c.items.ensures c.place_of.ensures c.in_default.not-Some

pub returns : goal.returns
returns c =
    comes_in c.args.changes.now c.args.stamp.now c.args.header c.args.serial c.items.result.now c.replace.new.self
    c.place_of.result c.in-Some.place c.at.result.now c.in_ok-changed.changed c.requires.falls c.items.ensures
    c.place_of.ensures c.in-Some.is c.at.ensures c.in_ok-changed.ensures c.replace.ensures
