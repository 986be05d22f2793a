use Rattle.sccs_rmdel.proofs.Places.{goes_out, stays_whole}
use Rattle.sccs_rmdel.proofs.removals.remove_delta.Goals as goal

-- src/removals.rt:82:9
pub returns-in_default : goal.returns-in_default
returns-in_default c = stays_whole c.args.header c.args.serial c.items.result.now c.place_of.result c.items.ensures
    c.place_of.ensures c.in_default.not-Some

-- src/removals.rt:76:1
pub returns : goal.returns
returns c =
    goes_out c.args.header c.args.serial c.items.result.now c.replace.new.self c.place_of.result c.in-Some.place
    c.at.result.now c.in_ok-removed.removed c.requires c.items.ensures c.place_of.ensures c.in-Some.is c.at.ensures
    c.in_ok-removed.ensures c.replace.ensures
