use Rattle.std.proofs.Common.{true, subst}
use Rattle.std.specs.BTreeSet.{Updates}
use Rattle.sccs_grammar.proofs.TableSets.{sids_more}
use Rattle.sccs_grammar.proofs.live_sids.with_listed.Goals as goal
use Rattle.sccs_sid.specs.FourNumbers.{four_cmp}

pub returns-in-Ok : goal.returns-in-Ok
returns-in-Ok c = λ table has_all.
    sids_more c.args.sids c.insert.new.self table c.args.row.now has_all c.if-row.false
    (subst (λ key. Updates four_cmp c.args.sids c.insert.new.self key true) c.sid_key.ensures c.in-Ok.ensures.updates)
