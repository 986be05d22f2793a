use Rattle.std.proofs.Common.{true, subst}
use Rattle.std.specs.BTreeSet.{Updates}
use Rattle.sccs_pfile.proofs.LiveLaws.{none_more_live, one_more_live}
use Rattle.sccs_pfile.proofs.live_sets.with_record.Goals as goal
use Rattle.sccs_sid.specs.FourNumbers.{four_cmp}

pub returns-then-delta : goal.returns-then-delta
returns-then-delta c = λ before has. none_more_live c.args.found before c.args.delta.now c.if-delta.true has

pub returns : goal.returns
returns c = λ before has.
    one_more_live c.args.found.sids c.insert.new.self before c.args.delta.now c.if-delta.false
    (subst (λ key. Updates four_cmp c.args.found.sids c.insert.new.self key true) c.sid_key.ensures
    c.in_ok-insert.ensures.updates) has
