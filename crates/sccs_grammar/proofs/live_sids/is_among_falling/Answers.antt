use Rattle.std.proofs.Common.{◌<◌, sym, subst}
use Rattle.sccs_grammar.proofs.TableSets.{lives_below}
use Rattle.sccs_grammar.proofs.live_sids.is_among_falling.Goals as goal

pub returns-then-sid_number-last : goal.returns-then-sid_number-last
returns-then-sid_number-last c =
    sym (lives_below c.args.last c.args.records.now c.args.sid.now c.requires
    (subst (λ number. number < c.args.last) c.sid_number.ensures c.if-sid_number-last.true))
