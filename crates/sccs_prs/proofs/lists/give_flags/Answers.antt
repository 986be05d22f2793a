use Rattle.std.proofs.Common.{refl}
use Rattle.sccs_tokens.specs.Written.{ended}
use Rattle.sccs_prs.specs.Values.{printed_flag}
use Rattle.sccs_prs.proofs.GiveLists.{item_fails}
use Rattle.sccs_prs.proofs.lists.give_flags.Goals as goal

pub returns-in-Err : goal.returns-in-Err
returns-in-Err g c =
    item_fails (λ f. ended (printed_flag f)) c.args.flags.now c.args.flags.now refl c.loop-flag.flag-index
    c.flag-item.result c.flag-item.result c.loop-flag-test.true c.flag-item.is _ _ _ _ _ _ c.give_flag.result
    c.in-Err.fault c.in-Err.fault c.in-Err.is c.loop-flag.invariant c.give_flag.ensures
