use Rattle.std.proofs.Common.{◌∷◌, get_or, refl}
use Rattle.std.specs.Prelude.{decimal}
use Rattle.sccs_prs.proofs.GiveLists.{item_fails}
use Rattle.sccs_prs.proofs.lists.give_more.Goals as goal

pub returns-in-Err : goal.returns-in-Err
returns-in-Err g c =
    item_fails (λ n. 32 ∷ decimal n) c.args.serials.now c.args.serials.now refl c.loop-serial.serial-index
    (get_or c.args.serials.now c.loop-serial.serial-index 0) 0 c.loop-serial-test.true refl _ _ _ _ _ _
    c.give_behind_blank.result c.in-Err.fault c.in-Err.fault c.in-Err.is c.loop-serial.invariant
    c.give_behind_blank.ensures
