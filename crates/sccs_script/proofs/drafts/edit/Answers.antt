use Rattle.std.proofs.Common.{◌≡◌, ◌-◌, IfOk, sym, subst}
use Rattle.sccs_script_laws.specs.declared.scripts.Order.{Order}
use Rattle.sccs_script.specs.Drafts.{edit}
use Rattle.sccs_script.proofs.TreeLaws.{put_for}
use Rattle.sccs_script.proofs.drafts.edit.Goals as goal

pub returns-in_ok-halves-in-Change : goal.returns-in_ok-halves-in-Change
returns-in_ok-halves-in-Change c =
    let order : Order = c.args.order.now in
    let before = order.first - 1 in
    subst (λ k. IfOk c.put_between-in-Change.result (λ t. t ≡ edit k order.first order.last order.lines c.args.tree))
    (sym c.in-Change.is)
    (subst (λ l. IfOk c.put_between-in-Change.result (λ t. t ≡ l))
    (put_for before (order.last - before) order.lines c.args.tree c.in_ok-halves-in-Change.halves.front
    c.in_ok-halves-in-Change.halves.back c.in_ok-halves-in-Change.ensures.front
    c.in_ok-halves-in-Change.ensures.back)
    c.put_between-in-Change.ensures)
