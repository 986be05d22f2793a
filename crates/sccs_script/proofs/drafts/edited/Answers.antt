use Rattle.std.proofs.Common.{◌≡◌, ◌++◌, List, sym, ap, ◌∙◌, arith, append-nil}
use Rattle.std.proofs.lemmas.List.{at_drop_all}
use Rattle.sccs_script_laws.specs.declared.scripts.Order.{Order}
use Rattle.sccs_script.specs.Drafts.{draft_base, edited_draft, DraftLine, unstacked}
use Rattle.sccs_script.proofs.PlanLaws.{pieces_within}
use Rattle.sccs_script.proofs.drafts.edited.Goals as goal

pub returns-clause-within : goal.returns-clause-within
returns-clause-within c =
    let orders : List Order = c.args.orders.now in
    let tree : List DraftLine = c.loop-order.tree in
    let all : tree ≡ edited_draft orders (draft_base c.args.lines) =
    sym (at_drop_all (λ l. edited_draft l tree) orders c.loop-order.order-index
    (omega (arith, c.loop-order-test.false))) ∙ c.loop-order.invariant in
    pieces_within c.args.lines orders c.unload.new.stack.items c.in_ok-unload.ensures.pieces
    (c.in_ok-unload.ensures.ok ∙ (ap (λ ps. tree ++ unstacked ps) c.new-pieces.ensures.items ∙ (append-nil tree ∙ all)))
