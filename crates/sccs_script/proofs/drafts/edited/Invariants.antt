use Rattle.std.proofs.Common.{◌≡◌, drop}
use Rattle.sccs_script.specs.Drafts.{draft_base, edited_draft}
use Rattle.sccs_script.proofs.drafts.edited.Given as goal

-- the rest of the orders makes of the text what all make of the base
abbrev pub invariant-loop-order : goal.invariant-loop-order
invariant-loop-order l = edited_draft (drop l.order-index l.orders) l.tree ≡ edited_draft l.orders (draft_base l.lines)
