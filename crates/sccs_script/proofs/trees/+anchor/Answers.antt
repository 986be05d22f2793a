use Rattle.std.proofs.Common.{sym, ap, ◌∙◌}
use Rattle.sccs_script.specs.Drafts.{anchor_from, expand}
use Rattle.sccs_script.specs.Trees.{tree_lines}
use Rattle.sccs_script.specs.declared.trees.Fork.{Fork}
use Rattle.sccs_script.proofs.TreeLaws.{anchor_right}
use Rattle.sccs_script.proofs.trees.+anchor.Goals as goal

pub returns-in-Fork : goal.returns-in-Fork
returns-in-Fork t c =
    let f : Fork = c.in-Fork.fork.value in
    c.anchor.ensures
    ∙ (ap (λ (g : Fork). anchor_from c.end.result g.right) c.deref.ensures
    ∙ (anchor_right c.args.before c.end.result f.left (expand f.piece) f.right (λ n. c.end.ensures n
    ∙ ap (λ (g : Fork). anchor_from n (expand g.piece)) c.deref-in-Fork.ensures)
    ∙ (ap (anchor_from c.args.before) (sym (ap tree_lines c.in-Fork.is) ∙ c.tree.view_is))))
