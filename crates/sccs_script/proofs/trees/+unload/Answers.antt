use Rattle.std.proofs.Common.{◌≡◌, ◌++◌, sym, ap, ◌∙◌, rules}
use Rattle.sccs_script.specs.Drafts.{expand, unstacked}
use Rattle.sccs_script.specs.Trees.{tree_lines}
use Rattle.sccs_script.specs.declared.trees.Fork.{Fork}
use Rattle.sccs_script.proofs.TreeLaws.{on_done, unloaded}
use Rattle.sccs_script.proofs.trees.+unload.Goals as goal

pub returns-in_ok-push-in-Fork-clause-ok : goal.returns-in_ok-push-in-Fork-clause-ok
returns-in_ok-push-in-Fork-clause-ok t c =
    let f : Fork = c.into_inner-left.result in
    let opened : c.into_inner-left.result ≡ c.in-Fork.fork.value = search rules in
    on_done c.unload-in-Fork.result
    (λ last.
    unloaded f.left f.right f.piece c.args.stack.now.items c.unload.new.stack.items c.push.new.self.items
    c.unload-in-Fork.new.stack.items c.in_ok-unload-in-Fork.ensures.ok c.in_ok-push-in-Fork.ensures.items last
    ∙ ap (λ l. l ++ unstacked c.args.stack.now.items) (ap (λ (g : Fork). g.left ++ (expand g.piece ++ g.right)) opened
    ∙ (sym (ap tree_lines c.in-Fork.is) ∙ c.tree.view_is)))
    c.unload-in-Fork.ensures.ok
