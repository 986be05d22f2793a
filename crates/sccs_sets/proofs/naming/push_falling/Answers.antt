use Rattle.std.proofs.Common.{List, reverse, sym, ap, ◌∙◌}
use Rattle.sccs_sets.specs.Naming.{comes_first}
use Rattle.sccs_sets.specs.declared.naming.Named.{Named}
use Rattle.sccs_sets.proofs.Falling.{pushed_falls}
use Rattle.sccs_sets.proofs.naming.push_falling.Goals as goal

pub returns : goal.returns
returns c = λ falls.
    pushed_falls c.args.found.now.items c.push.new.self.items c.args.named c.in_ok-push.ensures.items
    (ap (λ (l : List Named). comes_first (reverse l) c.args.named.sid) (sym c.deref.ensures.value)
    ∙ (sym c.comes_first.ensures ∙ c.if-not-comes_first.false))
