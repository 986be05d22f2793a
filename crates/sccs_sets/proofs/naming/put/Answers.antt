use Rattle.std.proofs.Common.{ℕ, List, Option, not, sym, ap, ◌∙◌}
use Rattle.std.specs.List.{position}
use Rattle.sccs_sets.specs.Naming.{not_after}
use Rattle.sccs_sets.specs.declared.naming.Named.{Named}
use Rattle.sccs_sets.proofs.Putting.{put_at, put_end}
use Rattle.sccs_sets.proofs.naming.put.Goals as goal

pub returns-in_ok-insert-in-Some : goal.returns-in_ok-insert-in-Some
returns-in_ok-insert-in-Some c =
    let place : List Named → Option ℕ = λ xs. position (λ a. not (not_after a.sid c.args.named.sid)) xs in
    c.in_ok-insert-in-Some.ensures.items
    ∙ sym (put_at c.args.named c.args.found.now.items c.in-Some.place (ap place (sym c.deref.ensures.value)
    ∙ (sym c.place_after.ensures ∙ c.in-Some.is)))

pub returns-in_ok-push-in-None : goal.returns-in_ok-push-in-None
returns-in_ok-push-in-None c =
    let place : List Named → Option ℕ = λ xs. position (λ a. not (not_after a.sid c.args.named.sid)) xs in
    c.in_ok-push-in-None.ensures.items
    ∙ sym (put_end c.args.named c.args.found.now.items (ap place (sym c.deref.ensures.value)
    ∙ (sym c.place_after.ensures ∙ c.in-None.is)))
