use Rattle.std.proofs.Common.{ℕ, List, Option, sym, ap, ◌∙◌}
use Rattle.std.specs.List.{position}
use Rattle.sccs_history.specs.declared.headers.Flag.{Flag}
use Rattle.sccs_rules.proofs.FlagPlaces.{is_of, set_at, set_last}
use Rattle.sccs_rules.proofs.flag_changes.put_flag.Goals as goal

pub returns-in-Some : goal.returns-in-Some
returns-in-Some c =
    let place : List Flag → Option ℕ = λ xs. position (is_of c.args.flag.letter) xs in
    c.replace.ensures ∙ sym (set_at c.args.flag c.args.flags c.in-Some.place (ap place (sym c.items.ensures)
    ∙ (sym c.place_of.ensures ∙ c.in-Some.is)))

pub returns-in_ok-push-in-None : goal.returns-in_ok-push-in-None
returns-in_ok-push-in-None c =
    let place : List Flag → Option ℕ = λ xs. position (is_of c.args.flag.letter) xs in
    c.in_ok-push-in-None.ensures.ok ∙ sym (set_last c.args.flag c.args.flags (ap place (sym c.items.ensures)
    ∙ (sym c.place_of.ensures ∙ c.in-None.is)))
