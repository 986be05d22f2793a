use Rattle.std.proofs.Common.{ℕ, List, Option, sym, ap, ◌∙◌}
use Rattle.std.specs.List.{position}
use Rattle.sccs_history.specs.declared.headers.Flag.{Flag}
use Rattle.sccs_rules.proofs.FlagPlaces.{is_of, place_none, removed_at, removed_none}
use Rattle.sccs_rules.proofs.flag_changes.without_flag.Goals as goal

pub returns-in-Some : goal.returns-in-Some
returns-in-Some c =
    let place : List Flag → Option ℕ = λ xs. position (is_of c.args.letter) xs in
    c.remove.ensures ∙ sym (removed_at c.args.letter c.args.flags c.in-Some.place (ap place (sym c.items.ensures)
    ∙ (sym c.place_of.ensures ∙ c.in-Some.is)))

pub returns-in_default : goal.returns-in_default
returns-in_default c =
    let place : List Flag → Option ℕ = λ xs. position (is_of c.args.letter) xs in
    sym (removed_none c.args.letter c.args.flags (ap place (sym c.items.ensures) ∙ (sym c.place_of.ensures
    ∙ place_none c.place_of.result c.in_default.not-Some)))
