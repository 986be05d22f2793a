use Rattle.std.proofs.Common.{◌+◌, ◌-◌, ◌++◌, sym, subst, ap, ◌∙◌, append_assoc}
use Rattle.sccs_script.specs.Drafts.{expand, IsPiece, missing, span}
use Rattle.sccs_script.proofs.PlanLaws.{missing_kept}
use Rattle.sccs_script.proofs.plans.add_missing.Goals as goal

pub returns-in_ok-add_numbers-in-Kept : goal.returns-in_ok-add_numbers-in-Kept
returns-in_ok-add_numbers-in-Kept c = λ rest bound.
    let fits = subst IsPiece c.in-Kept.is c.requires.piece in
    ap (λ l. l ++ missing (c.in-Kept.last + 1) rest bound) c.in_ok-add_numbers-in-Kept.ensures
    ∙ (append_assoc c.args.numbers.now (span c.args.next (c.in-Kept.first - c.args.next))
    (missing (c.in-Kept.last + 1) rest bound)
    ∙ ap (λ l. c.args.numbers.now ++ l) (sym (missing_kept c.args.next c.in-Kept.first c.in-Kept.last rest bound fits.1)
    ∙ ap (λ p. missing c.args.next (expand p ++ rest) bound) (sym c.in-Kept.is)))
