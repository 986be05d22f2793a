use Rattle.std.proofs.Common.{◌≡◌, ◌-◌, ◌+◌, suc, length, subst, sym, ap, ◌∙◌, arith}
use Rattle.sccs_script.specs.Drafts.{expand, IsPiece}
use Rattle.sccs_script.proofs.PieceLaws.{run_length}
use Rattle.sccs_script.proofs.pieces.count.Goals as goal

pub returns-in-Kept : goal.returns-in-Kept
returns-in-Kept c =
    let fits = subst IsPiece c.in-Kept.is c.requires in
    let size : c.in-Kept.last - c.in-Kept.first + 1 ≡ suc c.in-Kept.last - c.in-Kept.first = omega (arith, fits.1) in
    size ∙ (sym (run_length c.in-Kept.first c.in-Kept.last) ∙ ap (λ p. length (expand p)) (sym c.in-Kept.is))
