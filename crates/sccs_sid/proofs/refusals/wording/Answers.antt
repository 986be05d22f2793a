use Rattle.std.proofs.Common.{◌++◌, List, ℕ, ap, sym, ◌∙◌}
use Rattle.std.specs.Prelude.{codes}
use Rattle.std.proofs.lemmas.List.{append-nil}
use Rattle.sccs_sid.specs.Refusal.{reason, sums_text}
use Rattle.sccs_sid.proofs.refusals.wording.Goals as goal

pub returns-in-BadSum : goal.returns-in-BadSum
returns-in-BadSum c =
    ap (λ (sums : List ℕ). codes "bad sum: stored " ++ sums)
    (append-nil (sums_text c.in-BadSum.stored c.in-BadSum.computed)) ∙ sym (ap reason c.in-BadSum.is)

pub returns-in-BadText : goal.returns-in-BadText
returns-in-BadText c = sym (ap reason c.in-BadText.is)
