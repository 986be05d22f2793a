use Rattle.std.proofs.Common.{◌∙◌, ◌++◌, ap, refl, sym}
use Rattle.sccs_trunks.specs.Runs.{head_laid, run_lines}
use Rattle.sccs_trunks.proofs.RunLines.{rest_laid}
use Rattle.sccs_trunks.proofs.runs.runs_of.Goals as goal

pub returns : goal.returns
returns c =
    let none = c.in_default.ensures.none refl in
    c.in_ok-put_lines.ensures
    ∙ (ap (λ l. run_lines c.pieces.runs.items ++ l) (sym (rest_laid c.pieces.head.now))
    ∙ (ap (λ l. run_lines c.pieces.runs.items ++ head_laid l c.pieces.head.now) (sym none.0) ∙ c.pieces.invariant))
