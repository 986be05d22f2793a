use Rattle.std.proofs.Common.{◌∙◌, ap}
use Rattle.sccs_trunks.specs.Cells.{cells_of}
use Rattle.sccs_trunks.specs.Runs.{head_laid, run_lines}
use Rattle.sccs_trunks.proofs.RunLines.{all_by_runs}
use Rattle.sccs_trunks.proofs.runs.trunk_runs.Goals as goal

pub returns : goal.returns
returns c =
    all_by_runs c.args.revisions.now c.in-Some.others.now c.in-Some.head.now (run_lines c.in_ok-runs.runs.items)
    (cells_of c.in_ok-pieces.pieces.items)
    c.in-Some.ensures.cases.0 c.in_ok-pieces.ensures
    (c.in_ok-runs.ensures ∙ (ap (λ l. head_laid (cells_of l) c.items.result.now) c.as_slice.ensures.value
    ∙ ap (λ l. head_laid (cells_of c.in_ok-pieces.pieces.items) l) c.items.ensures))
