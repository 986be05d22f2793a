use Rattle.std.proofs.Common.{List, ap, sym, ◌∙◌}
use Rattle.sccs_history.specs.declared.headers.Record.{Record}
use Rattle.sccs_soak.specs.Summaries.{newest_trunk}
use Rattle.sccs_soak.proofs.SummaryLaws.{trunk_lives}
use Rattle.sccs_soak.proofs.summaries.trunk_lines.Goals as goal

pub version_lines-requires-clause-lives : goal.version_lines-requires-clause-lives
version_lines-requires-clause-lives g c =
    trunk_lives c.args.front.now.header.records c.in-Some.serial (ap (λ (l : List Record). newest_trunk l)
    (sym c.items.ensures) ∙ sym c.in-Some.ensures)
