use Rattle.std.proofs.Common.{◌∙◌, ap}
use Rattle.sccs_trunks.specs.Counts.{counts_from}
use Rattle.sccs_trunks.specs.Runs.{run_lines}
use Rattle.sccs_trunks.proofs.CountLaws.{counts_all, counts_are}
use Rattle.sccs_trunks.proofs.counts.line_counts.Goals as goal

pub returns-clause-count : goal.returns-clause-count
returns-clause-count c =
    counts_all (run_lines c.args.runs.now) c.args.serials c.in_ok-tallies.tallies.items c.in_ok-counts.counts.items
    (c.in_ok-counts.ensures ∙ ap (λ l. counts_from 0 l) c.as_slice.ensures.value) c.in_ok-tallies.ensures

pub returns-clause-each : goal.returns-clause-each
returns-clause-each c =
    counts_are (run_lines c.args.runs.now) c.args.serials c.in_ok-tallies.tallies.items c.in_ok-counts.counts.items
    (c.in_ok-counts.ensures ∙ ap (λ l. counts_from 0 l) c.as_slice.ensures.value) c.in_ok-tallies.ensures
