use Rattle.std.proofs.Common.{◌<◌, ◌∙◌, ap, length, refl, subst, sym}
use Rattle.std.specs.List.{AllByRecursion}
use Rattle.sccs_trunks.specs.TrunkHistories.{IsRevision}
use Rattle.sccs_trunks.specs.Runs.{run_lines}
use Rattle.sccs_rcs.proofs.HeaderLaws.{header_is, header_spelled, revisions_fit, table_is}
use Rattle.sccs_rcs.proofs.headers.trunk_header.Goals as goal

pub records_of-requires-clause-few : goal.records_of-requires-clause-few
records_of-requires-clause-few c = subst (λ rs. length rs < 65536) (sym c.items-revisions.ensures)
    (revisions_fit c.args.rcs.now c.requires.read).0

pub records_of-requires-clause-each : goal.records_of-requires-clause-each
records_of-requires-clause-each c = subst (AllByRecursion IsRevision) (sym c.items-revisions.ensures)
    (revisions_fit c.args.rcs.now c.requires.read).1

pub records_of-requires-clause-counts : goal.records_of-requires-clause-counts
records_of-requires-clause-counts c = ap length c.as_slice.ensures.value ∙ c.in_ok-counts.ensures.count

pub returns-clause-value : goal.returns-clause-value
returns-clause-value c =
    header_is c.args.rcs.now c.in_ok-records.records c.empty.result c.empty-2.result c.in_ok-description.description
    (table_is c.args.rcs.now (run_lines c.args.runs.now) c.items-revisions.result.now c.in_ok-counts.counts.items
    c.as_slice.result.now (length c.items-revisions.result.now) c.in_ok-records.records
    c.requires.lines c.items-revisions.ensures refl c.as_slice.ensures.value c.in_ok-counts.ensures.count
    c.in_ok-counts.ensures.each c.in_ok-records.ensures.value)
    c.empty.ensures c.empty-2.ensures (c.in_ok-description.ensures.value ∙ c.items.ensures)

pub returns-clause-spelled : goal.returns-clause-spelled
returns-clause-spelled c =
    header_spelled c.in_ok-records.records c.empty.result c.empty-2.result c.in_ok-description.description
    c.in_ok-records.ensures.spelled c.empty.ensures c.empty-2.ensures c.in_ok-description.ensures.lines
