use Rattle.std.proofs.lemmas.Result.{err_from_is_err_and}
use Rattle.std.proofs.Common.{ℕ, List, None, Some, ap, ◌∙◌}
use Rattle.sccs_disk.specs.Told.{seen}
use Rattle.sccs_history.specs.Applied.{applied}
use Rattle.sccs_table.specs.ReaderState.{bytes_in}
use Rattle.sccs_keywords.specs.Forms.{bare_form}
use Rattle.sccs_prs.proofs.LinesLaws.{with_set}
use Rattle.sccs_soak.proofs.SummaryLaws.{fault_counts, version_counted}
use Rattle.sccs_soak.proofs.summaries.version_lines.Goals as goal

pub returns-clause-counts : goal.returns-clause-counts
returns-clause-counts g c = λ bytes items is.
    let records = c.args.front.now.header.records in
    version_counted c.args.serial records items c.in-Ok.set bare_form c.in_ok-shown.shown (c.in-Ok.ensures.set
    ∙ ap (λ (l : List ℕ). applied (record { target = c.args.serial; include = l; exclude = l; cutoff = None })
    records) c.empty-none.ensures)
    (c.in_ok-shown.ensures.found bytes items (with_set (bytes_in (seen (g.D.Disk.told c.args.disk.now)) c.args.name.now)
    c.args.front.now bytes items c.in-Ok.set (c.in-Ok.ensures.no_zero c.requires.table) is))

pub returns-in_err-shown-clause-counts : goal.returns-in_err-shown-clause-counts
returns-in_err-shown-clause-counts g c =
    let p = err_from_is_err_and c.from_residual.result c.from_residual.ensures.1 in
    rw (p.1, p.2) (λ bytes items is.
    fault_counts (Some c.args.serial) c.args.front.now.header.records items _ c.in_err-shown.field-0.0 _ _
    (c.in_err-shown.ensures.prints bytes items
    (with_set (bytes_in (seen (g.D.Disk.told c.args.disk.now)) c.args.name.now) c.args.front.now bytes items
    c.in-Ok.set (c.in-Ok.ensures.no_zero c.requires.table) is)))
