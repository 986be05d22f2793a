use Rattle.std.proofs.lemmas.Result.{err_from_is_err_and}
use Rattle.std.proofs.Common.{ℕ, List, None, ap, subst, ◌∙◌}
use Rattle.sccs_disk.specs.Told.{seen}
use Rattle.sccs_history.specs.Applied.{applied}
use Rattle.sccs_table.specs.ReaderState.{bytes_in}
use Rattle.sccs_base.specs.Stream.{GivesOk}
use Rattle.sccs_prs.specs.Shown.{shown_file}
use Rattle.sccs_prs.proofs.LinesLaws.{live_text, prints_so, with_set}
use Rattle.sccs_prs.proofs.deltas.print_lines.Goals as goal

pub returns-clause-prints : goal.returns-clause-prints
returns-clause-prints g c = λ bytes items is.
    let records = c.args.file.front.now.header.records in
    subst (λ t. GivesOk (g.O.Sink.given c.args.out.now) (g.O.Sink.given c.print_text.new.out) t)
    (live_text (shown_file c.args.file items) c.args.delta.now c.in-Ok.set c.if-delta.false (c.in-Ok.ensures.set
    ∙ ap (λ (l : List ℕ). applied (record {
      target = c.args.delta.now.serial;
      include = l;
      exclude = l;
      cutoff =
          None;
    }) records) c.empty-none.ensures))
    (c.in_ok-print_text.ensures.prints bytes items
    (with_set (bytes_in (seen (g.D.Disk.told c.args.disk.now)) c.args.file.name.now) c.args.file.front.now bytes
    items c.in-Ok.set (c.in-Ok.ensures.no_zero c.requires.table) is))

pub returns-in_err-print_text-clause-prints : goal.returns-in_err-print_text-clause-prints
returns-in_err-print_text-clause-prints g c =
    let p = err_from_is_err_and c.from_residual.result c.from_residual.ensures.1 in
    rw (p.1, p.2) (λ bytes items is.
    let records = c.args.file.front.now.header.records in
    prints_so _ _ c.in_err-print_text.field-0.0 (g.O.Sink.given c.args.out.now) (g.O.Sink.given c.print_text.new.out)
    (live_text (shown_file c.args.file items) c.args.delta.now c.in-Ok.set c.if-delta.false (c.in-Ok.ensures.set
    ∙ ap (λ (l : List ℕ). applied (record {
      target = c.args.delta.now.serial;
      include = l;
      exclude = l;
      cutoff =
          None;
    }) records) c.empty-none.ensures))
    (c.in_err-print_text.ensures.prints bytes items
    (with_set (bytes_in (seen (g.D.Disk.told c.args.disk.now)) c.args.file.name.now) c.args.file.front.now bytes
    items c.in-Ok.set (c.in-Ok.ensures.no_zero c.requires.table) is)))
