use Rattle.std.proofs.Common.{ap, refl}
use Rattle.sccs_writers.specs.Puts.{Writer}
use Rattle.sccs_pfile.proofs.Texts.{whole_puts}
use Rattle.sccs_summary.specs.Summaries.{choice_of, summary_text}
use Rattle.sccs_summary.proofs.files.append_summary.Goals as goal

pub returns-clause-file : goal.returns-clause-file
returns-clause-file g c =
    (whole_puts c.args.to.now (summary_text (choice_of c.args.choices) c.args.records.now)
    (summary_text (choice_of c.args.choices) c.args.records.now) c.new-writer.result c.put_entries.new.to
    c.flush.new.self _ _ _ _ _ _ c.put_entries.result c.flush.result c.in_default.field-0
    (ap (λ (w : Writer). w.name) c.new-writer.ensures) (ap (λ (w : Writer). w.held) c.new-writer.ensures) refl
    c.in_default.is c.put_entries.ensures c.flush.ensures.puts c.flush.ensures.empty).0

pub returns-clause-only : goal.returns-clause-only
returns-clause-only g c =
    (whole_puts c.args.to.now (summary_text (choice_of c.args.choices) c.args.records.now)
    (summary_text (choice_of c.args.choices) c.args.records.now) c.new-writer.result c.put_entries.new.to
    c.flush.new.self _ _ _ _ _ _ c.put_entries.result c.flush.result c.in_default.field-0
    (ap (λ (w : Writer). w.name) c.new-writer.ensures) (ap (λ (w : Writer). w.held) c.new-writer.ensures) refl
    c.in_default.is c.put_entries.ensures c.flush.ensures.puts c.flush.ensures.empty).1
