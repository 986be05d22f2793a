use Rattle.std.proofs.Common.{ap}
use Rattle.sccs_writers.specs.Puts.{Writer}
use Rattle.sccs_pfile.specs.Written.{edits_text}
use Rattle.sccs_pfile.proofs.Texts.{whole_puts}
use Rattle.sccs_pfile.proofs.writing.write_edits.Goals as goal

pub returns-clause-file : goal.returns-clause-file
returns-clause-file g c =
    (whole_puts c.args.name.now (edits_text c.args.edits.now) (edits_text c.items.result.now) c.new-out.result
    c.put_edits.new.out c.flush.new.self _ _ _ _ _ _ c.put_edits.result c.flush.result c.in_default.field-0
    (ap (λ (w : Writer). w.name) c.new-out.ensures) (ap (λ (w : Writer). w.held) c.new-out.ensures)
    (ap edits_text c.items.ensures) c.in_default.is c.put_edits.ensures c.flush.ensures.puts
    c.flush.ensures.empty).0

pub returns-clause-only : goal.returns-clause-only
returns-clause-only g c =
    (whole_puts c.args.name.now (edits_text c.args.edits.now) (edits_text c.items.result.now) c.new-out.result
    c.put_edits.new.out c.flush.new.self _ _ _ _ _ _ c.put_edits.result c.flush.result c.in_default.field-0
    (ap (λ (w : Writer). w.name) c.new-out.ensures) (ap (λ (w : Writer). w.held) c.new-out.ensures)
    (ap edits_text c.items.ensures) c.in_default.is c.put_edits.ensures c.flush.ensures.puts
    c.flush.ensures.empty).1
