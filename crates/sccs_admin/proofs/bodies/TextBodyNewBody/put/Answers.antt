use Rattle.sccs_base.specs.Cut.{text_of}
use Rattle.sccs_admin.specs.NewFiles.{new_items}
use Rattle.sccs_new_files.specs.Writing.{body_bytes}
use Rattle.sccs_admin.proofs.BodyLaws.{body_parts}
use Rattle.sccs_writers.proofs.PutLaws.{puts_left, puts_then, same_text}
use Rattle.sccs_admin.proofs.bodies.TextBodyNewBody.put.Goals as goal

pub returns-in_err-put_text : goal.returns-in_err-put_text
returns-in_err-put_text g c = puts_left (body_bytes (new_items (text_of c.args.self.now.text.now)))
    c.in_err-put_text.field-0.0 c.in_err-put_text.was c.from_residual-in_err-put_text.ensures.1
    (puts_then c.in_ok-put.field-0 c.in_ok-put.was c.put.ensures c.put_text.ensures)

pub returns-in_err-put_text-2 : goal.returns-in_err-put_text-2
returns-in_err-put_text-2 g c =
    puts_left (body_bytes (new_items (text_of c.args.self.now.text.now))) c.in_err-put_text-2.field-0.0
    c.in_err-put_text-2.was c.from_residual-in_err-put_text-2.ensures.1
    (puts_then c.in_ok-put.field-0 c.in_ok-put.was c.put.ensures
    (puts_then c.in_ok-put_text.field-0 c.in_ok-put_text.was c.put_text.ensures c.put_text-2.ensures))

pub returns : goal.returns
returns g c =
    same_text (body_parts c.args.self.now.text.now c.lacking.result.now c.lacking.ensures)
    (puts_then c.in_ok-put.field-0 c.in_ok-put.was c.put.ensures
    (puts_then c.in_ok-put_text.field-0 c.in_ok-put_text.was c.put_text.ensures
    (puts_then c.in_ok-put_text-2.field-0 c.in_ok-put_text-2.was c.put_text-2.ensures c.put-2.ensures)))
