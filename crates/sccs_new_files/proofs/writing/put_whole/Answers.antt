use Rattle.std.proofs.Common.{append-nil}
use Rattle.sccs_new_files.specs.Writing.{body_bytes}
use Rattle.sccs_writers.proofs.PutLaws.{puts_then, same_text}
use Rattle.sccs_new_files.proofs.writing.put_whole.Goals as goal

pub returns-clause-puts : goal.returns-clause-puts
returns-clause-puts g c = same_text (append-nil (body_bytes (g.B.NewBody.items c.args.body.now)))
    (puts_then c.in_ok-put.field-0 c.in_ok-put.was c.put.ensures c.flush.ensures.puts)
