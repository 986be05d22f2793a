use Rattle.std.proofs.Common.{append-nil}
use Rattle.sccs_writers.specs.HeaderBytes.{header_bytes}
use Rattle.sccs_writers.proofs.PutLaws.{puts_then, same_text}
use Rattle.sccs_writers.proofs.header_writers.put_whole.Goals as goal

pub returns-clause-puts : goal.returns-clause-puts
returns-clause-puts g c = same_text (append-nil (header_bytes c.args.header.now))
    (puts_then c.in_ok-put_header.field-0 c.in_ok-put_header.was c.put_header.ensures c.flush.ensures.puts)
