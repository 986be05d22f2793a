use Rattle.std.proofs.Common.{arith}
use Rattle.sccs_table.proofs.ZeroLaws.{zero_end}
use Rattle.sccs_table.proofs.line_readers.filled_by.Goals as goal

pub returns-in-Err-clause-rest : goal.returns-in-Err-clause-rest
returns-in-Err-clause-rest c = λ piece long so. zero_end piece long
