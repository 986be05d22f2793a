use Rattle.sccs_grammar_laws.proofs.FileShape.{file_begins, file_shape}
use Rattle.sccs_grammar_laws.proofs.laws.files_begin_with_headers.Goals as goal

pub returns-clause-read : goal.returns-clause-read
returns-clause-read c = file_shape

pub returns-clause-made : goal.returns-clause-made
returns-clause-made c = file_begins
