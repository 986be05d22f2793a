use Rattle.sccs_grammar.proofs.FileFaults.{file_refused}
use Rattle.sccs_grammar.proofs.file_refusals.files_are_refused.Goals as goal

pub returns : goal.returns
returns g c = file_refused c
