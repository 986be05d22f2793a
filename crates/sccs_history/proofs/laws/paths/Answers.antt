use Rattle.sccs_history.proofs.Paths.{path_both}
use Rattle.sccs_history.proofs.laws.paths.Goals as goal

pub returns : goal.returns
returns c = λ records target n falls back. path_both records 65536 falls back target n
