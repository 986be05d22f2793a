use Rattle.sccs_delta.proofs.NullFits.{rules_kept, spelling_kept}
use Rattle.sccs_delta.proofs.laws.null_deltas_fit.Goals as goal

pub returns : goal.returns
returns c = record { rules = rules_kept; spelled = spelling_kept }
