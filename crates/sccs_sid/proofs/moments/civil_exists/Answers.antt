use Rattle.sccs_sid.proofs.Hundred.{civil_shows}
use Rattle.sccs_sid.proofs.moments.civil_exists.Goals as goal

pub returns : goal.returns
returns c = civil_shows
