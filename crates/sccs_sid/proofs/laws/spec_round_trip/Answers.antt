use Rattle.sccs_sid.proofs.SpecTexts.{spec_text_read}
use Rattle.sccs_sid.proofs.laws.spec_round_trip.Goals as goal

pub returns : goal.returns
returns c = spec_text_read
