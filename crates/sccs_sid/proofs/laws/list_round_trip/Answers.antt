use Rattle.sccs_sid.proofs.ListTexts.{list_text_read}
use Rattle.sccs_sid.proofs.laws.list_round_trip.Goals as goal

pub returns : goal.returns
returns c = list_text_read
