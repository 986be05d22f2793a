use Rattle.sccs_intents.proofs.IntentTexts.{thousand_short}
use Rattle.sccs_intents.proofs.laws.thousand_entries_fit.Goals as goal

pub returns : goal.returns
returns c = thousand_short
