use Rattle.sccs_intents.proofs.IntentTexts.{text_again, text_read, text_spelled}
use Rattle.sccs_intents.proofs.laws.intents_are_read_again.Goals as goal

pub returns-clause-written : goal.returns-clause-written
returns-clause-written c = text_again

pub returns-clause-read : goal.returns-clause-read
returns-clause-read c = text_read

pub returns-clause-spelled : goal.returns-clause-spelled
returns-clause-spelled c = text_spelled
