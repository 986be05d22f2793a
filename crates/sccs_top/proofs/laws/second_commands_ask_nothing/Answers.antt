use Rattle.sccs_top.proofs.NextGets.{words_ask}
use Rattle.sccs_top.proofs.laws.second_commands_ask_nothing.Goals as goal

pub returns : goal.returns
returns c = words_ask
