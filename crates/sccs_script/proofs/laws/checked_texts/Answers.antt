use Rattle.sccs_script.proofs.ScriptLines.{have_lines}
use Rattle.sccs_script.proofs.laws.checked_texts.Goals as goal

pub returns : goal.returns
returns c = have_lines
