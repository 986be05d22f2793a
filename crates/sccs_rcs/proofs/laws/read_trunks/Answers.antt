use Rattle.sccs_rcs.proofs.ReadTrunks.{are_scripts, is_trunk}
use Rattle.sccs_rcs.proofs.laws.read_trunks.Goals as goal

pub returns : goal.returns
returns c = record { trunk = is_trunk; scripts = are_scripts }
