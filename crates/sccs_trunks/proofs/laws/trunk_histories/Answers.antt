use Rattle.sccs_trunks.specs.Trunks.{trunk_lines}
use Rattle.sccs_trunks.proofs.TrunkValid.{rooted_trunk, valid_trunk}
use Rattle.sccs_trunks.proofs.laws.trunk_histories.Goals as goal

pub returns : goal.returns
returns c = record {
  valid = λ revisions description head scripts is. valid_trunk revisions description head scripts is;
  rooted = λ revisions description head scripts. rooted_trunk revisions description (trunk_lines head scripts);
}
