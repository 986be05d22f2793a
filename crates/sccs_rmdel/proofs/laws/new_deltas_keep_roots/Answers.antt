use Rattle.sccs_rmdel.proofs.Roots.{first_rooted, last_live, rooted_in_turn}
use Rattle.sccs_rmdel.proofs.laws.new_deltas_keep_roots.Goals as goal

pub returns : goal.returns
returns c = record {
  first = λ records table only. first_rooted records table only;
  rooted = λ header on ds rooted live. rooted_in_turn header on ds rooted live;
  last = λ header on ds live. last_live header on ds live;
}
