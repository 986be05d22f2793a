use Rattle.sccs_rmdel.proofs.DroppedItems.{lines_dropped, rules_dropped}
use Rattle.sccs_rmdel.proofs.DroppedSets.{selects_same}
use Rattle.sccs_rmdel.proofs.laws.removed_items.Goals as goal

pub returns : goal.returns
returns c = record {
  lines = λ n items. lines_dropped n items;
  selects = λ set n lines none. selects_same set n lines none;
  rules = λ live n items goes. rules_dropped live n items goes;
}
