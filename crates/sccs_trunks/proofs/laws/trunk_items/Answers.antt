use Rattle.sccs_trunks.proofs.ItemWalks.{items_are}
use Rattle.sccs_trunks.proofs.TrunkValid.{trunk_items_are}
use Rattle.sccs_trunks.proofs.laws.trunk_items.Goals as goal

pub returns : goal.returns
returns c = record {
  lines = λ live lines are single some. (items_are live lines are single some).lines_are;
  rules = λ live lines are single some. (items_are live lines are single some).goes;
  trunk = λ revisions description head scripts same. let items = trunk_items_are revisions head scripts same in
      (items.lines_are, items.goes);
}
