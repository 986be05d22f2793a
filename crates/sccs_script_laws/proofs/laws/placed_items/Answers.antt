use Rattle.std.proofs.Common.{length}
use Rattle.sccs_history.specs.Body.{lines_of}
use Rattle.sccs_history.specs.Select.{select}
use Rattle.sccs_script_laws.specs.Plans.{plan}
use Rattle.sccs_script_laws.proofs.PlacedItems.{lines_placed, other_placed, select_placed}
use Rattle.sccs_script_laws.proofs.Rules.{rules_spliced}
use Rattle.sccs_script_laws.proofs.Spreads.{dropped_spliced}
use Rattle.sccs_script_laws.proofs.laws.placed_items.Goals as goal

pub returns : goal.returns
returns c = record {
  lines = λ items set orders n some high. lines_placed items set orders n some high;
  own = λ items set orders n some high. select_placed items set orders n some high;
  others = λ items other set orders n some high none. other_placed items set orders n some high other none;
  undone = λ items set orders n some high. dropped_spliced n set (plan orders (length (select set (lines_of items))))
      items some high;
  rules = λ live items set orders n high goes. rules_spliced live set n
      (plan orders (length (select set (lines_of items)))) items high goes;
}
