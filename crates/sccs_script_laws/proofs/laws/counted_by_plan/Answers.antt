use Rattle.sccs_script_laws.proofs.Plants.{weave_counted}
use Rattle.sccs_script_laws.proofs.laws.counted_by_plan.Goals as goal

pub returns : goal.returns
returns c = record {
  inserted = λ set n orders lines below. (weave_counted n set orders lines below).inserted_is;
  deleted = λ set n orders lines below. (weave_counted n set orders lines below).deleted_is;
  unchanged = λ set n orders lines below apart. (weave_counted n set orders lines below).unchanged_is apart;
}
