use Rattle.sccs_script_laws.proofs.Selects.{select_other, select_woven}
use Rattle.sccs_script_laws.proofs.laws.woven_versions.Goals as goal

pub returns : goal.returns
returns c = record {
  own = λ set n orders lines below. select_woven n set orders lines below;
  others = λ other set n orders lines none. select_other n other set orders lines none;
}
