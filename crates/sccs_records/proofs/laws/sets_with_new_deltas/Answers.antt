use Rattle.sccs_records.proofs.SetLaws.{older_set, own_set, set_beneath}
use Rattle.sccs_records.proofs.laws.sets_with_new_deltas.Goals as goal

pub returns : goal.returns
returns c = record { others = older_set; own = own_set; beneath = set_beneath }
