use Rattle.sccs_name_files.proofs.Called.{create_touched, create_owned, remove_touched}
use Rattle.sccs_name_files.proofs.laws.made_and_removed_files.Goals as goal

pub returns-clause-create : goal.returns-clause-create
returns-clause-create c = create_touched

pub returns-clause-owned : goal.returns-clause-owned
returns-clause-owned c = create_owned

pub returns-clause-remove : goal.returns-clause-remove
returns-clause-remove c = λ n old new before after r. remove_touched n old new before after r
