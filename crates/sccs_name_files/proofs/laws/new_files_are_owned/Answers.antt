use Rattle.sccs_name_files.proofs.Owned.{own_created, own_settled}
use Rattle.sccs_name_files.proofs.laws.new_files_are_owned.Goals as goal

pub returns-clause-created : goal.returns-clause-created
returns-clause-created c = own_created

pub returns-clause-settled : goal.returns-clause-settled
returns-clause-settled c = own_settled
