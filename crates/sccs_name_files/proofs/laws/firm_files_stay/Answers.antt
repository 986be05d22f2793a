use Rattle.sccs_name_files.proofs.Owned.{firm_stays, firm_synced, firm_renamed, firm_moved, firm_settled}
use Rattle.sccs_name_files.proofs.Touched.{firm_touched}
use Rattle.sccs_name_files.proofs.laws.firm_files_stay.Goals as goal

pub returns-clause-stays : goal.returns-clause-stays
returns-clause-stays c = firm_stays

pub returns-clause-synced : goal.returns-clause-synced
returns-clause-synced c = firm_synced

pub returns-clause-renamed : goal.returns-clause-renamed
returns-clause-renamed c = firm_renamed

pub returns-clause-others : goal.returns-clause-others
returns-clause-others c = firm_moved

pub returns-clause-settled : goal.returns-clause-settled
returns-clause-settled c = firm_settled

pub returns-clause-touched : goal.returns-clause-touched
returns-clause-touched c = firm_touched
