use Rattle.sccs_admin.proofs.NewFileLaws.{new_file_again, new_version}
use Rattle.sccs_admin.proofs.laws.new_files_are_read.Goals as goal

pub returns : goal.returns
returns c = record { reads = new_file_again; version = new_version }
