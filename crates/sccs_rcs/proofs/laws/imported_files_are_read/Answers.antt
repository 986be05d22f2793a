use Rattle.sccs_rcs.proofs.ImportedFiles.{import_again, import_version, rooted_import}
use Rattle.sccs_rcs.proofs.laws.imported_files_are_read.Goals as goal

pub returns : goal.returns
returns c = record { reads = import_again; rooted = rooted_import; versions = import_version }
