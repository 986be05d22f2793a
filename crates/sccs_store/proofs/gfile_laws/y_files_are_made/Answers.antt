use Rattle.sccs_store.proofs.MadeWhole.{made}
use Rattle.sccs_store.proofs.gfile_laws.y_files_are_made.Goals as goal

pub returns : goal.returns
returns c = made
