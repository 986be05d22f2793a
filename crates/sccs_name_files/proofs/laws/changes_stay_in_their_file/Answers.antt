use Rattle.sccs_name_files.proofs.Images.{image_changed, image_but}
use Rattle.sccs_name_files.proofs.laws.changes_stay_in_their_file.Goals as goal

pub returns-clause-changed : goal.returns-clause-changed
returns-clause-changed c = image_changed

pub returns-clause-but : goal.returns-clause-but
returns-clause-but c = image_but
