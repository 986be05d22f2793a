use Rattle.sccs_name_files.proofs.Images.{image_settled}
use Rattle.sccs_name_files.proofs.laws.synced_names_stay.Goals as goal

pub returns : goal.returns
returns c = image_settled
