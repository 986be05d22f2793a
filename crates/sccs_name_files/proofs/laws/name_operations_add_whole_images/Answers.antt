use Rattle.sccs_name_files.proofs.Images.{image_pended, image_created}
use Rattle.sccs_name_files.proofs.laws.name_operations_add_whole_images.Goals as goal

pub returns-clause-pended : goal.returns-clause-pended
returns-clause-pended c = image_pended

pub returns-clause-created : goal.returns-clause-created
returns-clause-created c = image_created
