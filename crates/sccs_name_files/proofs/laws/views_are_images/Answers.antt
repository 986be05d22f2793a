use Rattle.sccs_name_files.proofs.Images.{view_image, view_full, full_image}
use Rattle.sccs_name_files.proofs.laws.views_are_images.Goals as goal

pub returns-clause-image : goal.returns-clause-image
returns-clause-image c = view_image

pub returns-clause-full : goal.returns-clause-full
returns-clause-full c = view_full

pub returns-clause-among : goal.returns-clause-among
returns-clause-among c = full_image
