use Rattle.std.proofs.Common.{refl}
use Rattle.std.specs.Str.{bytes_eq}
use Rattle.sccs_base.specs.Name.{x_file}
use Rattle.sccs_store.proofs.Working.{same_touches}
use Rattle.sccs_admin.proofs.admins.write_texts.Goals as goal

pub returns-in_err-rules-clause-touches : goal.returns-in_err-rules-clause-touches
returns-in_err-rules-clause-touches g c = same_touches (bytes_eq (x_file c.args.name.now)) _ _ refl

pub returns-in_default-clause-touches : goal.returns-in_default-clause-touches
returns-in_default-clause-touches g c = same_touches (bytes_eq (x_file c.args.name.now)) _ _ refl
