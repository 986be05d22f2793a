use Rattle.std.proofs.Common.{◌∙◌}
use Rattle.sccs_base.proofs.Inserting.{found}
use Rattle.sccs_base.proofs.sets.has_name.Goals as goal

pub returns : goal.returns
returns c = c.contains.ensures ∙ found c.args.name.now c.args.names.now
