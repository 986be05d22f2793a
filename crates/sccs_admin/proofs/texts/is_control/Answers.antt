use Rattle.sccs_admin.proofs.TextLaws.{control_of, no_control}
use Rattle.sccs_admin.proofs.texts.is_control.Goals as goal

pub returns-then-is_empty : goal.returns-then-is_empty
returns-then-is_empty c = no_control c.args.line.now c.if-is_empty.ensures

pub returns : goal.returns
returns c = control_of c.args.line.now c.if-is_empty.ensures
