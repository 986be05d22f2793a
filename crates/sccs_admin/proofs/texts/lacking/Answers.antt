use Rattle.sccs_admin.proofs.TextLaws.{lacking_lf, lacking_none, lacking_other}
use Rattle.sccs_admin.proofs.texts.lacking.Goals as goal

pub returns-then-is_empty : goal.returns-then-is_empty
returns-then-is_empty c = lacking_none c.args.text.now c.if-is_empty.ensures

pub returns-then-text-eq-LF : goal.returns-then-text-eq-LF
returns-then-text-eq-LF c = lacking_lf c.args.text.now c.if-is_empty.ensures c.if-text-eq-LF.true

pub returns : goal.returns
returns c = lacking_other c.args.text.now c.if-is_empty.ensures c.if-text-eq-LF.false
