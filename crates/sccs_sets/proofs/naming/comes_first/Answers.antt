use Rattle.std.proofs.Common.{not, sym, ap, ◌∙◌}
use Rattle.sccs_sets.proofs.Falling.{first_of, none_first}
use Rattle.sccs_sets.proofs.naming.comes_first.Goals as goal

pub returns-in-Some : goal.returns-in-Some
returns-in-Some c = ap not c.not_after.ensures
    ∙ sym (first_of c.args.found.now c.in-Some.field-0-1.now c.in-Some.last.now c.args.sid c.in-Some.ensures.cases.0)

pub returns-in-None : goal.returns-in-None
returns-in-None c = none_first c.args.found.now c.args.sid c.in-None.ensures.cases
