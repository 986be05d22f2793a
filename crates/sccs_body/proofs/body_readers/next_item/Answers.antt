use Rattle.std.proofs.Common.{◌∙◌, true, false, sym}
use Rattle.sccs_body.proofs.ItemLaws.{line_silent, line_item}
use Rattle.sccs_body.proofs.body_readers.next_item.Goals as goal

pub returns-in_default : goal.returns-in_default
returns-in_default c = λ live before knows. line_silent live before c.args.line.items (sym c.read_item.ensures
    ∙ c.in_default.is)

pub returns-then-branch : goal.returns-then-branch
returns-then-branch c = λ live before knows.
    let stood = c.in_ok-goes_on.ensures.goes live before knows in
    let may = stood.0 ∙ c.if-branch.true in (
      line_item live before c.args.line.items c.in-Some.item true (sym c.read_item.ensures ∙ c.in-Some.is) may,
      may,
      stood.1 c.if-branch.true,
    )

pub returns-else-branch : goal.returns-else-branch
returns-else-branch c = λ live before knows.
    let stood = c.in_ok-goes_on.ensures.goes live before knows in
    line_item live before c.args.line.items c.in-Some.item false (sym c.read_item.ensures ∙ c.in-Some.is) (stood.0
    ∙ c.if-branch.false)
