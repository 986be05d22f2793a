use Rattle.std.proofs.Common.{◌∙◌, sym}
use Rattle.sccs_body.proofs.body_readers.ends_with.Goals as goal

pub returns-then-over : goal.returns-then-over
returns-then-over c = λ live before knows. let over = sym (c.is_over-over.ensures live before knows) ∙ c.if-over.true in
    rw over c.is_empty-empty.ensures

pub returns-else-over : goal.returns-else-over
returns-else-over c = λ live before knows. let over = sym (c.is_over-over.ensures live before knows)
    ∙ c.if-over.false in rw over c.if-over.false
