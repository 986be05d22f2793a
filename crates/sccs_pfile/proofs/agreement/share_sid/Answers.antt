use Rattle.std.proofs.Common.{sym, ◌∙◌}
use Rattle.sccs_pfile.proofs.LiveLaws.{shared_no_other, shared_none}
use Rattle.sccs_pfile.proofs.agreement.share_sid.Goals as goal

pub returns-then-is_empty : goal.returns-then-is_empty
returns-then-is_empty c = shared_none c.args.records.now c.args.include.now c.args.exclude.now (sym c.is_empty.ensures
    ∙ c.if-is_empty.true)

pub returns-then-is_empty-2 : goal.returns-then-is_empty-2
returns-then-is_empty-2 c = shared_no_other c.args.records.now c.args.include.now c.args.exclude.now
    (sym c.is_empty-2.ensures ∙ c.if-is_empty-2.true)
