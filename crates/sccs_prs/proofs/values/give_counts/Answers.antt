use Rattle.sccs_tokens.specs.Written.{five}
use Rattle.sccs_keywords.proofs.GiveLaws.{text_whole}
use Rattle.sccs_prs.proofs.GiveLists.{three_slashed}
use Rattle.sccs_prs.proofs.values.give_counts.Goals as goal

pub returns : goal.returns
returns g c =
    text_whole _ _ _ _ _ _ c.give_parts.result
    (three_slashed (five c.args.delta.now.inserted) c.five_digits-inserted.result (five c.args.delta.now.deleted)
    c.five_digits-deleted.result (five c.args.delta.now.unchanged) c.five_digits-unchanged.result
    c.five_digits-inserted.ensures c.five_digits-deleted.ensures c.five_digits-unchanged.ensures)
    c.give_parts.ensures
