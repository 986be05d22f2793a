use Rattle.std.proofs.Common.{ap}
use Rattle.sccs_tokens.specs.Written.{ended}
use Rattle.sccs_keywords.proofs.GiveLaws.{text_whole}
use Rattle.sccs_prs.proofs.GiveLists.{item_fails}
use Rattle.sccs_prs.proofs.lists.give_lines.Goals as goal

pub returns-in-Err : goal.returns-in-Err
returns-in-Err g c =
    item_fails ended c.args.lines.now c.items-line-items.result.now c.items-line-items.ensures c.loop-line.line-index
    c.line-item.result c.line-item.result c.loop-line-test.true c.line-item.is _ _ _ _ _ _ c.give_parts.result
    c.in-Err.fault c.in-Err.fault c.in-Err.is c.loop-line.invariant
    (text_whole _ _ _ _ _ _ c.give_parts.result (ap ended c.bytes.ensures.value) c.give_parts.ensures)
