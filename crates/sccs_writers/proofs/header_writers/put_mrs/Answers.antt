use Rattle.std.proofs.Common.{ap}
use Rattle.sccs_tokens.specs.Written.{ended, mr_line}
use Rattle.sccs_writers.proofs.PutLaws.{list_cut, list_put, puts_nothing, same_text, still_there}
use Rattle.sccs_writers.proofs.header_writers.put_mrs.Goals as goal

pub put_mark-requires : goal.put_mark-requires
put_mark-requires g c = still_there _ _ _ _ _ _ _ _ c.loop-line.invariant c.requires

pub loop-line-init : goal.loop-line-init
loop-line-init g c = puts_nothing c.args.out.now _ _

pub returns-in-Err : goal.returns-in-Err
returns-in-Err g c =
    list_cut (λ t. ended (mr_line t)) c.args.mrs.now c.items-line-items.result.now c.items-line-items.ensures
    c.loop-line.line-index c.line-item.result c.line-item.result c.loop-line-test.true c.line-item.is c.args.out.now
    c.loop-line.out c.put_mark.new.out _ _ _ _ _ _ c.put_mark.result c.in-Err.fault c.in-Err.is
    c.loop-line.invariant (same_text (ap (λ t. ended (mr_line t)) c.bytes.ensures.value) c.put_mark.ensures)

pub loop-line-preserved : goal.loop-line-preserved
loop-line-preserved g c =
    list_put (λ t. ended (mr_line t)) c.args.mrs.now c.items-line-items.result.now c.items-line-items.ensures
    c.loop-line.line-index c.line-item.result c.line-item.result c.loop-line-test.true c.line-item.is c.args.out.now
    c.loop-line.out c.put_mark.new.out _ _ _ _ _ _ c.put_mark.result c.in_default.field-0 c.in_default.is
    c.loop-line.invariant (same_text (ap (λ t. ended (mr_line t)) c.bytes.ensures.value) c.put_mark.ensures)
