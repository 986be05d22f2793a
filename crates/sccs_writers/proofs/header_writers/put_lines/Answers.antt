use Rattle.std.proofs.Common.{[], ◌∷◌, ◌++◌, ◌∙◌, ap, sym, append_assoc}
use Rattle.sccs_tokens.specs.Written.{ended}
use Rattle.sccs_writers.proofs.PutLaws.{list_cut, list_put, puts_nothing, same_text, still_there}
use Rattle.sccs_writers.proofs.header_writers.put_lines.Goals as goal

pub put_parts-requires : goal.put_parts-requires
put_parts-requires g c = still_there _ _ _ _ _ _ _ _ c.loop-line.invariant c.requires

pub loop-line-init : goal.loop-line-init
loop-line-init g c = puts_nothing c.args.out.now _ _

pub returns-in-Err : goal.returns-in-Err
returns-in-Err g c =
    list_cut (λ line. ended (c.args.front.now ++ line)) c.args.lines.now c.items-line-items.result.now
    c.items-line-items.ensures c.loop-line.line-index c.line-item.result c.line-item.result c.loop-line-test.true
    c.line-item.is c.args.out.now c.loop-line.out c.put_parts.new.self _ _ _ _ _ _ c.put_parts.result c.in-Err.fault
    c.in-Err.is c.loop-line.invariant
    (same_text (ap (λ text. c.args.front.now ++ (text ++ 10 ∷ [])) c.bytes.ensures.value
    ∙ sym (append_assoc c.args.front.now c.line-item.result (10 ∷ []))) c.put_parts.ensures)

pub loop-line-preserved : goal.loop-line-preserved
loop-line-preserved g c =
    list_put (λ line. ended (c.args.front.now ++ line)) c.args.lines.now c.items-line-items.result.now
    c.items-line-items.ensures c.loop-line.line-index c.line-item.result c.line-item.result c.loop-line-test.true
    c.line-item.is c.args.out.now c.loop-line.out c.put_parts.new.self _ _ _ _ _ _ c.put_parts.result
    c.in_default.field-0 c.in_default.is c.loop-line.invariant
    (same_text (ap (λ text. c.args.front.now ++ (text ++ 10 ∷ [])) c.bytes.ensures.value
    ∙ sym (append_assoc c.args.front.now c.line-item.result (10 ∷ []))) c.put_parts.ensures)
