use Rattle.std.proofs.Common.{[], ◌∷◌, ◌++◌}
use Rattle.sccs_sid.specs.Sid.{sid_text}
use Rattle.sccs_keywords.specs.Expansion.{what_mark}
use Rattle.sccs_keywords.proofs.GiveLaws.{text_fails, text_then, what_text}
use Rattle.sccs_keywords.proofs.values.give_what.Goals as goal

pub returns-in-Err : goal.returns-in-Err
returns-in-Err g c =
    text_fails (what_mark ++ (c.bytes.result.now ++ 9 ∷ [])) (sid_text c.args.facts.now.sid) _ _ _ _ _
    c.give_parts.result c.in-Err.fault c.in-Err.fault
    (what_text c.args.facts.now.module c.bytes.result.now (sid_text c.args.facts.now.sid) c.bytes.ensures.value)
    c.in-Err.is c.give_parts.ensures

pub returns : goal.returns
returns g c =
    text_then (what_mark ++ (c.bytes.result.now ++ 9 ∷ [])) (sid_text c.args.facts.now.sid) _ _ _ _ _ _ _
    c.give_parts.result c.write.result _
    (what_text c.args.facts.now.module c.bytes.result.now (sid_text c.args.facts.now.sid) c.bytes.ensures.value)
    c.in_default.is c.give_parts.ensures c.write.ensures
