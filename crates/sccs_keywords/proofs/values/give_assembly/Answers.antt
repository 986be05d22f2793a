use Rattle.std.proofs.Common.{[], ◌∷◌, ◌++◌, refl}
use Rattle.sccs_sid.specs.Sid.{sid_text}
use Rattle.sccs_keywords.specs.Expansion.{what_mark}
use Rattle.sccs_keywords.proofs.GiveLaws.{assembly_rest, assembly_text, text_fails, text_then}
use Rattle.sccs_keywords.proofs.values.give_assembly.Goals as goal

pub returns-in-Err : goal.returns-in-Err
returns-in-Err g c =
    text_fails (what_mark ++ (c.bytes.result.now ++ (32 ∷ (c.bytes-2.result.now ++ 32 ∷ []))))
    (sid_text c.args.facts.now.sid ++ what_mark) _ _ _ _ _ c.give_parts.result c.in-Err.fault c.in-Err.fault
    (assembly_rest c.args.facts.now.kind c.bytes.result.now c.args.facts.now.module c.bytes-2.result.now
    (sid_text c.args.facts.now.sid) what_mark c.bytes.ensures.value c.bytes-2.ensures.value) c.in-Err.is
    c.give_parts.ensures

pub returns-in-Err-write : goal.returns-in-Err-write
returns-in-Err-write g c =
    text_fails ((what_mark ++ (c.bytes.result.now ++ (32 ∷ (c.bytes-2.result.now ++ 32 ∷ []))))
    ++ sid_text c.args.facts.now.sid) what_mark _ _ _ _ _ c.write.result c.in-Err-write.fault c.in-Err-write.fault
    (assembly_text c.args.facts.now.kind c.bytes.result.now c.args.facts.now.module c.bytes-2.result.now
    (sid_text c.args.facts.now.sid) what_mark c.bytes.ensures.value c.bytes-2.ensures.value) c.in-Err-write.is
    (text_then (what_mark ++ (c.bytes.result.now ++ (32 ∷ (c.bytes-2.result.now ++ 32 ∷ []))))
    (sid_text c.args.facts.now.sid) _ _ _ _ _ _ _ c.give_parts.result c.write.result _ refl c.in_default.is
    c.give_parts.ensures c.write.ensures)

pub returns : goal.returns
returns g c =
    text_then ((what_mark ++ (c.bytes.result.now ++ (32 ∷ (c.bytes-2.result.now ++ 32 ∷ []))))
    ++ sid_text c.args.facts.now.sid) what_mark _ _ _ _ _ _ _ c.write.result c.give.result _
    (assembly_text c.args.facts.now.kind c.bytes.result.now c.args.facts.now.module c.bytes-2.result.now
    (sid_text c.args.facts.now.sid) what_mark c.bytes.ensures.value c.bytes-2.ensures.value) c.in_default-write.is
    (text_then (what_mark ++ (c.bytes.result.now ++ (32 ∷ (c.bytes-2.result.now ++ 32 ∷ []))))
    (sid_text c.args.facts.now.sid) _ _ _ _ _ _ _ c.give_parts.result c.write.result _ refl c.in_default.is
    c.give_parts.ensures c.write.ensures)
    c.give.ensures
