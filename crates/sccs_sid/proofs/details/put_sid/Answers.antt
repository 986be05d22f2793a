use Rattle.std.proofs.Common.{◌++◌, ◌∷◌, ap, ◌∙◌}
use Rattle.std.specs.Prelude.{decimal}
use Rattle.sccs_sid.proofs.Puts.{dot_put, trunk_text, full_text}
use Rattle.sccs_sid.proofs.details.put_sid.Goals as goal

pub returns-then-sid-eq0-clause-put : goal.returns-then-sid-eq0-clause-put
returns-then-sid-eq0-clause-put c =
    dot_put _ _ _ _ c.args.sid.now.level c.put-end-2.ensures.put c.put-end-3.ensures.put (c.as_bytes-2.ensures.value
    ∙ c.format-2.ensures.text)
    ∙ (ap (λ text. text ++ (46 ∷ decimal c.args.sid.now.level)) (c.put-end.ensures.put ∙ (c.as_bytes.ensures.value
    ∙ c.format.ensures.text)) ∙ trunk_text c.args.sid.now c.if-sid-eq0.true)

pub returns-clause-put : goal.returns-clause-put
returns-clause-put c =
    let sid = c.args.sid.now in
    let release = c.put-end.ensures.put ∙ (c.as_bytes.ensures.value ∙ c.format.ensures.text) in
    let level = dot_put _ _ _ _ sid.level c.put-end-2.ensures.put c.put-end-3.ensures.put (c.as_bytes-2.ensures.value
    ∙ c.format-2.ensures.text) in
    let branch = dot_put _ _ _ _ sid.branch c.put-end-4.ensures.put c.put-end-5.ensures.put (c.as_bytes-3.ensures.value
    ∙ c.format-3.ensures.text) in
    dot_put _ _ _ _ sid.sequence c.put-end-6.ensures.put c.put.ensures.put (c.as_bytes-4.ensures.value
    ∙ c.format-4.ensures.text)
    ∙ (ap (λ text. text ++ (46 ∷ decimal sid.sequence)) (branch ∙ ap (λ text. text ++ (46 ∷ decimal sid.branch)) (level
    ∙ ap (λ text. text ++ (46 ∷ decimal sid.level)) release))
    ∙ full_text sid c.if-sid-eq0.false)
