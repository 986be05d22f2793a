use Rattle.std.proofs.Common.{◌∷◌, flat_map, ap, ◌++◌, ◌∙◌}
use Rattle.std.specs.Prelude.{decimal}
use Rattle.sccs_keywords.proofs.GiveLaws.{text_then}
use Rattle.sccs_prs.proofs.lists.give_joined.Goals as goal

pub returns : goal.returns
returns g c =
    text_then c.as_bytes.result.now (flat_map (λ n. 32 ∷ decimal n) c.args.rest.now) _ _ _ _ _ _ _ c.give.result
    c.give_more.result _ (ap (λ t. t ++ flat_map (λ n. 32 ∷ decimal n) c.args.rest.now) (c.as_bytes.ensures.value
    ∙ c.format.ensures.text)) c.in_default.is c.give.ensures c.give_more.ensures
