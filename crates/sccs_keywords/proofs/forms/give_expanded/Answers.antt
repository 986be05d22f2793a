use Rattle.std.proofs.Common.{[], ◌∷◌, refl}
use Rattle.sccs_keywords.specs.Expansion.{expanded}
use Rattle.sccs_keywords.proofs.GiveLaws.{text_then}
use Rattle.sccs_keywords.proofs.forms.give_expanded.Goals as goal

pub returns : goal.returns
returns g c =
    text_then (expanded c.args.facts.now c.args.number c.args.line.now) (10 ∷ []) _ _ _ _ _ _ _ c.expand.result
    c.give.result _ refl
    c.in_default.is c.expand.ensures c.give.ensures
