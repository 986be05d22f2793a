use Rattle.std.proofs.Common.{[], ◌∷◌, refl}
use Rattle.sccs_keywords.proofs.GiveLaws.{text_then}
use Rattle.sccs_prs.specs.Values.{serials_text}
use Rattle.sccs_prs.proofs.lists.give_slashed.Goals as goal

pub returns : goal.returns
returns g c = text_then (serials_text c.args.serials.now) (47 ∷ []) _ _ _ _ _ _ _ c.give_serials.result c.give.result _
    refl c.in_default.is c.give_serials.ensures c.give.ensures
