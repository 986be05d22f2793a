use Rattle.std.proofs.Common.{Some, None, ap, ◌∙◌}
use Rattle.sccs_get.specs.NewEntry.{reserved}
use Rattle.sccs_get.specs.AskedVersion.{spec_asked}
use Rattle.sccs_get.proofs.EditLaws.{made_as}
use Rattle.sccs_get.proofs.new_entries.made_of.Goals as goal

pub returns-in-Ok-clause-value : goal.returns-in-Ok-clause-value
returns-in-Ok-clause-value c =
    made_as c.args.header.now (reserved c.args.edits.now) c.items-2.result.now c.args.target
    (spec_asked c.args.words.now c.args.header.now) _ c.args.words.now.branch (Some c.in-Ok.made) (c.items-2.ensures
    ∙ (c.in_ok-sids.ensures ∙ ap reserved c.items.ensures)) (c.as_ref.ensures.value ∙ c.spec_of-spec.ensures.value)
    c.in-Ok.ensures

pub returns-clause-value : goal.returns-clause-value
returns-clause-value c =
    made_as c.args.header.now (reserved c.args.edits.now) c.items-2.result.now c.args.target
    (spec_asked c.args.words.now c.args.header.now) _ c.args.words.now.branch None (c.items-2.ensures
    ∙ (c.in_ok-sids.ensures ∙ ap reserved c.items.ensures)) (c.as_ref.ensures.value ∙ c.spec_of-spec.ensures.value)
    c.in-Err.ensures
