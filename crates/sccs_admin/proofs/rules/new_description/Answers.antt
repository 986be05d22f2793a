use Rattle.std.proofs.Common.{◌∙◌, Err, List, Ok, ap, subst, sym}
use Rattle.sccs_base.specs.Cut.{text_of}
use Rattle.sccs_changes.specs.PFiles.{Answers}
use Rattle.sccs_admin.specs.Rules.{has_wanted_keyword, new_description}
use Rattle.sccs_admin.proofs.RuleLaws.{described_at, described_new, description_ends, no_keyword}
use Rattle.sccs_admin.proofs.StepLaws.{exit_is}
use Rattle.sccs_admin.proofs.rules.new_description.Goals as goal

pub returns-in_err-description-clause-value : goal.returns-in_err-description-clause-value
returns-in_err-description-clause-value c =
    subst (λ r. Answers (new_description c.args.words.now c.args.texts.now) r)
    (sym (exit_is c.from_residual.result c.in_err-description.field-0.0 c.from_residual.ensures.1))
    (description_ends c.args.words.now c.args.texts.now c.in_err-description.field-0.0
    (described_at c.args.words.now.description _ _ c.args.texts.now.description (Err c.in_err-description.field-0.0)
    c.empty.ensures c.bytes.ensures c.in_err-description.ensures.value))

pub returns-then-not-has_wanted_keyword-clause-value : goal.returns-then-not-has_wanted_keyword-clause-value
returns-then-not-has_wanted_keyword-clause-value c =
    no_keyword c.args.words.now c.args.texts.now c.in_ok-description.description
    (described_at c.args.words.now.description _ _ c.args.texts.now.description (Ok c.in_ok-description.description)
    c.empty.ensures c.bytes.ensures c.in_ok-description.ensures.value)
    (ap (λ (text : List _). has_wanted_keyword c.args.words.now (text_of text)) (sym c.bytes-2.ensures)
    ∙ (sym c.has_wanted_keyword.ensures ∙ c.if-not-has_wanted_keyword.true))

pub returns-clause-value : goal.returns-clause-value
returns-clause-value c =
    described_new c.args.words.now c.args.texts.now c.in_ok-description.description
    (described_at c.args.words.now.description _ _ c.args.texts.now.description (Ok c.in_ok-description.description)
    c.empty.ensures c.bytes.ensures c.in_ok-description.ensures.value)
    (ap (λ (text : List _). has_wanted_keyword c.args.words.now (text_of text)) (sym c.bytes-2.ensures)
    ∙ (sym c.has_wanted_keyword.ensures ∙ c.if-not-has_wanted_keyword.false))
