use Rattle.std.proofs.Common.{◌∙◌, Err, List, ap, subst, sym}
use Rattle.sccs_base.specs.Cut.{text_of}
use Rattle.sccs_changes.specs.PFiles.{Answers}
use Rattle.sccs_admin.specs.Rules.{new_rules}
use Rattle.sccs_admin.specs.Texts.{count_lines, or_bad_text}
use Rattle.sccs_admin.proofs.RuleLaws.{all_ruled, count_ends, last_ends, rest_ends, rules_hold}
use Rattle.sccs_admin.proofs.StepLaws.{exit_is}
use Rattle.sccs_admin.proofs.rules.new_rules.Goals as goal

pub returns-in_err-count-clause-value : goal.returns-in_err-count-clause-value
returns-in_err-count-clause-value c =
    subst (λ r. Answers (new_rules c.args.words.now c.args.texts.now) r)
    (sym (exit_is c.from_residual.result c.in_err-count.field-0.0 c.from_residual.ensures.1))
    (count_ends c.args.words.now c.args.texts.now c.in_err-count.field-0.0
    (subst (λ (text : List _). Answers (or_bad_text (count_lines (text_of text))) (Err c.in_err-count.field-0.0))
    c.bytes.ensures c.in_err-count.ensures.value))

pub returns-in_err-description-clause-value : goal.returns-in_err-description-clause-value
returns-in_err-description-clause-value c =
    subst (λ r. Answers (new_rules c.args.words.now c.args.texts.now) r)
    (sym (exit_is c.from_residual-in_err-description.result c.in_err-description.field-0.0
    c.from_residual-in_err-description.ensures.1))
    (rest_ends c.args.words.now c.args.texts.now c.in_ok-count.count c.in_err-description.field-0.0
    (ap (λ (text : List _). or_bad_text (count_lines (text_of text))) (sym c.bytes.ensures)
    ∙ c.in_ok-count.ensures.value) c.in_err-description.ensures.value)

pub returns-in_err-flags-clause-value : goal.returns-in_err-flags-clause-value
returns-in_err-flags-clause-value c =
    subst (λ r. Answers (new_rules c.args.words.now c.args.texts.now) r)
    (sym (exit_is c.from_residual-in_err-flags.result c.in_err-flags.field-0.0
    c.from_residual-in_err-flags.ensures.1))
    (last_ends c.args.words.now c.args.texts.now c.in_ok-count.count c.in_ok-description.description
    c.in_err-flags.field-0.0 (ap (λ (text : List _). or_bad_text (count_lines (text_of text))) (sym c.bytes.ensures)
    ∙ c.in_ok-count.ensures.value) c.in_ok-description.ensures.value
    c.in_err-flags.ensures.value)

pub returns-clause-value : goal.returns-clause-value
returns-clause-value c =
    all_ruled c.args.words.now c.args.texts.now c.in_ok-count.count c.in_ok-description.description c.in_ok-flags.flags
    (ap (λ (text : List _). or_bad_text (count_lines (text_of text))) (sym c.bytes.ensures)
    ∙ c.in_ok-count.ensures.value)
    c.in_ok-description.ensures.value c.in_ok-flags.ensures.value

pub returns-clause-rules : goal.returns-clause-rules
returns-clause-rules c = rules_hold c.args.words.now c.args.texts.now
    (record { count = c.in_ok-count.count; description = c.in_ok-description.description; flags = c.in_ok-flags.flags })
    (returns-clause-value c)
