use Rattle.std.proofs.lemmas.Result.{err_from_is_err_and}
use Rattle.std.proofs.Common.{◌≡◌, ℕ, true, [], ◌∷◌, Ok, Err, refl, subst, sym, ◌∙◌}
use Rattle.sccs_sid.specs.Refusal.{number_of}
use Rattle.sccs_delta.specs.DeltaStep.{delta_checks}
use Rattle.sccs_changes.specs.NewEntries.{or_no_edit}
use Rattle.sccs_changes.specs.PFiles.{Answers}
use Rattle.sccs_pfile.specs.Choices.{choice, fits}
use Rattle.sccs_delta.proofs.EntryChains.{entry_found, no_base, no_number, not_let_in, not_released, refused_again}
use Rattle.sccs_delta.proofs.EntryChains.{wider_checks}
use Rattle.sccs_delta.proofs.entries.chosen_entry.Goals as goal

pub returns-then-not-is_allowed-clause-value : goal.returns-then-not-is_allowed-clause-value
returns-then-not-is_allowed-clause-value c =
    not_let_in c.args.words.now c.args.stamp.now c.args.pending.now.front.header c.args.pending.now.edits
    (sym c.is_allowed.ensures ∙ c.if-not-is_allowed.true)

pub returns-in_err-number-clause-value : goal.returns-in_err-number-clause-value
returns-in_err-number-clause-value c =
    let p = err_from_is_err_and c.from_residual.result c.from_residual.ensures.1 in
    rw (p.1, p.2) (no_number c.args.words.now c.args.stamp.now c.args.pending.now.front.header c.args.pending.now.edits
    c.in_err-number.field-0.0 (sym c.is_allowed.ensures ∙ c.if-not-is_allowed.false)
    (subst (λ sid. Answers {A = ℕ} (or_no_edit (choice (fits c.args.stamp.now.login sid true) c.args.pending.now.edits))
    (Err c.in_err-number.field-0.0)) c.as_ref.ensures.value c.in_err-number.ensures.value))

pub returns-in_err-base-clause-value : goal.returns-in_err-base-clause-value
returns-in_err-base-clause-value c =
    let p = err_from_is_err_and c.from_residual-in_err-base.result c.from_residual-in_err-base.ensures.1 in
    rw (p.1, p.2) (no_base c.args.words.now c.args.stamp.now c.args.pending.now.front.header c.args.pending.now.edits
    c.in_ok-number.number c.at-edit.result.now c.in_err-base.field-0.0 (sym c.is_allowed.ensures
    ∙ c.if-not-is_allowed.false)
    (subst (λ sid. or_no_edit (choice (fits c.args.stamp.now.login sid true) c.args.pending.now.edits)
    ≡ Ok c.in_ok-number.number) c.as_ref.ensures.value c.in_ok-number.ensures.value) c.at-edit.ensures
    c.in_err-base.ensures.value)

pub returns-clause-value : goal.returns-clause-value
returns-clause-value c =
    entry_found c.args.words.now c.args.stamp.now c.args.pending.now.front.header c.args.pending.now.edits
    c.in_ok-number.number c.at-edit.result.now c.in_ok-base.base (sym c.is_allowed.ensures
    ∙ c.if-not-is_allowed.false)
    (subst (λ sid. or_no_edit (choice (fits c.args.stamp.now.login sid true) c.args.pending.now.edits)
    ≡ Ok c.in_ok-number.number) c.as_ref.ensures.value c.in_ok-number.ensures.value) c.at-edit.ensures
    c.in_ok-base.ensures.value c.in_ok-check_releases.ensures.value

pub returns-in_err-check_releases-clause-value : goal.returns-in_err-check_releases-clause-value
returns-in_err-check_releases-clause-value c =
    let p = err_from_is_err_and c.from_residual-in_err-check_releases.result
    c.from_residual-in_err-check_releases.ensures.1 in
    rw (p.1, p.2) (not_released c.args.words.now c.args.stamp.now c.args.pending.now.front.header
    c.args.pending.now.edits c.in_ok-number.number c.at-edit.result.now c.in_ok-base.base
    c.in_err-check_releases.field-0.0 (sym c.is_allowed.ensures ∙ c.if-not-is_allowed.false)
    (subst (λ sid. or_no_edit (choice (fits c.args.stamp.now.login sid true) c.args.pending.now.edits)
    ≡ Ok c.in_ok-number.number) c.as_ref.ensures.value c.in_ok-number.ensures.value) c.at-edit.ensures
    c.in_ok-base.ensures.value c.in_err-check_releases.ensures.value)

pub returns-in_err-number-clause-checks : goal.returns-in_err-number-clause-checks
returns-in_err-number-clause-checks c =
    let p = err_from_is_err_and c.from_residual.result c.from_residual.ensures.1 in
    rw (p.1, p.2) (λ refusal is. wider_checks (13 ∷ 14 ∷ []) delta_checks (number_of refusal) (refl, (refl, tt))
    (c.in_err-number.ensures.checks refusal (refused_again c.in_err-number.field-0.0 refusal is)))
