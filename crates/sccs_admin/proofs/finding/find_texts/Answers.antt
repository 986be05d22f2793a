use Rattle.std.proofs.Common.{◌∙◌, Ok, Err, subst, sym}
use Rattle.sccs_disk.specs.Told.{seen}
use Rattle.sccs_admin.specs.Parts.{FindsNamed, FindsTexts, IsFresh}
use Rattle.sccs_admin.proofs.StepLaws.{exit_is, first_ends, second_ends, taken_ends, texts_found, unfresh_ends}
use Rattle.sccs_admin.proofs.StepLaws.{whole_ends}
use Rattle.sccs_admin.proofs.finding.find_texts.Goals as goal

pub returns-in_err-found-clause-finds : goal.returns-in_err-found-clause-finds
returns-in_err-found-clause-finds g c =
    let exit = exit_is c.from_residual.result c.in_err-found.field-0.0 c.from_residual.ensures.1 in
    subst (λ r. FindsTexts c.args.words.now r c.args.name.now (g.I.Source.left c.args.input.now)
    (seen (g.D.Disk.told c.args.disk.now))) (sym exit)
    (first_ends c.args.words.now c.in_err-found.field-0.0 c.args.name.now (g.I.Source.left c.args.input.now)
    (seen (g.D.Disk.told c.args.disk.now)) c.in_err-found.ensures.finds)

pub returns-in_err-other-clause-finds : goal.returns-in_err-other-clause-finds
returns-in_err-other-clause-finds g c =
    let exit = exit_is c.from_residual-in_err-other.result c.in_err-other.field-0.0
    c.from_residual-in_err-other.ensures.1 in
    subst (λ r. FindsTexts c.args.words.now r c.args.name.now (g.I.Source.left c.args.input.now)
    (seen (g.D.Disk.told c.args.disk.now))) (sym exit)
    (second_ends c.args.words.now c.in_ok-found.found c.in_err-other.field-0.0 c.args.name.now
    (g.I.Source.left c.args.input.now) (seen (g.D.Disk.told c.args.disk.now)) c.in_ok-found.ensures.finds
    (subst (λ t. FindsNamed (Err c.in_err-other.field-0.0) c.args.words.now.description c.args.name.now (seen t))
    c.in_ok-found.ensures.frame.same c.in_err-other.ensures.finds))

pub returns-in_err-check_fresh-clause-finds : goal.returns-in_err-check_fresh-clause-finds
returns-in_err-check_fresh-clause-finds g c =
    let exit = exit_is c.from_residual-in_err-check_fresh.result c.in_err-check_fresh.field-0.0
    c.from_residual-in_err-check_fresh.ensures.1 in
    subst (λ r. FindsTexts c.args.words.now r c.args.name.now (g.I.Source.left c.args.input.now)
    (seen (g.D.Disk.told c.args.disk.now))) (sym exit)
    (unfresh_ends c.args.words.now c.in_ok-found.found c.in_ok-other.other c.in_err-check_fresh.field-0.0
    c.args.name.now (g.I.Source.left c.args.input.now) (seen (g.D.Disk.told c.args.disk.now))
    c.in_ok-found.ensures.finds
    (subst (λ t. FindsNamed (Ok c.in_ok-other.other) c.args.words.now.description c.args.name.now (seen t))
    c.in_ok-found.ensures.frame.same c.in_ok-other.ensures.finds)
    (subst (λ t. IsFresh (Err c.in_err-check_fresh.field-0.0) c.args.name.now (seen t))
    (c.in_ok-other.ensures.frame.same ∙ c.in_ok-found.ensures.frame.same) c.in_err-check_fresh.ensures.fresh))

pub returns-in_err-text-clause-finds : goal.returns-in_err-text-clause-finds
returns-in_err-text-clause-finds g c =
    let exit = exit_is c.from_residual-in_err-text.result c.in_err-text.field-0.0
    c.from_residual-in_err-text.ensures.1 in
    subst (λ r. FindsTexts c.args.words.now r c.args.name.now (g.I.Source.left c.args.input.now)
    (seen (g.D.Disk.told c.args.disk.now))) (sym exit)
    (taken_ends c.args.words.now c.in_ok-found.found c.in_ok-other.other c.in_err-text.field-0.0 c.args.name.now
    (g.I.Source.left c.args.input.now) (seen (g.D.Disk.told c.args.disk.now)) c.in_ok-found.ensures.finds
    (subst (λ t. FindsNamed (Ok c.in_ok-other.other) c.args.words.now.description c.args.name.now (seen t))
    c.in_ok-found.ensures.frame.same c.in_ok-other.ensures.finds)
    (subst (λ t. IsFresh (Ok tt) c.args.name.now (seen t)) (c.in_ok-other.ensures.frame.same
    ∙ c.in_ok-found.ensures.frame.same) c.in_ok-check_fresh.ensures.fresh) c.in_err-text.ensures.takes)

pub returns-in_err-description-clause-finds : goal.returns-in_err-description-clause-finds
returns-in_err-description-clause-finds g c =
    let exit = exit_is c.from_residual-in_err-description.result c.in_err-description.field-0.0
    c.from_residual-in_err-description.ensures.1 in
    subst (λ r. FindsTexts c.args.words.now r c.args.name.now (g.I.Source.left c.args.input.now)
    (seen (g.D.Disk.told c.args.disk.now))) (sym exit)
    (whole_ends c.args.words.now c.in_ok-found.found c.in_ok-other.other c.in_ok-text.text
    c.in_err-description.field-0.0 c.args.name.now (g.I.Source.left c.args.input.now)
    (seen (g.D.Disk.told c.args.disk.now)) c.in_ok-found.ensures.finds
    (subst (λ t. FindsNamed (Ok c.in_ok-other.other) c.args.words.now.description c.args.name.now (seen t))
    c.in_ok-found.ensures.frame.same c.in_ok-other.ensures.finds)
    (subst (λ t. IsFresh (Ok tt) c.args.name.now (seen t)) (c.in_ok-other.ensures.frame.same
    ∙ c.in_ok-found.ensures.frame.same) c.in_ok-check_fresh.ensures.fresh) c.in_ok-text.ensures.takes
    c.in_ok-text.ensures.bound
    c.in_err-description.ensures.value)

pub returns-clause-finds : goal.returns-clause-finds
returns-clause-finds g c =
    texts_found c.args.words.now c.in_ok-found.found c.in_ok-other.other c.in_ok-text.text
    c.in_ok-description.description c.args.name.now (g.I.Source.left c.args.input.now)
    (seen (g.D.Disk.told c.args.disk.now)) c.in_ok-found.ensures.finds
    (subst (λ t. FindsNamed (Ok c.in_ok-other.other) c.args.words.now.description c.args.name.now (seen t))
    c.in_ok-found.ensures.frame.same c.in_ok-other.ensures.finds)
    (subst (λ t. IsFresh (Ok tt) c.args.name.now (seen t)) (c.in_ok-other.ensures.frame.same
    ∙ c.in_ok-found.ensures.frame.same) c.in_ok-check_fresh.ensures.fresh) c.in_ok-text.ensures.takes
    c.in_ok-text.ensures.bound
    c.in_ok-description.ensures.bound c.in_ok-description.ensures.value
