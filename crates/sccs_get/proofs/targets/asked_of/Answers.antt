use Rattle.std.proofs.lemmas.Result.{err_from_is_err_and}
use Rattle.std.proofs.Common.{◌≡◌, Ok, Err, subst}
use Rattle.sccs_sets.specs.Naming.{AnswersSerials as AnswersList}
use Rattle.sccs_get.specs.AskedVersion.{listed_serials}
use Rattle.sccs_get.proofs.TargetLaws.{no_target, include_ends, exclude_ends, shared_ends, set_made}
use Rattle.sccs_get.proofs.targets.asked_of.Goals as goal

pub returns-in-Err-clause-value : goal.returns-in-Err-clause-value
returns-in-Err-clause-value c = no_target c.args.words.now c.args.header.now c.in-Err.ensures.value

pub returns-in_err-include-clause-value : goal.returns-in_err-include-clause-value
returns-in_err-include-clause-value c =
    let p = err_from_is_err_and c.from_residual.result c.from_residual.ensures.1 in
    rw (p.1) (include_ends c.args.words.now c.args.header.now c.in-Ok.target c.in_err-include.field-0.0 p.0
    c.in-Ok.ensures.value
    (subst (λ list. AnswersList (listed_serials c.args.header.now.records list) (Err c.in_err-include.field-0.0))
    c.as_ref.ensures.value c.in_err-include.ensures.value) p.2)

pub returns-in_err-exclude-clause-value : goal.returns-in_err-exclude-clause-value
returns-in_err-exclude-clause-value c =
    let p = err_from_is_err_and c.from_residual-in_err-exclude.result c.from_residual-in_err-exclude.ensures.1 in
    rw (p.1) (exclude_ends c.args.words.now c.args.header.now c.in-Ok.target c.in_ok-include.include
    c.in_err-exclude.field-0.0 p.0 c.in-Ok.ensures.value
    (subst (λ list. listed_serials c.args.header.now.records list ≡ Ok c.in_ok-include.include) c.as_ref.ensures.value
    c.in_ok-include.ensures.value)
    (subst (λ list. AnswersList (listed_serials c.args.header.now.records list) (Err c.in_err-exclude.field-0.0))
    c.as_ref-2.ensures.value c.in_err-exclude.ensures.value) p.2)

pub returns-clause-value : goal.returns-clause-value
returns-clause-value c =
    set_made c.args.words.now c.args.header.now c.in-Ok.target c.in_ok-include.include c.in_ok-exclude.exclude
    c.in_ok-set.set c.in-Ok.ensures.value
    (subst (λ list. listed_serials c.args.header.now.records list ≡ Ok c.in_ok-include.include) c.as_ref.ensures.value
    c.in_ok-include.ensures.value)
    (subst (λ list. listed_serials c.args.header.now.records list ≡ Ok c.in_ok-exclude.exclude)
    c.as_ref-2.ensures.value c.in_ok-exclude.ensures.value)
    c.in_ok-set.ensures.apart c.in_ok-set.ensures.set

pub returns-in_err-set-clause-value : goal.returns-in_err-set-clause-value
returns-in_err-set-clause-value c =
    let p = err_from_is_err_and c.from_residual-in_err-set.result c.from_residual-in_err-set.ensures.1 in
    rw (p.1) (shared_ends c.args.words.now c.args.header.now c.in-Ok.target c.in_ok-include.include
    c.in_ok-exclude.exclude c.in_err-set.field-0.0 p.0 c.in-Ok.ensures.value
    (subst (λ list. listed_serials c.args.header.now.records list ≡ Ok c.in_ok-include.include) c.as_ref.ensures.value
    c.in_ok-include.ensures.value)
    (subst (λ list. listed_serials c.args.header.now.records list ≡ Ok c.in_ok-exclude.exclude)
    c.as_ref-2.ensures.value c.in_ok-exclude.ensures.value)
    c.in_err-set.ensures.err p.2)
