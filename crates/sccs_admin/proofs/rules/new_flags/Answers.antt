use Rattle.std.proofs.Common.{Err, List, Ok, subst, sym}
use Rattle.sccs_changes.specs.PFiles.{Answers, PassesCheck}
use Rattle.sccs_history.specs.declared.headers.Flag.{Flag}
use Rattle.sccs_admin.specs.Rules.{mrs_fit, new_flags}
use Rattle.sccs_admin.proofs.RuleLaws.{flags_at, flags_end, flags_fit, mrs_end}
use Rattle.sccs_admin.proofs.StepLaws.{exit_is}
use Rattle.sccs_admin.proofs.rules.new_flags.Goals as goal

pub returns-in_err-flags-clause-value : goal.returns-in_err-flags-clause-value
returns-in_err-flags-clause-value c =
    subst (λ r. Answers (new_flags c.args.words.now) r)
    (sym (exit_is c.from_residual.result c.in_err-flags.field-0.0 c.from_residual.ensures.1))
    (flags_end c.args.words.now c.in_err-flags.field-0.0 (flags_at c.args.words.now _ (Err c.in_err-flags.field-0.0)
    c.empty.ensures c.in_err-flags.ensures.value))

pub returns-in_err-check_mrs-clause-value : goal.returns-in_err-check_mrs-clause-value
returns-in_err-check_mrs-clause-value c =
    subst (λ r. Answers (new_flags c.args.words.now) r)
    (sym (exit_is c.from_residual-in_err-check_mrs.result c.in_err-check_mrs.field-0.0
    c.from_residual-in_err-check_mrs.ensures.1))
    (mrs_end c.args.words.now c.in_ok-flags.flags c.in_err-check_mrs.field-0.0 (flags_at c.args.words.now _
    (Ok c.in_ok-flags.flags) c.empty.ensures c.in_ok-flags.ensures.value)
    (subst (λ (flags : List Flag). PassesCheck (mrs_fit flags c.args.words.now.mrs) (Err c.in_err-check_mrs.field-0.0))
    c.items.ensures c.in_err-check_mrs.ensures.value))

pub returns-clause-value : goal.returns-clause-value
returns-clause-value c =
    flags_fit c.args.words.now c.in_ok-flags.flags (flags_at c.args.words.now _ (Ok c.in_ok-flags.flags) c.empty.ensures
    c.in_ok-flags.ensures.value)
    (subst (λ (flags : List Flag). PassesCheck (mrs_fit flags c.args.words.now.mrs) (Ok tt)) c.items.ensures
    c.in_ok-check_mrs.ensures.value)
