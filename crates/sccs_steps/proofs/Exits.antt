-- A call that was left by `?`.
use Rattle.std.proofs.Common.{◌≡◌, Result, Err, ap, ◌∙◌}
use Rattle.std.specs.Result.{IsErrAnd}
use Rattle.std.proofs.lemmas.Result.{err_from_is_err_and}
use Rattle.sccs_steps.specs.declared.faults.Fault.{Fault}

pub exit_is : {A : Type 0} (result : Result A Fault) (fault : Fault) → IsErrAnd result (λ e. e ≡ fault)
    → result ≡ Err fault
exit_is result fault left = let p = err_from_is_err_and result left in p.1 ∙ ap Err p.2
