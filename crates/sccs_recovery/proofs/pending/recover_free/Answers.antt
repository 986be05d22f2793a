use Rattle.std.proofs.lemmas.Result.{err_from_is_err_and}
use Rattle.std.proofs.Common.{IfSome, subst}
use Rattle.sccs_disk.specs.Files.{View}
use Rattle.sccs_disk.specs.Told.{Told, seen}
use Rattle.sccs_intents.specs.Intents.{intent_file}
use Rattle.sccs_recovery.specs.Checks.{PassesChecks, checked, free_checked}
use Rattle.sccs_recovery.proofs.IntentLaws.{both_told, clean_since, free_ends, free_passes, free_waits, kept_ends}
use Rattle.sccs_recovery.proofs.IntentLaws.{kept_refuses}
use Rattle.sccs_recovery.proofs.ReadingLaws.{some_map}
use Rattle.sccs_recovery.proofs.pending.recover_free.Goals as goal

pub returns-clause-clean : goal.returns-clause-clean
returns-clause-clean g c = clean_since c.recover.result (g.D.Disk.told c.args.disk.now)
    (g.D.Disk.told c.check_intent.new.disk) c.args.name.now c.check_intent.ensures.same c.recover.ensures.clean

pub returns-clause-checks : goal.returns-clause-checks
returns-clause-checks g c =
    both_told (seen (g.D.Disk.told c.args.disk.now)) _ _ (λ (v : View). PassesChecks (free_checked c.args.name.now v)
    c.recover.result) (λ v free passes. free_passes c.args.name.now c.recover.result v free passes)
    c.in_ok-check_intent.ensures.checks
    (subst (λ (t : Told). IfSome (seen t) (λ (v : View). PassesChecks (checked c.args.name.now v) c.recover.result))
    c.check_intent.ensures.same c.recover.ensures.checks)

pub returns-clause-pending : goal.returns-clause-pending
returns-clause-pending g c = some_map (seen (g.D.Disk.told c.args.disk.now)) (λ (v : View) free. free_waits
    (v intent_file) _ _ free) c.in_ok-check_intent.ensures.checks

pub returns-clause-ends : goal.returns-clause-ends
returns-clause-ends g c = free_ends c.args.name.now (g.D.Disk.told c.args.disk.now)
    (g.D.Disk.told c.check_intent.new.disk) (g.D.Disk.told c.recover.new.disk) _ _ _ c.recover.result
    c.check_intent.ensures.same c.check_intent.ensures.causes.later c.recover.ensures.ends

pub returns-in_err-check_intent-clause-checks : goal.returns-in_err-check_intent-clause-checks
returns-in_err-check_intent-clause-checks g c =
    let p = err_from_is_err_and c.from_residual.result c.from_residual.ensures.1 in
    rw (p.1, p.2) (some_map (seen (g.D.Disk.told c.args.disk.now)) (λ (v : View) refuses.
    kept_refuses c.args.name.now c.in_err-check_intent.field-0.0 v refuses) c.in_err-check_intent.ensures.checks)

pub returns-in_err-check_intent-clause-ends : goal.returns-in_err-check_intent-clause-ends
returns-in_err-check_intent-clause-ends g c =
    let p = err_from_is_err_and c.from_residual.result c.from_residual.ensures.1 in
    rw (p.1, p.2) (kept_ends c.args.name.now c.in_err-check_intent.field-0.0 (g.D.Disk.told c.args.disk.now)
    (g.D.Disk.told c.check_intent.new.disk) _ _ c.check_intent.ensures.same c.in_err-check_intent.ensures.causes
    c.in_err-check_intent.ensures.within)
