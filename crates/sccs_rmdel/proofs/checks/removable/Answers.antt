use Rattle.std.proofs.Common.{◌∙◌, ap, refl, sym}
use Rattle.sccs_sid.specs.declared.refusals.Refusal.TheVariants.{NoSid}
use Rattle.sccs_rmdel.specs.Leaves.{live_delta}
use Rattle.sccs_rmdel.specs.RmdelStep.{rmdel_checks}
use Rattle.sccs_rmdel.proofs.CheckLaws.{found_live}
use Rattle.sccs_rmdel.proofs.checks.removable.Goals as goal
use Rattle.sccs_changes.proofs.Preparing.{refused_within}

pub returns-in_default-clause-checks : goal.returns-in_default-clause-checks
returns-in_default-clause-checks c = refused_within rmdel_checks NoSid refl

pub returns-clause-live : goal.returns-clause-live
returns-clause-live c =
    found_live c.args.header.now.records c.args.sid c.in-Some.delta.now (ap (λ l. live_delta l c.args.sid)
    (sym c.items-records.ensures) ∙ sym c.in-Some.ensures)
