use Rattle.std.proofs.Common.{refl}
use Rattle.sccs_sid.specs.declared.refusals.Refusal.TheVariants.{NoSid, Unsupported}
use Rattle.sccs_alter.specs.CdcStep.{cdc_checks}
use Rattle.sccs_alter.proofs.cdc_checks.changeable.Goals as goal
use Rattle.sccs_changes.proofs.Preparing.{refused_within}

pub returns-in_default-clause-checks : goal.returns-in_default-clause-checks
returns-in_default-clause-checks c = refused_within cdc_checks NoSid refl

pub returns-then-has_text-clause-checks : goal.returns-then-has_text-clause-checks
returns-then-has_text-clause-checks c = refused_within cdc_checks (Unsupported 118) refl
