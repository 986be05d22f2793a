-- A locked name is one of cdc's refusals.
use Rattle.std.specs.Prelude.{◌≡◌, true, Err}
use Rattle.std.proofs.Common.{refl}
use Rattle.sccs_sid.specs.declared.moments.Stamp.{Stamp}
use Rattle.sccs_sid.specs.declared.refusals.Refusal.TheVariants.{Locked}
use Rattle.sccs_words.specs.declared.commands.CdcWords.{CdcWords}
use Rattle.sccs_alter.specs.CdcStep.{cdc_change}

pub cdc_locked : (words : CdcWords) (stamp : Stamp) → (cdc_change words stamp).could (Err Locked) ≡ true
cdc_locked words stamp = refl
