-- A locked name is one of delta's refusals.
use Rattle.std.specs.Prelude.{◌≡◌, true, Err}
use Rattle.std.proofs.Common.{refl}
use Rattle.sccs_sid.specs.declared.moments.Stamp.{Stamp}
use Rattle.sccs_sid.specs.declared.refusals.Refusal.TheVariants.{Locked}
use Rattle.sccs_words.specs.declared.commands.DeltaWords.{DeltaWords}
use Rattle.sccs_delta.specs.DeltaStep.{delta_change}

pub delta_locked : (words : DeltaWords) (stamp : Stamp) → (delta_change words stamp).could (Err Locked) ≡ true
delta_locked words stamp = refl
