-- A locked name is one of rmdel's refusals.
use Rattle.std.specs.Prelude.{◌≡◌, true, Err}
use Rattle.std.proofs.Common.{refl}
use Rattle.sccs_sid.specs.declared.moments.Stamp.{Stamp}
use Rattle.sccs_sid.specs.declared.sids.Sid.{Sid}
use Rattle.sccs_sid.specs.declared.refusals.Refusal.TheVariants.{Locked}
use Rattle.sccs_rmdel.specs.RmdelStep.{rmdel_change}

pub rmdel_locked : (sid : Sid) (stamp : Stamp) → (rmdel_change sid stamp).could (Err Locked) ≡ true
rmdel_locked sid stamp = refl
