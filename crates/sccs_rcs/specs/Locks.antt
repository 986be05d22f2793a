-- A locked name is one of import's refusals.
use Rattle.std.specs.Prelude.{◌≡◌, Bool, true, Err}
use Rattle.std.proofs.Common.{refl}
use Rattle.sccs_sid.specs.declared.refusals.Refusal.TheVariants.{Locked}
use Rattle.sccs_rcs.specs.ImportStep.{import_change}

pub import_locked : (heading : Bool) → (import_change heading).could (Err Locked) ≡ true
import_locked heading = refl
