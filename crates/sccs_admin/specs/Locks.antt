-- A locked name is one of admin's refusals.
use Rattle.std.specs.Prelude.{◌≡◌, true, Err}
use Rattle.std.proofs.Common.{refl}
use Rattle.sccs_sid.specs.declared.moments.Stamp.{Stamp}
use Rattle.sccs_sid.specs.declared.refusals.Refusal.TheVariants.{Locked}
use Rattle.sccs_words.specs.declared.commands.AdminWords.{AdminWords}
use Rattle.sccs_admin.specs.AdminStep.{admin_change}

pub admin_locked : (words : AdminWords) (stamp : Stamp) → (admin_change words stamp).could (Err Locked) ≡ true
admin_locked words stamp = refl
