-- A locked name is one of the refusals.
use Rattle.std.specs.Prelude.{◌≡◌, true, Err}
use Rattle.std.proofs.Common.{refl}
use Rattle.sccs_sid.specs.declared.refusals.Refusal.TheVariants.{Locked}
use Rattle.sccs_words.specs.declared.commands.AdminWords.{AdminWords}
use Rattle.sccs_alter.specs.AlterStep.{alter_change}

pub alter_locked : (words : AdminWords) → (alter_change words).could (Err Locked) ≡ true
alter_locked words = refl
