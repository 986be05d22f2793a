-- A locked name is one of the refusals of get -e.
use Rattle.std.specs.Prelude.{◌≡◌, ℕ, Bool, true, List, Err}
use Rattle.std.proofs.Common.{refl}
use Rattle.sccs_sid.specs.declared.moments.Stamp.{Stamp}
use Rattle.sccs_sid.specs.declared.refusals.Refusal.TheVariants.{Locked}
use Rattle.sccs_words.specs.declared.commands.GetWords.{GetWords}
use Rattle.sccs_get.specs.EditStep.{edit_change}

pub edit_locked : (words : GetWords) (stamp : Stamp) (place : List ℕ) (heading : Bool)
    → (edit_change words stamp place heading).could (Err Locked) ≡ true
edit_locked words stamp place heading = refl
