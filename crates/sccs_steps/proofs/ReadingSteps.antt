-- How the call of a step ends that changes no file, over a disk that tells what it told.
use Rattle.std.proofs.Common.{◌≡◌, ℕ, false, List, [], Option, None, Some, Err, inr, refl, sym, subst}
use Rattle.sccs_base.specs.Stream.{GivesSome}
use Rattle.sccs_base.proofs.Gifts.{some_none}
use Rattle.sccs_disk.specs.Files.{View}
use Rattle.sccs_sid.specs.declared.refusals.StepFault.{StepFault}
use Rattle.sccs_sid.specs.declared.refusals.StepFault.TheVariants.{Refused, Memory, ReadFault, WriteFault, DiskFault}
use Rattle.sccs_name_files.specs.StepFiles.{AreCleared, Files, Moves, is_left, is_working}
use Rattle.sccs_steps.specs.StepEffects.{Outcome, effect_of}
use Rattle.sccs_steps.specs.Calls.{Meets, Uncommitted, Interrupted, world}

pub same_cleared : (view : View) (told : Option View) (name : List ℕ) → told ≡ Some view
    → AreCleared name (Some view) told
same_cleared view told name same = subst (λ (t : Option View). AreCleared name (Some view) t) (sym same)
    (λ k h. inr refl)

pub kept : (view : View) (told : Option View) (name : List ℕ) (new : Option Files) (text : List ℕ)
    (out out2 err : Option (List ℕ)) → told ≡ Some view → GivesSome out out2 text → Uncommitted name new text
    (world (Some view) out err) (world told out2 err)
kept view told name new text out out2 err same gives = record {
  view = (false, subst (λ (t : Option View). Moves (is_working name) (λ v. v) (Some view) t) (sym same) (λ k h. refl));
  cleared = same_cleared view told name same;
  out = gives;
  err = refl;
}

pub broken : (view : View) (told : Option View) (name : List ℕ) (o : Outcome) (out out2 err : Option (List ℕ))
    → told ≡ Some view → GivesSome out out2 (effect_of name o).text → Interrupted name o (world (Some view) out err)
    (world told out2 err)
broken view told name o out out2 err same gives = record {
  view = (0, subst (λ (t : Option View). Moves (is_left name) (λ v. v) (Some view) t) (sym same) (λ k h. refl));
  out = gives;
  err = refl;
}

-- why a step ended before it printed
abbrev pub Explains : Outcome → StepFault → Type 0
Explains o (Refused refusal) = o ≡ Err refusal
Explains o Memory = Unit {0}
Explains o DiskFault = Unit {0}
Explains o ReadFault = ⊥
Explains o WriteFault = ⊥

pub ends_silent : (view : View) (told : Option View) (name : List ℕ) (o : Outcome) (fault : StepFault)
    (out err : Option (List ℕ)) → told ≡ Some view → Explains o fault → Meets (λ (done : Unit {0}). 0)
    (Err fault) name o (world (Some view) out err) (world told out err)
ends_silent view told name o (Refused refusal) out err same why =
    (why, kept view told name None [] out out err same (some_none out []))
ends_silent view told name o Memory out err same why = kept view told name (effect_of name o).new
    (effect_of name o).text out out err same (some_none out (effect_of name o).text)
ends_silent view told name o DiskFault out err same why = broken view told name o out out err same
    (some_none out (effect_of name o).text)
ends_silent view told name o ReadFault out err same why = absurd why
ends_silent view told name o WriteFault out err same why = absurd why
