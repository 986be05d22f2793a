-- A get that writes no g-file and no l-file changes no file, and one that does changes these alone.
use Rattle.std.proofs.Common.{◌≡◌, ℕ, Bool, true, false, not, ◌||◌, List, Option, None, Some, Result, Ok, Err, refl, ap}
use Rattle.std.proofs.Common.{subst, ◌∙◌}
use Rattle.std.specs.Prelude.{if◌then◌else◌, unwrap_or}
use Rattle.sccs_base.specs.Name.{sfile_name_decides}
use Rattle.sccs_sid.specs.Reading.{◌>>=◌}
use Rattle.sccs_sid.specs.declared.moments.Stamp.{Stamp}
use Rattle.sccs_sid.specs.declared.refusals.Refusal.{Refusal}
use Rattle.sccs_words.specs.declared.commands.GetWords.{GetWords}
use Rattle.sccs_name_files.specs.StepFiles.{Files}
use Rattle.sccs_steps.specs.Actions.{KeepsFiles, LeavesLocked}
use Rattle.sccs_steps.specs.StepEffects.{Outcome, StepEffect}
use Rattle.sccs_get.specs.SummaryStep.{summary_got, summed, with_l, writes_l}
use Rattle.sccs_get.specs.VersionStep.{get_action, get_outcome, get_effect, given_text, lines_got, located_of}
use Rattle.sccs_get.specs.VersionStep.{stays_writable, with_g, writes_g}

-- what is accepted changes no file
LeavesFiles : Outcome → Type 0
LeavesFiles o = (d : StepEffect) → o ≡ Ok d → d.new ≡ None

passed_leaves : {A : Type 0} (r : Result A Refusal) (rest : A → Outcome) → ((x : A) → LeavesFiles (rest x))
    → LeavesFiles (r >>= rest)
unfolding LeavesFiles
passed_leaves (Ok x) rest leaves d is = leaves x d is
passed_leaves (Err refusal) rest leaves d is = absurd cc

none_new : (l g : Bool) (f f2 : Files) → not (g || l) ≡ true → (if l then Some f else if g then Some f2 else None)
    ≡ None
none_new true true f f2 is = absurd cc
none_new true false f f2 is = absurd cc
none_new false true f f2 is = absurd cc
none_new false false f f2 is = refl

got_leaves : (e : StepEffect) → e.new ≡ None → LeavesFiles (Ok e)
unfolding LeavesFiles
got_leaves e none d is = let same : e ≡ d = cc in subst (λ (x : StepEffect). x.new ≡ None) same none

outcome_leaves : (words : GetWords) (stamp : Stamp) (place : List ℕ) (heading : Bool) (n : List ℕ) (f : Files)
    → not (writes_g words || writes_l words) ≡ true → LeavesFiles (get_outcome words stamp place heading n f)
unfolding get_outcome
outcome_leaves words stamp place heading n f reads =
    passed_leaves (located_of words stamp place n f) _ (λ x.
    got_leaves (summed words (summary_got words x.parsed.header.records x.found) f
    (get_effect words heading n x.parsed.header.records f x.found (lines_got x.found x.parsed.items)))
    (none_new (writes_l words) (writes_g words) _ _ reads))

quiet : (words : GetWords) (stamp : Stamp) (place : List ℕ) (heading : Bool) (n : List ℕ) (f : Files) (d : StepEffect)
    → not (writes_g words || writes_l words) ≡ true → get_outcome words stamp place heading n f ≡ Ok d → d.new ≡ None
unfolding LeavesFiles
quiet words stamp place heading n f d reads is = outcome_leaves words stamp place heading n f reads d is

-- ---- a new g-file and a new l-file change no other file

-- what is accepted changes the g-file and the l-file alone
ChangesG : Files → Outcome → Type 0
ChangesG f o = (d : StepEffect) → o ≡ Ok d → (g : Files) → d.new ≡ Some g → LeavesLocked f g

passed_locked : {A : Type 0} (r : Result A Refusal) (f : Files) (rest : A → Outcome) → ((x : A) → ChangesG f (rest x))
    → ChangesG f (r >>= rest)
unfolding ChangesG
passed_locked (Ok x) f rest leaves d is = leaves x d is
passed_locked (Err refusal) f rest leaves d is = absurd cc

-- the files by whether there is a new l-file, and a new g-file
abbrev new_by : (l g : Bool) → Files → List ℕ → List ℕ → Bool → Option Files
new_by l g f summary text writable = let new : Option Files = if g then Some (with_g f text writable) else None in
    if l then Some (with_l summary (unwrap_or new f)) else new

l_leaves : (l g : Bool) (f h : Files) (summary text : List ℕ) (writable : Bool) → new_by l g f summary text writable
    ≡ Some h → LeavesLocked f h
l_leaves true true f h summary text writable is = let same : with_l summary (with_g f text writable) ≡ h = cc in
    subst (LeavesLocked f) same (record { s = refl; p = refl; z = refl })
l_leaves true false f h summary text writable is = let same : with_l summary f ≡ h = cc in subst (LeavesLocked f) same
    (record { s = refl; p = refl; z = refl })
l_leaves false true f h summary text writable is = let same : with_g f text writable ≡ h = cc in
    subst (LeavesLocked f) same (record { s = refl; p = refl; z = refl })
l_leaves false false f h summary text writable is = absurd cc

got_locked : (f : Files) (e : StepEffect) → ((g : Files) → e.new ≡ Some g → LeavesLocked f g) → ChangesG f (Ok e)
unfolding ChangesG
got_locked f e leaves d is g new = let same : e ≡ d = cc in leaves g (ap (λ (x : StepEffect). x.new) same ∙ new)

outcome_locked : (words : GetWords) (stamp : Stamp) (place : List ℕ) (heading : Bool) (n : List ℕ) (f : Files)
    → ChangesG f (get_outcome words stamp place heading n f)
unfolding get_outcome
outcome_locked words stamp place heading n f =
    passed_locked (located_of words stamp place n f) f _ (λ x.
    got_locked f (summed words (summary_got words x.parsed.header.records x.found) f
    (get_effect words heading n x.parsed.header.records f x.found (lines_got x.found x.parsed.items)))
    (λ h new. l_leaves (writes_l words) (writes_g words) f h (summary_got words x.parsed.header.records x.found)
    (given_text words x.parsed.header.records x.found (lines_got x.found x.parsed.items)) (stays_writable words)
    new))

locked : (words : GetWords) (stamp : Stamp) (place : List ℕ) (heading : Bool) (n : List ℕ) (f : Files) (d : StepEffect)
    → get_outcome words stamp place heading n f ≡ Ok d → (g : Files) → d.new ≡ Some g → LeavesLocked f g
unfolding ChangesG
locked words stamp place heading n f d is g new = outcome_locked words stamp place heading n f d is g new

pub get_keeps : (words : GetWords) (stamp : Stamp) (place : List ℕ) (heading : Bool)
    → KeepsFiles (get_action words stamp place heading)
get_keeps words stamp place heading = record {
  quiet = λ reads n input named files d is. quiet words stamp place heading n files d reads is;
  names = λ changes n fits. ((sfile_name_decides n).0 fits).1;
  locked = λ changes locks n input named files d is there g new. locked words stamp place heading n files d is g new;
  pending = λ changes never n i v f d there is. absurd cc;
}
