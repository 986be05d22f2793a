-- Steps that change names which weren't locked.
use Rattle.std.proofs.Common.{◌≡◌, ℕ, ◌<◌, Bool, true, false, List, [], ◌∷◌, drop, length, get_or, Option, IfSome}
use Rattle.std.proofs.Common.{Result, Ok, inl, refl, sym, subst}
use Rattle.std.specs.List.{filter}
use Rattle.std.specs.Prelude.{IsSome}
use Rattle.sccs_name_files.specs.Touches.{Each}
use Rattle.sccs_base.specs.Constants.{file_limit}
use Rattle.sccs_base.specs.Name.{z_file}
use Rattle.sccs_disk.specs.Files.{Content, Folder, Model, view_in}
use Rattle.sccs_disk.specs.Told.{Told, seen}
use Rattle.sccs_name_files.specs.StepFiles.{Shows}
use Rattle.sccs_crash_points.specs.Unlocked.{BeginsUnlockedBut, IsHeldIn, KeepsHeldIn, KeepsOthers, KeptHeld}
use Rattle.sccs_crash_points.specs.Unlocked.{KeptOthers, LeavesOthers}
use Rattle.sccs_crash_points.proofs.Unlocked.{unlocked_same}
use Rattle.sccs_crash_points.proofs.UnlockedBut.{but_of, but_own, but_same, but_then}
use Rattle.sccs_operands.specs.FolderNames.{HasSfilesOf, sfiles_in}
use Rattle.sccs_operands.specs.InputNames.{GivesLines}
use Rattle.sccs_sid.specs.declared.refusals.Refusal.{Refusal}
use Rattle.sccs_steps.specs.Actions.{Action, AreClear, IsHeard, KeepsFiles, input_steps, kind_steps, names_found}
use Rattle.sccs_steps.specs.Actions.{names_given, step_at, steps_of}
use Rattle.sccs_steps.specs.Calls.{World}
use Rattle.sccs_steps.specs.ListStops.{Spares}
use Rattle.sccs_steps.specs.Running.{UnlockedBy}
use Rattle.sccs_steps.specs.StepLists.{NamedStep, SoFar, folder_after, in_turn}
use Rattle.sccs_steps.specs.Unlocked.{AreExempt, ArePlain, IsPlainFor, StepOthers, StepUnlocked}
use Rattle.sccs_steps.specs.declared.operands.OperandKind.TheVariants.{FromInput, Here}
use Rattle.sccs_steps.proofs.KindLaws.{here_names, input_names}
use Rattle.sccs_steps.proofs.Turns.{next_all}

each_as : (P Q : Model → Type 0) (added : List Model) (m : Model) → ((m2 : Model) → P m2 → Q m2) → Each P added m
    → Each Q added m
each_as P Q [] m as_q each = as_q m each
each_as P Q (a ∷ added) m as_q each = (as_q a each.0, each_as P Q added m as_q each.1)

-- a call that leaves the z-file of a name leaves the name held
pub others_hold : (mine : List ℕ → Bool) (n : List ℕ) (a b : Told) → mine (z_file n) ≡ false → KeepsOthers mine a b
    → KeepsHeldIn n a b
others_hold mine n a b other keeps = λ m past is held. by m past held (keeps m past is)
  where
    hold : (m m2 : Model) → IsHeldIn n m → LeavesOthers mine m m2 → IsHeldIn n m2
    hold m m2 held leaves = λ w image. (let old = leaves.images w image in subst (λ (o : Option Content). IsSome o)
        (sym (old.2 (z_file n) other)) (held old.0 old.1))

    by : (m : Model) (past : List Model) → IsHeldIn n m → KeptOthers mine m past b → KeptHeld n m past b
    by m past held kept = record {
      added = kept.added;
      is = kept.is;
      each = each_as (LeavesOthers mine m)
          (IsHeldIn n) kept.added m (λ m2 leaves. hold m m2 held leaves) kept.each;
    }

-- what changes no file
pub unlocked_reading : (x : Action) (n : List ℕ) (a b : Told) → b ≡ a → StepUnlocked x n a b
unlocked_reading x n a b same locks plain = unlocked_same a b same

pub none_unlocked : (x : Action) (steps : Folder → List ℕ → List NamedStep) (given : List ℕ → Type 0) (a b : Told)
    → b ≡ a → UnlockedBy x steps given a b
none_unlocked x steps given a b same = λ w folder i spares clear shows heard exempt plain are. but_same exempt a b same

-- the step of a name
one_by : (x : Action) (n : List ℕ) (exempt : List ℕ → Bool) (a b : Told) (locks reads : Bool) → x.locks ≡ locks
    → x.reads ≡ reads → KeepsFiles x → x.fits n ≡ true → (x.reads ≡ true → b ≡ a)
    → StepUnlocked x n a b → StepOthers x n a b → IsPlainFor x n → (x.locks ≡ false → exempt n ≡ true)
    → BeginsUnlockedBut exempt a b
one_by x n exempt a b true reads l r keeps fits same step others plain is = but_of exempt a b (step l plain)
one_by x n exempt a b false true l r keeps fits same step others plain is = but_same exempt a b (same r)
one_by x n exempt a b false false l r keeps fits same step others plain is = but_own exempt n a b (keeps.names r n fits)
    (plain r) (is l) (others.0 r)

pub one_unlocked : (x : Action) (n name : List ℕ) (given : List ℕ → Type 0) (a b : Told) → KeepsFiles x
    → x.fits n ≡ true → name ≡ n → (x.reads ≡ true → b ≡ a) → StepUnlocked x name a b → StepOthers x name a b
    → UnlockedBy x (λ folder i. step_at x folder i n ∷ []) given a b
one_unlocked x n name given a b keeps fits is same step others = λ w folder i spares clear shows heard exempt plain are.
    one_by x n exempt a b x.locks x.reads refl refl keeps fits same (subst (λ k. StepUnlocked x k a b) is step)
    (subst (λ k. StepOthers x k a b) is others) (plain.0 fits) (are.0 fits)

-- the next one of several
pub next_unlocked : (x : Action) (w : List ℕ → Bool) (m : Folder) (steps : Folder → List ℕ → List NamedStep)
    (things : List (List ℕ)) (k status : ℕ) (item thing : List ℕ) (a b : World) (old now new : Told) (exempt : List ℕ
    → Bool) → thing ≡ get_or things k item → k < length things → b.view ≡ seen now
    → AreClear x w (in_turn steps m things) → SoFar x.rule w m (in_turn steps m things)
    (λ u. in_turn steps u (drop k things)) status a b → ArePlain x (in_turn steps m things)
    → AreExempt x exempt (in_turn steps m things) → BeginsUnlockedBut exempt old now
    → ((u : Folder) → AreClear x w (steps u thing) → Shows w (seen now) (view_in u) → ArePlain x (steps u thing)
    → AreExempt x exempt (steps u thing) → BeginsUnlockedBut exempt now new) → BeginsUnlockedBut exempt old new
next_unlocked x w m steps things k status item thing a b old now new exempt is below told clear so plain are far next =
    but_then exempt old now new far
    (next (folder_after m so.made) (next_all x.rule _ w m steps things k status item thing a b is below so clear)
    (subst (λ v. Shows w v (view_in (folder_after m so.made))) told so.ran.view)
    (next_all x.rule _ w m steps things k status item thing a b is below so plain)
    (next_all x.rule _ w m steps things k status item thing a b is below so are))

-- the steps of names that are these
found_unlocked : (x : Action) (names found : List (List ℕ)) (left : Option (List ℕ)) (a b : Told) (w : List ℕ → Bool)
    (m : Folder) (i : List ℕ) → x.takes ≡ false → names ≡ found → UnlockedBy x (λ m i. steps_of x i m names)
    (IsHeard x.takes left) a b
    → Spares w → AreClear x w (names_found x.rule ∷ steps_of x i m found) → Shows w (seen a) (view_in m)
    → (exempt : List ℕ → Bool) → ArePlain x (names_found x.rule ∷ steps_of x i m found)
    → AreExempt x exempt (names_found x.rule ∷ steps_of x i m found) → BeginsUnlockedBut exempt a b
found_unlocked x names found left a b w m i never is unlocked spares clear shows exempt plain are =
    unlocked w m i spares (subst (λ ns. AreClear x w (steps_of x i m ns)) (sym is) clear.1) shows (inl never) exempt
    (subst (λ ns. ArePlain x (steps_of x i m ns)) (sym is) plain.1)
    (subst (λ ns. AreExempt x exempt (steps_of x i m ns)) (sym is) are.1)

pub here_unlocked : (x : Action) (names : List (List ℕ)) (left left2 : Option (List ℕ)) (old now new : Told)
    → x.takes ≡ false → now ≡ old → IfSome (seen old) (λ v. (u : Folder) → HasSfilesOf v u → names ≡ sfiles_in u)
    → UnlockedBy x (λ m i. steps_of x i m names) (IsHeard x.takes left) now new
    → UnlockedBy x (λ m i. kind_steps x i m [] Here) (IsHeard false left2) old new
here_unlocked x names left left2 old now new never same each unlocked = λ w m i spares clear shows heard exempt plain
    are.
    found_unlocked x names (sfiles_in m) left old new w m i never (here_names w (seen old) m names spares shows each)
    (subst (λ (t : Told). UnlockedBy x (λ m i. steps_of x i m names) (IsHeard x.takes left) t new) same unlocked) spares
    clear shows exempt plain are

pub lines_unlocked : (x : Action) (lines names : List (List ℕ)) (left : Option (List ℕ)) (a b : Told) → x.takes ≡ false
    → names ≡ filter x.fits lines → UnlockedBy x (λ m i. steps_of x i m names) (IsHeard x.takes left) a b
    → UnlockedBy x (λ m i. input_steps x i m (Ok (filter x.fits lines))) (IsHeard x.takes left) a b
lines_unlocked x lines names left a b never is unlocked = λ w m i spares clear shows heard exempt plain are.
    found_unlocked x names (filter x.fits lines) left a b w m i never is unlocked spares clear shows exempt plain are

pub input_unlocked : (x : Action) (lines : List (List ℕ)) (left left2 : Option (List ℕ)) (a b : Told) → x.takes ≡ false
    → IfSome left (λ bytes. GivesLines file_limit bytes (Ok lines))
    → UnlockedBy x (λ m i. input_steps x i m (Ok (filter x.fits lines))) (IsHeard x.takes left2) a b
    → UnlockedBy x (λ m i. kind_steps x i m [] FromInput) (IsHeard true left) a b
input_unlocked x lines left left2 a b never told unlocked = λ w m i spares clear shows heard exempt plain are.
    let is : names_given x i ≡ Ok (filter x.fits lines) = input_names x left i lines heard told in
    unlocked w m i spares (subst (λ (ns : Result (List (List ℕ)) Refusal). AreClear x w (input_steps x i m ns)) is
    clear) shows (inl never) exempt
    (subst (λ (ns : Result (List (List ℕ)) Refusal). ArePlain x (input_steps x i m ns)) is plain)
    (subst (λ (ns : Result (List (List ℕ)) Refusal). AreExempt x exempt (input_steps x i m ns)) is are)
