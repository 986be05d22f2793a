-- Loops over lists of steps that are followed as long as their status is 0.
use Rattle.std.proofs.Common.{◌≡◌, ◌≢◌, ℕ, zero, suc, List, [], ◌∷◌, Result, Ok, Err, refl}
use Rattle.std.specs.List.{AllByRecursion}
use Rattle.sccs_disk.specs.Files.{Folder}
use Rattle.sccs_steps.specs.Settings.{Setting}
use Rattle.sccs_steps.specs.StepLists.{folder_after}
use Rattle.sccs_steps.specs.declared.faults.Fault.{Fault}
use Rattle.sccs_step_lists.specs.StepLists.{AllTake, StepLists, if_fine, portions_of, steps_along, while_fine}
use Rattle.sccs_step_lists.specs.Following.{RunsStepList}
use Rattle.sccs_step_lists.specs.WhileFine.{BegunIfFine, BegunWhileFine, Following, RunsWhileFine, WholeIfFine}
use Rattle.sccs_step_lists.specs.WhileFine.{WholeWhileFine}
use Rattle.sccs_step_lists.proofs.JoinedStepLists.{step_list_cut, step_list_then}
use Rattle.sccs_step_lists.proofs.Portions.{both_all}
use Rattle.sccs_step_lists.proofs.SaidStepLists.{nothing_step_list}

fine_if : (rest : StepLists) → ((folder : Folder) (i : List ℕ) → AllTake (portions_of rest folder i))
    → (code : ℕ) (folder : Folder) (i : List ℕ) → AllTake (portions_of (if_fine rest code) folder i)
fine_if rest takes zero folder i = takes folder i
fine_if rest takes (suc code) folder i = (λ changes n fits. absurd (cc), tt)

-- what changes files takes the names of s-files alone, in each list of steps
module _ {X : Type 0} (f : Following X) (takes_each : (x : X) (folder : Folder) (i : List ℕ)
    → AllTake (portions_of (f.each x) folder i)) (takes_last : (folder : Folder) (i : List ℕ)
    → AllTake (portions_of f.last folder i)) where
  pub fine_takes : (xs : List X) (folder : Folder) (i : List ℕ)
      → AllTake (portions_of (while_fine f.each f.last xs) folder i)
  fine_takes [] folder i = takes_last folder i
  fine_takes (x ∷ xs) folder i =
      both_all _ (portions_of (f.each x) folder i) (portions_of (if_fine (while_fine f.each f.last xs)
      (f.each x folder i).status) (folder_after folder (steps_along (f.each x) folder i)) i) (takes_each x folder i)
      (fine_if (while_fine f.each f.last xs) (fine_takes xs) (f.each x folder i).status
      (folder_after folder (steps_along (f.each x) folder i)) i)

  -- the next one was followed to its end, with the status 0, and then the others
  pub fine_on : (x : X) (xs : List X) (r : Result ℕ Fault) (s t u : Setting) → RunsStepList (f.each x) (λ i. f.fits x)
      (f.whole x) (f.begun x) (Ok 0) s t → RunsWhileFine f xs r t u → RunsWhileFine f (x ∷ xs) r s u
  fine_on x xs r s t u done next =
      step_list_then (f.each x) (if_fine (while_fine f.each f.last xs)) (λ i. AllByRecursion f.fits (x ∷ xs))
      (λ i. f.fits x) (λ i. AllByRecursion f.fits xs) (f.whole x) (f.begun x)
      (WholeIfFine (WholeWhileFine f.whole f.last_whole xs))
      (BegunIfFine (BegunWhileFine f.whole f.begun f.last_begun xs)) 0 r s t u (λ i are. are.0) (λ i are. are.1)
      (fine_if (while_fine f.each f.last xs) (fine_takes xs)) done next

  -- with another status, which stands
  fine_stop : (x : X) (xs : List X) (code : ℕ) (s t : Setting) → RunsStepList (f.each x) (λ i. f.fits x) (f.whole x)
      (f.begun x) (Ok (suc code)) s t → RunsWhileFine f (x ∷ xs) (Ok (suc code)) s t
  fine_stop x xs code s t done =
      step_list_then (f.each x) (if_fine (while_fine f.each f.last xs)) (λ i. AllByRecursion f.fits (x ∷ xs))
      (λ i. f.fits x) (λ i. AllByRecursion f.fits xs) (f.whole x) (f.begun x)
      (WholeIfFine (WholeWhileFine f.whole f.last_whole xs))
      (BegunIfFine (BegunWhileFine f.whole f.begun f.last_begun xs)) (suc code) (Ok (suc code)) s t t
      (λ i are. are.0) (λ i are. are.1) (fine_if (while_fine f.each f.last xs) (fine_takes xs)) done
      (nothing_step_list (suc code) (λ i. AllByRecursion f.fits xs) (λ ts. ts ≡ []) t)

  pub fine_ends : (x : X) (xs : List X) (status : ℕ) (s t : Setting) → status ≢ 0 → RunsStepList (f.each x)
      (λ i. f.fits x) (f.whole x) (f.begun x) (Ok status) s t → RunsWhileFine f (x ∷ xs) (Ok status) s t
  fine_ends x xs zero s t other done = absurd (other refl)
  fine_ends x xs (suc code) s t other done = fine_stop x xs code s t done

  -- it ended early
  pub fine_cut : (x : X) (xs : List X) (fault : Fault) (s t : Setting) → RunsStepList (f.each x) (λ i. f.fits x)
      (f.whole x) (f.begun x) (Err fault) s t → RunsWhileFine f (x ∷ xs) (Err fault) s t
  fine_cut x xs fault s t cut =
      step_list_cut (f.each x) (if_fine (while_fine f.each f.last xs)) (λ i. AllByRecursion f.fits (x ∷ xs))
      (λ i. f.fits x) (f.whole x) (f.begun x)
      (WholeIfFine (WholeWhileFine f.whole f.last_whole xs))
      (BegunIfFine (BegunWhileFine f.whole f.begun f.last_begun xs)) fault s t (λ i are. are.0)
      (fine_if (while_fine f.each f.last xs) (fine_takes xs)) cut
