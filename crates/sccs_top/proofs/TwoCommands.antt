-- Two commands, the second where the status of the first is 0.
use Rattle.std.proofs.Common.{◌≡◌, ◌≢◌, Bool, true, false, ℕ, zero, suc, List, [], Option, Some, None, Result, Ok, Err}
use Rattle.std.proofs.Common.{refl, subst}
use Rattle.sccs_base.specs.Stream.{Rose}
use Rattle.sccs_disk.specs.Files.{Folder}
use Rattle.sccs_words.specs.Meaning.{meaning}
use Rattle.sccs_words.specs.declared.commands.Command.{Command}
use Rattle.sccs_words.specs.declared.commands.Usage.{Usage}
use Rattle.sccs_steps.specs.Settings.{Setting}
use Rattle.sccs_steps.specs.declared.faults.Fault.{Fault}
use Rattle.sccs_step_lists.specs.StepLists.{AllTake, if_fine, portions_of}
use Rattle.sccs_step_lists.specs.Following.{RunsStepList}
use Rattle.sccs_step_lists.specs.QuietSettings.{with_input}
use Rattle.sccs_step_lists.specs.WhileFine.{BegunIfFine, WholeIfFine}
use Rattle.sccs_step_lists.proofs.FineLoops.{fine_takes}
use Rattle.sccs_step_lists.proofs.JoinedStepLists.{step_list_cut, step_list_then}
use Rattle.sccs_step_lists.proofs.QuietStepLists.{step_list_heard, step_list_with}
use Rattle.sccs_step_lists.proofs.SaidStepLists.{nothing_step_list}
use Rattle.sccs_batch.specs.declared.entries.BatchEntry.{BatchEntry}
use Rattle.sccs_batch.proofs.BatchStepLists.{batch_take}
use Rattle.sccs_soak.specs.Commands.{soak_commands}
use Rattle.sccs_soak.specs.Soak.{soak_step_list, soaking}
use Rattle.sccs_soak.proofs.SoakStepLists.{soaked_takes}
use Rattle.sccs_top.specs.CommandLaws.{command_takes}
use Rattle.sccs_top.specs.Runs.{AsksFor, AsksMeant, BegunMeant, BegunOf, Caller, FitsEntry, LeavesInput, RunsAsked}
use Rattle.sccs_top.specs.Runs.{RunsMeant, WholeMeant, WholeOf, caller_by, step_list_by, entry_command, list_in}
use Rattle.sccs_top.specs.Runs.{meant_step_list, next_step_list}
use Rattle.sccs_top.specs.declared.asking.Asked.TheVariants as ask
use Rattle.sccs_top.specs.declared.commands.CommandList.{CommandList}
use Rattle.sccs_top.specs.declared.commands.CommandList.TheVariants as list
use Rattle.sccs_base.proofs.Rises.{never_rose}

-- ---- what changes files takes the names of s-files alone

entry_takes : (quiet : Bool) (place : List ℕ) (e : BatchEntry) (folder : Folder) (i : List ℕ)
    → AllTake (portions_of (entry_command quiet place e) folder i)
entry_takes quiet place e folder i = command_takes (caller_by quiet e.stamp place) (meaning e.words) folder e.input

soak_takes : (place : List ℕ) (number : ℕ) (folder : Folder) (i : List ℕ)
    → AllTake (portions_of (soak_step_list (entry_command true place) number) folder i)
soak_takes place number folder i =
    fine_takes (soaking (entry_command true place) (FitsEntry true place) (WholeOf true place) (BegunOf true place)
    number)
    (λ (e : BatchEntry) m j. soaked_takes (entry_command true place e) (entry_takes true place e) m j)
    (λ m j. ((λ changes n fits. absurd (cc)), tt)) (soak_commands number) folder i

list_takes : (o : Option CommandList) (who : Caller) (command : Command) (folder : Folder) (i : List ℕ)
    → AllTake (portions_of (step_list_by o who command) folder i)
list_takes (Some list.Batch) who command folder i = batch_take (entry_command false who.place)
    (entry_takes false who.place) folder i
list_takes (Some (list.Soak number)) who command folder i = soak_takes who.place number folder i
list_takes None who command folder i = command_takes who (Ok command) folder i

meant_takes : (who : Caller) (meant : Result Command Usage) (folder : Folder) (i : List ℕ)
    → AllTake (portions_of (meant_step_list who meant) folder i)
meant_takes who (Err usage) folder i = command_takes who (Err usage) folder i
meant_takes who (Ok command) folder i = list_takes (list_in command) who command folder i

fine_take : (who : Caller) (next : Result Command Usage) (code : ℕ) (folder : Folder) (i : List ℕ)
    → AllTake (portions_of (if_fine (next_step_list who next) code) folder i)
fine_take who next zero folder i = meant_takes who next folder []
fine_take who next (suc code) folder i = (λ changes n fits. absurd (cc), tt)

-- ---- what follows a first command

abbrev RunsNext : Caller → Result Command Usage → Result ℕ Fault → Setting → Setting → Type 0
RunsNext who next r s t = RunsStepList (next_step_list who next) (λ i. AsksMeant who next (Some []) [])
    (WholeMeant who next) (BegunMeant who next) r s t

-- beside the input of the first, which it leaves
pub next_runs : (who : Caller) (next : Result Command Usage) (r : Result ℕ Fault) (s t : Setting)
    (left : Option (List ℕ)) (count : ℕ) → s.left ≡ Some [] → s.faults.input ≡ 0 → t.faults.input ≡ 0
    → RunsMeant who next r s t → RunsNext who next r (with_input left count s) (with_input left count t)
next_runs who next r s t left count is none none2 runs =
    step_list_heard (next_step_list who next) (λ i. AsksMeant who next (Some []) []) (WholeMeant who next)
    (BegunMeant who next) r s t left left count none none2
    (step_list_with (meant_step_list who next) [] (AsksMeant who next (Some [])) (WholeMeant who next)
    (BegunMeant who next) r s t
    (subst (λ (l : Option (List ℕ)). RunsStepList (meant_step_list who next) (AsksMeant who next l)
    (WholeMeant who next) (BegunMeant who next) r s t) is runs))

-- ---- both

module _ (who : Caller) (first : Command) (next : Result Command Usage) where
  abbrev Both : Result ℕ Fault → Setting → Setting → Type 0
  Both r s t = RunsAsked who (Ok (ask.Two first next)) r s t

  pub both_run : (r : Result ℕ Fault) (s t u : Setting) → RunsMeant who (Ok first) (Ok 0) s t → RunsNext who next r t u
      → Both r s u
  both_run r s t u done more =
      step_list_then (meant_step_list who (Ok first)) (if_fine (next_step_list who next))
      (AsksFor who (ask.Two first next) s.left) (AsksMeant who (Ok first) s.left)
      (λ i. AsksMeant who next (Some []) [])
      (WholeMeant who (Ok first)) (BegunMeant who (Ok first)) (WholeIfFine (WholeMeant who next))
      (BegunIfFine (BegunMeant who next)) 0 r s t u (λ i given. given.0) (λ i given. given.1) (fine_take who next)
      done more

  pub first_ends : (status : ℕ) (s t : Setting) → status ≢ 0 → RunsMeant who (Ok first) (Ok status) s t
      → Both (Ok status) s t
  first_ends zero s t other done = absurd (other refl)
  first_ends (suc code) s t other done =
      step_list_then (meant_step_list who (Ok first)) (if_fine (next_step_list who next))
      (AsksFor who (ask.Two first next) s.left) (AsksMeant who (Ok first) s.left)
      (λ i. AsksMeant who next (Some []) [])
      (WholeMeant who (Ok first)) (BegunMeant who (Ok first)) (WholeIfFine (WholeMeant who next))
      (BegunIfFine (BegunMeant who next)) (suc code) (Ok (suc code)) s t t (λ i given. given.0) (λ i given. given.1)
      (fine_take who next) done
      (nothing_step_list (suc code) (λ i. AsksMeant who next (Some []) []) (λ ts. ts ≡ []) t)

  pub first_cut : (fault : Fault) (s t : Setting) → RunsMeant who (Ok first) (Err fault) s t → Both (Err fault) s t
  first_cut fault s t cut =
      step_list_cut (meant_step_list who (Ok first)) (if_fine (next_step_list who next))
      (AsksFor who (ask.Two first next) s.left) (AsksMeant who (Ok first) s.left)
      (WholeMeant who (Ok first)) (BegunMeant who (Ok first)) (WholeIfFine (WholeMeant who next))
      (BegunIfFine (BegunMeant who next)) fault s t (λ i given. given.0) (fine_take who next) cut

-- the input is left as the first one leaves it
pub both_leave : (who : Caller) (first : Command) (next : Result Command Usage) (one : ℕ) (r : Result ℕ Fault)
    (s t a b : Setting) → LeavesInput who first (Ok one) s t → a.faults.input ≡ 0 → b.faults.input ≡ 0
    → RunsMeant who next r a b
    → LeavesInput who first r s t
both_leave who first next one r s t a b leaves none none2 runs free =
    let before = leaves free in
    record {
      same = before.same;
      quiet = before.quiet;
      cause =
          λ fault. never_rose (subst (λ k. Rose 0 k) none2 (subst (λ k. Rose k b.faults.input) none
          (runs.causes.read fault)));
    }
