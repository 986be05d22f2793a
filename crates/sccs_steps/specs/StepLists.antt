-- Lists of steps: what they write and leave, and how a call that makes them ends.
use Rattle.std.specs.Prelude.{◌≡◌, ◌⊎◌, ℕ, zero, suc, ◌<◌, Bool, true, false, ◌||◌, List, [], ◌∷◌, ◌++◌, length}
use Rattle.std.specs.Prelude.{flat_map, Option, None, Some, Result, Ok, Err}
use Rattle.std.specs.Str.{bytes_eq}
use Rattle.sccs_base.specs.Name.{z_file}
use Rattle.sccs_base.specs.Stream.{GivesOk, GivesSome}
use Rattle.sccs_disk.specs.Files.{Folder, View, view_in}
use Rattle.sccs_name_files.specs.StepFiles.{Files, Shows, early_moved, moved, moved_in}
use Rattle.sccs_intents.specs.Intents.{intent_file, plan_file}
use Rattle.sccs_steps.specs.FirstFiles.{first_moved}
use Rattle.sccs_steps.specs.StepEffects.{StepEffect, Outcome, effect_of}
use Rattle.sccs_steps.specs.Calls.{World}
use Rattle.sccs_steps.specs.Statuses.{idle_status, joined_status}
use Rattle.sccs_steps.specs.declared.faults.Fault.{Fault}
use Rattle.sccs_steps.specs.declared.faults.Fault.TheVariants.{Memory, ReadFault, WriteFault, DiskFault}
use Rattle.sccs_steps.specs.declared.statuses.StatusRule.{StatusRule}

-- The files of one name, where they change.
pub record Move : Type 0 where
  pub name : List ℕ
  pub new : Option Files

-- A step of a name; a step of several names has further ones, whose files change with it.
pub record NamedStep : Type 0 where
  pub name : List ℕ
  pub effect : StepEffect
  pub more : List Move

abbrev pub named_step : List ℕ → Outcome → NamedStep
named_step name o = record { name = name; effect = effect_of name o; more = [] }

-- all that a step moves, in the order in which it is moved
abbrev pub moves_of : NamedStep → List Move
moves_of t = record { name = t.name; new = t.effect.new } ∷ t.more

-- the folder after moves
abbrev pub all_moved_in : Folder → List Move → Folder
all_moved_in m [] = m
all_moved_in m (x ∷ xs) = all_moved_in (moved_in m x.name x.new) xs

-- the folder after a step
abbrev pub step_in : Folder → NamedStep → Folder
step_in m t = all_moved_in m (moves_of t)

-- the view after moves
abbrev pub all_moved : View → List Move → View
all_moved v [] = v
all_moved v (x ∷ xs) = all_moved (moved v x.name x.new) xs

-- the folder after steps
abbrev pub folder_after : Folder → List NamedStep → Folder
folder_after m [] = m
folder_after m (t ∷ ts) = folder_after (step_in m t) ts

-- the steps of several things in turn, each in the folder that those before left
abbrev pub in_turn : (Folder → List ℕ → List NamedStep) → Folder → List (List ℕ) → List NamedStep
in_turn steps m [] = []
in_turn steps m (thing ∷ things) = steps m thing ++ in_turn steps (folder_after m (steps m thing)) things

-- what steps write on out, and on err
abbrev pub out_of : List NamedStep → List ℕ
out_of ts = flat_map (λ (t : NamedStep). t.effect.text ++ t.effect.out) ts

abbrev pub err_of : List NamedStep → List ℕ
err_of ts = flat_map (λ (t : NamedStep). t.effect.err) ts

-- the status of steps, by the rule of their utility
abbrev pub status_of : StatusRule → List NamedStep → ℕ
status_of rule [] = idle_status rule
status_of rule (t ∷ ts) = joined_status rule t.effect.status (status_of rule ts)

-- what the next step prints before its commit
abbrev pub next_text : List NamedStep → List ℕ
next_text [] = []
next_text (t ∷ ts) = t.effect.text

-- the folder after the next step
abbrev pub next_folder : Folder → List NamedStep → Folder
next_folder m [] = m
next_folder m (t ∷ ts) = step_in m t

-- each working file is gone, or as it was
abbrev pub AreAllCleared : (List ℕ → Bool) → Option View → Option View → Type 0
AreAllCleared w None new = Unit {0}
AreAllCleared w (Some u) None = ⊥
AreAllCleared w (Some u) (Some v) = (k : List ℕ) → w k ≡ true → (v k ≡ None) ⊎ (v k ≡ u k)

-- All steps are made: out and err have all that they write, the disk shows the last folder, and the working files
-- that they made are gone.
pub record Ran (w : List ℕ → Bool) (m : Folder) (ts : List NamedStep) (a b : World) : Type 0 where
  pub view : Shows w b.view (view_in (folder_after m ts))
  pub cleared : AreAllCleared w a.view b.view
  pub out : GivesOk a.out b.out (out_of ts)
  pub err : GivesOk a.err b.err (err_of ts)

-- what is told is a view, or that in which the l-file of the next step is new
abbrev pub ShowsEarly : (List ℕ → Bool) → List NamedStep → Option View → View → Type 0
ShowsEarly w [] told v = Shows w told v
ShowsEarly w (t ∷ ts) told v = (first : Bool) × Shows w told (early_moved first v t.name t.effect.new)

-- Some steps are made, of the next one at most the l-file is new, and no byte of a later report is written; the working
-- files that they and the next step made are gone.
pub record Stopped (w : List ℕ → Bool) (m : Folder) (ts : List NamedStep) (a b : World) : Type 0 where
  pub made : List NamedStep
  pub rest : List NamedStep
  pub is : ts ≡ made ++ rest
  pub view : ShowsEarly w rest b.view (view_in (folder_after m made))
  pub cleared : AreAllCleared w a.view b.view
  pub out : GivesSome a.out b.out (out_of made ++ next_text rest)
  pub err : GivesSome a.err b.err (err_of made)

-- the z-file of a further name, and the plan and the intent of a step that has further names
abbrev pub is_left_of : List Move → List ℕ → Bool
is_left_of [] k = false
is_left_of (x ∷ xs) k = is_left_of xs k || (bytes_eq (z_file x.name) k || (bytes_eq plan_file k || bytes_eq intent_file
    k))

-- working files, and the z-files of the next step
abbrev pub left_by : (List ℕ → Bool) → List NamedStep → List ℕ → Bool
left_by w [] k = w k
left_by w (t ∷ ts) k = is_left_of t.more k || (w k || bytes_eq (z_file t.name) k)

-- the view after so many of moves, and some first files of the next one
abbrev pub first_moves : ℕ → ℕ → View → List Move → View
first_moves whole some v [] = v
first_moves zero some v (x ∷ xs) = first_moved some v x.name x.new
first_moves (suc whole) some v (x ∷ xs) = first_moves whole some (moved v x.name x.new) xs

-- what is told is a view, or that after some first files of the next step, but for its z-files
abbrev pub ShowsNext : (List ℕ → Bool) → List NamedStep → Option View → View → Type 0
ShowsNext w [] told v = Shows w told v
ShowsNext w (t ∷ ts) told v = (whole : ℕ) × (some : ℕ) × Shows (left_by w (t ∷ ts)) told (first_moves whole some v
    (moves_of t))

-- The same where the disk failed: of the next step some first of l-file, s-file, p-file and g-file are new.
pub record ListInterrupted (w : List ℕ → Bool) (m : Folder) (ts : List NamedStep) (a b : World) : Type 0 where
  pub made : List NamedStep
  pub rest : List NamedStep
  pub is : ts ≡ made ++ rest
  pub view : ShowsNext w rest b.view (view_in (folder_after m made))
  pub out : GivesSome a.out b.out (out_of made ++ next_text rest)
  pub err : GivesSome a.err b.err (err_of made)

-- the same, and some step is still to be made
abbrev pub Waits : (List ℕ → Bool) → Folder → List NamedStep → World → World → Type 0
Waits w m ts a b = (s : Stopped w m ts a b) × (0 < length s.rest)

abbrev pub Stops : (List ℕ → Bool) → Fault → Folder → List NamedStep → World → World → Type 0
Stops w Memory m ts a b = Waits w m ts a b
Stops w ReadFault m ts a b = Waits w m ts a b
Stops w WriteFault m ts a b = Stopped w m ts a b
Stops w DiskFault m ts a b = ListInterrupted w m ts a b

-- what a call that makes these steps answers, and leaves
abbrev pub Runs : StatusRule → (List ℕ → Bool) → Result ℕ Fault → Folder → List NamedStep → World → World → Type 0
Runs rule w (Ok status) m ts a b = (status ≡ status_of rule ts) × Ran w m ts a b
Runs rule w (Err fault) m ts a b = Stops w fault m ts a b

-- Some of all the steps are made, and left says which are still to be made on the folder that they left.
pub record SoFar (rule : StatusRule) (w : List ℕ → Bool) (m : Folder) (all : List NamedStep) (left : Folder
    → List NamedStep) (status : ℕ) (a b : World) : Type 0 where
  pub made : List NamedStep
  pub is : all ≡ made ++ left (folder_after m made)
  pub code : status ≡ status_of rule made
  pub ran : Ran w m made a b

-- what is left are some steps and then others
abbrev pub Parts : (Folder → List NamedStep) → (Folder → List NamedStep) → (Folder → List NamedStep) → Type 0
Parts left first rest = (u : Folder) → left u ≡ first u ++ rest (folder_after u (first u))
