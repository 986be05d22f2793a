-- How the call of a step ends.
use Rattle.std.specs.Prelude.{◌≡◌, ℕ, ◌⊎◌, List, [], ◌++◌, Option, None, Result, Ok, Err}
use Rattle.sccs_base.specs.Stream.{GivesOk, GivesSome}
use Rattle.sccs_sid.specs.declared.refusals.StepFault.{StepFault}
use Rattle.sccs_sid.specs.declared.refusals.StepFault.TheVariants.{Refused, Memory, ReadFault, WriteFault, DiskFault}
use Rattle.sccs_disk.specs.Files.{View}
use Rattle.sccs_disk.specs.Told.{Told, seen}
use Rattle.sccs_name_files.specs.StepFiles.{AreCleared, Files, Moves, MovesEarly, is_working, moved}
use Rattle.sccs_steps.specs.FirstFiles.{MovesInOrder}
use Rattle.sccs_steps.specs.StepEffects.{StepEffect, Outcome, effect_of}

-- a disk and two sinks, as they are told
pub record World : Type 0 where
  pub view : Option View
  pub out : Option (List ℕ)
  pub err : Option (List ℕ)

abbrev pub world : Option View → Option (List ℕ) → Option (List ℕ) → World
world v o e = record { view = v; out = o; err = e }

-- the same with all that the disk tells
pub record Scene : Type 0 where
  pub told : Told
  pub out : Option (List ℕ)
  pub err : Option (List ℕ)

abbrev pub scene : Told → Option (List ℕ) → Option (List ℕ) → Scene
scene t o e = record { told = t; out = o; err = e }

abbrev pub shown : Scene → World
shown a = world (seen a.told) a.out a.err

-- Nothing is committed, though the l-file may be new; the working files that the step made are gone, and a prefix of
-- the text is written.
pub record Uncommitted (n : List ℕ) (new : Option Files) (text : List ℕ) (w w2 : World) : Type 0 where
  pub view : MovesEarly n new w.view w2.view
  pub cleared : AreCleared n w.view w2.view
  pub out : GivesSome w.out w2.out text
  pub err : w2.err ≡ w.err

-- The step is made, and the working files that it made are gone.
pub record Made (n : List ℕ) (d : StepEffect) (w w2 : World) : Type 0 where
  pub view : Moves (is_working n) (λ v. moved v n d.new) w.view w2.view
  pub cleared : AreCleared n w.view w2.view
  pub out : GivesOk w.out w2.out (d.text ++ d.out)
  pub err : GivesOk w.err w2.err d.err

-- The step is committed, the working files that it made are gone, and a prefix of its report is written.
pub record ReportCut (n : List ℕ) (d : StepEffect) (w w2 : World) : Type 0 where
  pub status : d.status ≡ 0
  pub view : Moves (is_working n) (λ v. moved v n d.new) w.view w2.view
  pub cleared : AreCleared n w.view w2.view
  pub out : GivesSome w.out w2.out (d.text ++ d.out)
  pub err : GivesSome w.err w2.err d.err

-- The disk failed: some first of l-file, s-file, p-file and g-file are as the step makes them and the others as they
-- were, and a prefix of the text is written.
pub record Interrupted (n : List ℕ) (o : Outcome) (w w2 : World) : Type 0 where
  pub view : MovesInOrder n (effect_of n o).new w.view w2.view
  pub out : GivesSome w.out w2.out (effect_of n o).text
  pub err : w2.err ≡ w.err

-- what a step leaves that was refused, or cut short
abbrev pub Fails : StepFault → List ℕ → Outcome → World → World → Type 0
Fails (Refused refusal) n o w w2 = (o ≡ Err refusal) × Uncommitted n None [] w w2
Fails Memory n o w w2 = Uncommitted n (effect_of n o).new (effect_of n o).text w w2
Fails ReadFault n o w w2 = Uncommitted n (effect_of n o).new (effect_of n o).text w w2
Fails WriteFault n o w w2 = Uncommitted n (effect_of n o).new (effect_of n o).text w w2 ⊎ ((d : StepEffect) × (o ≡ Ok d)
    × ReportCut n d w w2)
Fails DiskFault n o w w2 = Interrupted n o w w2

-- what the call of a step answers, and leaves; code is the status that an answer stands for
abbrev pub Meets : {X : Type 0} → (X → ℕ) → Result X StepFault → List ℕ → Outcome → World → World → Type 0
Meets code (Ok x) n o w w2 = (d : StepEffect) × (o ≡ Ok d) × (d.status ≡ code x) × Made n d w w2
Meets code (Err fault) n o w w2 = Fails fault n o w w2
