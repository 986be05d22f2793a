-- How a text is printed part by part, some of it being held back.
use Rattle.std.specs.Prelude.{ℕ, List, [], ◌++◌, Option, Result, Ok, Err}
use Rattle.sccs_base.specs.Stream.{Buffers, GivesOk, GivesSome}
use Rattle.sccs_history.specs.declared.headers.Item.{Item}
use Rattle.sccs_sid.specs.declared.refusals.StepFault.{StepFault}
use Rattle.sccs_sid.specs.declared.refusals.StepFault.TheVariants.{Refused, Memory, ReadFault, WriteFault, DiskFault}
use Rattle.sccs_table.specs.declared.fronts.Front.{Front}
use Rattle.sccs_versions.specs.Coming.{IsBody}
use Rattle.sccs_prs.specs.PrsText.{ShownFile}

-- All of a text was given behind what was held back; or a prefix of both. No check fails.
abbrev pub GivesHeld : {T : Type 0} → List ℕ → Result T StepFault → List ℕ → List ℕ → Option (List ℕ) → Option (List ℕ)
    → Type 0
GivesHeld text (Ok x) held held2 a b = Buffers held text held2 a b
GivesHeld text (Err Memory) held held2 a b = GivesSome a b (held ++ text)
GivesHeld text (Err DiskFault) held held2 a b = GivesSome a b (held ++ text)
GivesHeld text (Err WriteFault) held held2 a b = GivesSome a b (held ++ text)
GivesHeld text (Err ReadFault) held held2 a b = ⊥
GivesHeld text (Err (Refused refusal)) held held2 a b = ⊥

-- the same where nothing is held back before it and behind it
abbrev pub PrintsAll : {T : Type 0} → List ℕ → Result T StepFault → Option (List ℕ) → Option (List ℕ) → Type 0
PrintsAll text (Ok x) a b = GivesOk a b text
PrintsAll text (Err Memory) a b = GivesSome a b text
PrintsAll text (Err DiskFault) a b = GivesSome a b text
PrintsAll text (Err WriteFault) a b = GivesSome a b text
PrintsAll text (Err ReadFault) a b = ⊥
PrintsAll text (Err (Refused refusal)) a b = ⊥

-- the file is told whole, a front was read from it, and its body has these items
abbrev pub IsListedFile : Option (List ℕ) → Front → List ℕ → List Item → Type 0
IsListedFile told front file items = IsBody told front [] file items

-- an s-file that is shown, by its front and items
abbrev pub shown_by : Front → List Item → List ℕ → List ℕ → ShownFile
shown_by front items n place = record { header = front.header; items = items; name = n; place = place }
