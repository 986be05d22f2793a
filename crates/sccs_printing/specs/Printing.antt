-- What giving a version answers: to a sink, into a file, or into the y-file of a name.
use Rattle.sccs_sid.specs.Refusal.{number_of}
use Rattle.sccs_sid.specs.declared.refusals.Refusal.TheVariants as refusals
use Rattle.std.specs.Prelude.{◌≡◌, ℕ, Bool, true, false, List, [], ◌∷◌, Option, Some, IfSome, Result, Ok, Err}
use Rattle.sccs_base.specs.Stream.{GivesOk}
use Rattle.sccs_disk.specs.Files.{Content, View, put}
use Rattle.sccs_store.specs.declared.modes.Mode.{Mode}
use Rattle.sccs_store.specs.declared.modes.Mode.TheVariants.{Writable, Protected}
use Rattle.sccs_history.specs.Applied.{live_serials, serials_of}
use Rattle.sccs_history.specs.Numbers.{Falls}
use Rattle.sccs_keywords.specs.Expansion.{HasMoments}
use Rattle.sccs_history.specs.Body.{HistoryLine, is_over}
use Rattle.sccs_history.specs.declared.headers.Item.{Item}
use Rattle.sccs_history.specs.declared.headers.Record.{Record}
use Rattle.sccs_sid.specs.declared.refusals.StepFault.{StepFault}
use Rattle.sccs_sid.specs.declared.refusals.StepFault.TheVariants.{Refused, Memory, ReadFault, WriteFault, DiskFault}
use Rattle.sccs_store.specs.Commits.{Becomes}
use Rattle.sccs_keywords.specs.Forms.{LineForm, formed_text}
use Rattle.sccs_versions.specs.WasRead.{Stood, shown_before}
use Rattle.sccs_printing.specs.Counted.{shown_of}
use Rattle.sccs_printing.specs.declared.shown.Shown.{Shown}

-- the text of a version
abbrev pub version_text : LineForm → List Record → List HistoryLine → List ℕ
version_text form records lines = formed_text form records 1 lines

-- Lines can be given in a form: one with facts has the moments that it expands, and the table's serials fall.
pub record CanForm (form : LineForm) (records : List Record) : Type 0 where
  pub facts : IfSome form.facts HasMoments
  pub table : Falls 65536 (serials_of records)

-- the checks by which a file that is read may be refused, over any disk
abbrev pub file_checks : List ℕ
file_checks =
    number_of refusals.Missing ∷ number_of refusals.TooLong ∷ number_of refusals.NotSccs
    ∷ number_of (refusals.BadSum 0 0) ∷ number_of (refusals.BadFormat 0) ∷ number_of refusals.Encoded
    ∷ number_of (refusals.Changed 0 0 0 0) ∷ []

-- no fault of a file that is read: the disk failed, or there was no memory
abbrev pub IsFaultAroundPrint : StepFault → Type 0
IsFaultAroundPrint Memory = Unit {0}
IsFaultAroundPrint DiskFault = Unit {0}
IsFaultAroundPrint ReadFault = ⊥
IsFaultAroundPrint WriteFault = ⊥
IsFaultAroundPrint (Refused refusal) = ⊥

-- Over any disk: some items are a whole body over live serials, and the text of what the set shows of them was given.
pub record PrintsWhole (form : LineForm) (records : List Record) (set : List ℕ) (shown : Shown)
    (a b : Option (List ℕ)) : Type 0 where
  pub items : List Item
  pub stood : Stood (live_serials records) items
  pub over : is_over items ≡ true
  pub gives : GivesOk a b (version_text form records (shown_before set items))
  pub counted : shown ≡ shown_of form (shown_before set items)

-- ---- a y-file

-- whether it may be written
abbrev pub may_write : Mode → Bool
may_write Writable = true
may_write Protected = false

-- a y-file with a text and a mark
abbrev pub finished_text : Mode → List ℕ → Content
finished_text mode text = record { bytes = text; writable = may_write mode }

-- it was made, with this text; of a told file only the disk or memory can keep it from that
abbrev pub Makes : List ℕ → Mode → List ℕ → LineForm → List HistoryLine → Option View → Option View
    → Result Shown StepFault → Type 0
Makes n mode text form lines old new (Ok shown) = Becomes (λ v. put v n (Some (finished_text mode text))) old new
    × (shown ≡ shown_of form lines)
Makes n mode text form lines old new (Err fault) = IsFaultAroundPrint fault

-- Over any disk: some items are a whole body over live serials, and the y-file has the text of what the set shows of
-- them.
pub record MakesWhole (n : List ℕ) (mode : Mode) (form : LineForm) (records : List Record) (set : List ℕ)
    (shown : Shown) (new : Option View) : Type 0 where
  pub items : List Item
  pub stood : Stood (live_serials records) items
  pub over : is_over items ≡ true
  pub made : IfSome new (λ (v : View). v n ≡ Some
      (finished_text mode (version_text form records (shown_before set items))))
  pub counted : shown ≡ shown_of form (shown_before set items)
