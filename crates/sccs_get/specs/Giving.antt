-- What giving the text of a version answers, and what is ready behind it: the report, and the new g-file as the y-file.
use Rattle.std.specs.Prelude.{◌≡◌, ◌⊎◌, ℕ, Bool, true, false, List, [], drop, Option, None, Some, IfSome, Result, Ok}
use Rattle.std.specs.Prelude.{Err, if◌then◌else◌}
use Rattle.std.specs.Str.{bytes_eq}
use Rattle.sccs_base.specs.Name.{y_file}
use Rattle.sccs_base.specs.Stream.{GivesOk, GivesSome}
use Rattle.sccs_disk.specs.Files.{View, put}
use Rattle.sccs_disk.specs.Effects.{renamed}
use Rattle.sccs_disk.specs.Told.{Told}
use Rattle.sccs_name_files.specs.StepFiles.{Moves, look}
use Rattle.sccs_store.specs.Placing.{PlaceEnds, PlaceStops}
use Rattle.sccs_history.specs.Body.{HistoryLine}
use Rattle.sccs_history.specs.declared.headers.Record.{Record}
use Rattle.sccs_sid.specs.declared.refusals.StepFault.{StepFault}
use Rattle.sccs_sid.specs.declared.refusals.StepFault.TheVariants.{Refused, Memory, ReadFault, WriteFault, DiskFault}
use Rattle.sccs_printing.specs.Counted.{shown_of}
use Rattle.sccs_printing.specs.declared.shown.Shown.{Shown}
use Rattle.sccs_steps.specs.Calls.{World}
use Rattle.sccs_steps.specs.StepEffects.{Outcome, StepEffect, effect_of}
use Rattle.sccs_crash_points.specs.Recovery.{without_name}
use Rattle.sccs_store.specs.Commits.{Becomes, MayBecome}
use Rattle.sccs_changes.specs.Ends.{IsReportCut, IsReported}
use Rattle.sccs_changes.specs.declared.prepared.Prepared.{Prepared}
use Rattle.sccs_words.specs.declared.commands.GetWords.{GetWords}
use Rattle.sccs_get.specs.VersionStep.{form_got, stays_writable, given_text, with_g, writes_g}
use Rattle.sccs_get.specs.declared.found.Found.{Found}

-- the text goes to out with -p
abbrev pub printed_text : GetWords → List ℕ → List ℕ
printed_text words text = if words.print then text else []

-- the text is the y-file, where it is to be the g-file
abbrev pub with_y : GetWords → List ℕ → List ℕ → View → View
with_y words n text v = if writes_g words then put v (y_file n)
    (Some (record { bytes = text; writable = stays_writable words })) else v

-- Where a text was given.
pub record IsTextGiven (words : GetWords) (n text : List ℕ) (w w2 : World) : Type 0 where
  pub out : GivesOk w.out w2.out (printed_text words text)
  pub view : Becomes (with_y words n text) w.view w2.view

-- no check fails any more
abbrev pub IsLate : StepFault → Type 0
IsLate Memory = Unit {0}
IsLate DiskFault = Unit {0}
IsLate WriteFault = Unit {0}
IsLate ReadFault = ⊥
IsLate (Refused refusal) = ⊥

-- The text of lines was given, and how many they are, and whether a keyword of one was replaced; or a prefix of what
-- goes to out.
abbrev pub GivesVersion : GetWords → List ℕ → List Record → Found → List HistoryLine → Result Shown StepFault → World
    → World → Type 0
GivesVersion words n records found lines (Ok shown) w w2 =
    IsTextGiven words n (given_text words records found lines) w w2 × (words.no_text ≡ false
    → shown ≡ shown_of (form_got words found) lines)
GivesVersion words n records found lines (Err fault) w w2 = IsLate fault × GivesSome w.out w2.out
    (printed_text words (given_text words records found lines))

-- All is ready that a get gives behind its text: what it says, and the y-file where a g-file is to be made.
pub record IsReadied (words : GetWords) (n : List ℕ) (p : Prepared) (o : Outcome) (w w2 : World) : Type 0 where
  pub effect : StepEffect
  pub text : List ℕ
  pub is : o ≡ Ok effect
  pub status : effect.status ≡ 0
  pub report : effect.out ≡ p.report
  pub message : effect.err ≡ p.message
  pub text_is : effect.text ≡ printed_text words text
  pub new : IfSome w.view (λ v. effect.new ≡ (if writes_g words then Some
      (with_g (look v n) text (stays_writable words)) else None))
  pub given : IsTextGiven words n text w w2

-- it is ready; or a check fails, and nothing is given; or something failed behind a prefix of the text
abbrev pub Readies : GetWords → List ℕ → Outcome → Result Prepared StepFault → World → World → Type 0
Readies words n o (Ok p) w w2 = IsReadied words n p o w w2
Readies words n o (Err (Refused refusal)) w w2 = (o ≡ Err refusal) × (w2.out ≡ w.out)
Readies words n o (Err Memory) w w2 = GivesSome w.out w2.out (effect_of n o).text
Readies words n o (Err ReadFault) w w2 = ⊥
Readies words n o (Err WriteFault) w w2 = GivesSome w.out w2.out (effect_of n o).text
Readies words n o (Err DiskFault) w w2 = GivesSome w.out w2.out (effect_of n o).text

-- ---- the end

-- the y-file in the place of the g-file, where there is a text for it
abbrev pub g_placed : GetWords → List ℕ → View → View
g_placed words n v = if writes_g words then renamed (y_file n) (drop 2 n) v else v

-- no y-file, where one may have been made
abbrev pub y_cleared : Bool → List ℕ → View → View
y_cleared has_y n v = if has_y then without_name (y_file n) v else v

-- the g-file is placed, and all is said or a prefix of it; or placing it failed, and nothing is said
abbrev pub FinishesGet : GetWords → List ℕ → Prepared → Result (Unit {0}) StepFault → World → World → Type 0
FinishesGet words n p (Ok done) w w2 = Becomes (g_placed words n) w.view w2.view × IsReported p w w2
FinishesGet words n p (Err WriteFault) w w2 = Becomes (g_placed words n) w.view w2.view × IsReportCut p w w2
FinishesGet words n p (Err DiskFault) w w2 = MayBecome (g_placed words n) w.view w2.view × (w2.out ≡ w.out)
    × (w2.err ≡ w.err)
FinishesGet words n p (Err fault) w w2 = ⊥

-- what a stop leaves of it, where there is a text for the g-file
abbrev pub PlacesG : GetWords → List ℕ → Result (Unit {0}) StepFault → Told → Told → Type 0
PlacesG words n (Ok done) old new = writes_g words ≡ true → PlaceEnds n (drop 2 n) old new
PlacesG words n (Err WriteFault) old new = writes_g words ≡ true → PlaceEnds n (drop 2 n) old new
PlacesG words n (Err fault) old new = writes_g words ≡ true → PlaceStops n (drop 2 n) old new

-- the y-file is gone, where one may have been made, and the answer is the fault; or the disk failed
abbrev pub GivesUpGet : Bool → List ℕ → StepFault → Result (Unit {0}) StepFault → Option View → Option View → Type 0
GivesUpGet has_y n fault r a b =
    ((r ≡ Err fault) × Becomes (y_cleared has_y n) a b) ⊎ ((r ≡ Err DiskFault) × Moves (bytes_eq (y_file n))
    (λ v. v) a b)
