-- What a get gives over any disk: the version of some whole body.
use Rattle.std.specs.Prelude.{◌≡◌, ℕ, Bool, true, List, Option, None, Some, IfSome, Ok}
use Rattle.sccs_base.specs.Name.{y_file}
use Rattle.sccs_base.specs.Stream.{GivesOk}
use Rattle.sccs_sid.specs.declared.moments.Stamp.{Stamp}
use Rattle.sccs_sid.specs.declared.sids.Sid.{Sid}
use Rattle.sccs_disk.specs.Files.{View}
use Rattle.sccs_history.specs.Applied.{live_serials}
use Rattle.sccs_history.specs.Body.{is_over}
use Rattle.sccs_history.specs.History.{IsHeader}
use Rattle.sccs_history.specs.declared.headers.Header.{Header}
use Rattle.sccs_history.specs.declared.headers.Item.{Item}
use Rattle.sccs_history.specs.declared.headers.Record.{Record}
use Rattle.sccs_versions.specs.WasRead.{Stood, shown_before}
use Rattle.sccs_printing.specs.Counted.{shown_of}
use Rattle.sccs_printing.specs.Printing.{version_text}
use Rattle.sccs_printing.specs.declared.shown.Shown.{Shown}
use Rattle.sccs_changes.specs.declared.prepared.Prepared.{Prepared}
use Rattle.sccs_words.specs.declared.commands.GetWords.{GetWords}
use Rattle.sccs_get.specs.Giving.{printed_text}
use Rattle.sccs_get.specs.Reports.{get_warning, said_on_err, said_on_out}
use Rattle.sccs_get.specs.VersionStep.{form_got, found_version, report_on, stays_writable, writes_g}
use Rattle.sccs_get.specs.declared.found.Found.{Found}

-- the y-file has this text
abbrev pub IsInY : GetWords → List ℕ → List ℕ → Option View → Type 0
IsInY words n text view =
    IfSome view (λ (v : View). v (y_file n) ≡ Some (record { bytes = text; writable = stays_writable words }))

-- Some items are a whole body over live serials, and the text of what the set shows of them went to out with -p, else
-- into the y-file.
pub record GivesWhole (words : GetWords) (n : List ℕ) (records : List Record) (found : Found) (shown : Shown)
    (out out2 : Option (List ℕ)) (view : Option View) : Type 0 where
  pub items : List Item
  pub stood : Stood (live_serials records) items
  pub over : is_over items ≡ true
  pub gives : GivesOk out out2 (printed_text words (version_text (form_got words found) records
      (shown_before found.set items)))
  pub made : writes_g words ≡ true → IsInY words n (version_text (form_got words found) records
      (shown_before found.set items)) view
  pub counted : shown ≡ shown_of (form_got words found) (shown_before found.set items)

-- The text of what the found set shows of a whole body was given, and is reported, with the SID that is to be made on
-- it.
pub record GivesFound (words : GetWords) (heading : Bool) (n : List ℕ) (records : List Record) (found : Found)
    (made : Option Sid) (p : Prepared) (out out2 : Option (List ℕ)) (view : Option View) : Type 0 where
  pub shown : Shown
  pub whole : GivesWhole words n records found shown out out2 view
  pub report : p.report ≡ said_on_out words (report_on words heading n found made shown.lines)
  pub message : p.message ≡ said_on_err words (report_on words heading n found made shown.lines)
      (get_warning words n shown.keywords)

-- A header that keeps the rules was read, the version that is asked for is found in it, and was given.
pub record GivesAsked (words : GetWords) (stamp : Stamp) (place : List ℕ) (heading : Bool) (n : List ℕ) (p : Prepared)
    (out out2 : Option (List ℕ)) (view : Option View) : Type 0 where
  pub header : Header
  pub rules : IsHeader header
  pub found : Found
  pub is : found_version words stamp place n header ≡ Ok found
  pub gives : GivesFound words heading n header.records found None p out out2 view
