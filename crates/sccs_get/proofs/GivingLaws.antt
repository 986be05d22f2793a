-- What giving a text, placing a g-file and giving up say.
use Rattle.std.proofs.Common.{◌≡◌, ◌≤◌, ℕ, Bool, true, false, not, ◌||◌, List, [], drop, Option, None, Some, Result, Ok}
use Rattle.std.proofs.Common.{Err, inl, refl, sym, ap, subst, ◌∙◌}
use Rattle.std.specs.Prelude.{if◌then◌else◌}
use Rattle.std.specs.Result.{IfOk}
use Rattle.sccs_base.specs.Name.{y_file}
use Rattle.sccs_base.specs.Stream.{GivesOk, GivesSome}
use Rattle.sccs_base.proofs.Gifts.{gives_none, some_none}
use Rattle.sccs_sid.specs.declared.refusals.Refusal.{Refusal}
use Rattle.sccs_sid.specs.declared.refusals.StepFault.{StepFault}
use Rattle.sccs_sid.specs.declared.refusals.StepFault.TheVariants.{Refused, Memory, ReadFault, WriteFault, DiskFault}
use Rattle.sccs_disk.specs.Files.{View, put}
use Rattle.sccs_disk.specs.Told.{Told}
use Rattle.sccs_store.specs.Placing.{PlaceEnds}
use Rattle.sccs_store.specs.declared.modes.Mode.{Mode}
use Rattle.sccs_history.specs.Body.{HistoryLine}
use Rattle.sccs_history.specs.declared.headers.Record.{Record}
use Rattle.sccs_keywords.specs.Forms.{LineForm}
use Rattle.sccs_printing.specs.Counted.{shown_of}
use Rattle.sccs_printing.specs.Printing.{Makes, finished_text, may_write, version_text}
use Rattle.sccs_printing.specs.Targets.{Prints}
use Rattle.sccs_printing.specs.declared.shown.Shown.{Shown}
use Rattle.sccs_crash_points.specs.Recovery.{without_name}
use Rattle.sccs_changes.specs.PFiles.{OnlyReads}
use Rattle.sccs_steps.specs.Calls.{world}
use Rattle.sccs_steps.specs.Causes.{PrintCauses}
use Rattle.sccs_store.specs.Commits.{Becomes}
use Rattle.sccs_changes.specs.Ends.{Reports}
use Rattle.sccs_changes.specs.declared.prepared.Prepared.{Prepared}
use Rattle.sccs_words.specs.declared.commands.GetWords.{GetWords}
use Rattle.sccs_get.specs.Giving.{FinishesGet, GivesUpGet, GivesVersion, PlacesG, g_placed, printed_text, with_y}
use Rattle.sccs_get.specs.Giving.{y_cleared}
use Rattle.sccs_get.specs.VersionStep.{form_got, stays_writable, given_text, writes_g}
use Rattle.sccs_get.specs.declared.found.Found.{Found}
use Rattle.sccs_base.proofs.Rises.{never_rose}

-- ---- a text

-- without -g the text is that of the lines
has_text : (b : Bool) (x : List ℕ) → b ≡ false → (if b then [] else x) ≡ x
has_text true x is = absurd cc
has_text false x is = refl

pub goes_out : (b : Bool) (x : List ℕ) → b ≡ true → (if b then x else []) ≡ x
goes_out true x is = refl
goes_out false x is = absurd cc

pub goes_nowhere : (b : Bool) (x : List ℕ) → b ≡ false → (if b then x else []) ≡ []
goes_nowhere true x is = absurd cc
goes_nowhere false x is = refl

pub none_written : (p t : Bool) → p ≡ true → not (p || t) ≡ false
none_written true t is = refl
none_written false t is = absurd cc

some_written : (p t : Bool) → p ≡ false → t ≡ false → not (p || t) ≡ true
some_written true t is no_text = absurd cc
some_written false true is no_text = absurd cc
some_written false false is no_text = refl

same_view : (words : GetWords) (n text : List ℕ) (o o2 : Option View) → writes_g words ≡ false → o2 ≡ o
    → Becomes (with_y words n text) o o2
same_view words n text None o2 none same = same
same_view words n text (Some v) o2 none same = same
    ∙ ap (λ (b : Bool). Some (if b then put v (y_file n)
    (Some (record { bytes = text; writable = stays_writable words })) else v)) (sym none)

-- with -p
pub print_gives : (words : GetWords) (n : List ℕ) (records : List Record) (found : Found) (form : LineForm)
    (lines : List HistoryLine) (r : Result Shown StepFault) (o o2 : Option View) (out out2 err : Option (List ℕ))
    → words.no_text ≡ false → words.print ≡ true → form ≡ form_got words found → o2 ≡ o
    → Prints None (version_text form records lines) r out out2 → IfOk r (λ s. s ≡ shown_of form lines)
    → GivesVersion words n records found lines r (world o out err) (world o2 out2 err)
print_gives words n records found form lines r o o2 out out2 err text print is same prints shown =
    by r (subst (λ (f : LineForm). Prints None (version_text f records lines) r out out2) is prints)
    (subst (λ (f : LineForm). IfOk r (λ s. s ≡ shown_of f lines)) is shown)
  where
    whole : printed_text words (given_text words records found lines) ≡ version_text (form_got words found) records
        lines
    whole = goes_out words.print (given_text words records found lines) print ∙ has_text words.no_text
        (version_text (form_got words found) records lines) text

    by : (r : Result Shown StepFault) → Prints None (version_text (form_got words found) records lines) r out out2
        → IfOk r (λ s. s ≡ shown_of (form_got words found) lines) → GivesVersion words n records found lines r
        (world o out err) (world o2 out2 err)
    by (Ok s) prints shown = (
      record {
        out = subst (λ t. GivesOk out out2 t) (sym whole) prints;
        view =
            same_view words n (given_text words records found lines) o o2 (none_written words.print words.no_text print)
            same;
      },
      λ some. shown,
    )
    by (Err Memory) prints shown = (tt, subst (λ t. GivesSome out out2 t) (sym whole) prints)
    by (Err DiskFault) prints shown = (tt, subst (λ t. GivesSome out out2 t) (sym whole) prints)
    by (Err WriteFault) prints shown = (tt, subst (λ t. GivesSome out out2 t) (sym whole) prints)
    by (Err ReadFault) prints shown = absurd prints
    by (Err (Refused refusal)) prints shown = absurd prints

-- into the y-file
pub y_gives : (words : GetWords) (n : List ℕ) (records : List Record) (found : Found) (form : LineForm) (mode : Mode)
    (lines : List HistoryLine) (r : Result Shown StepFault) (o o2 : Option View) (out err : Option (List ℕ))
    → words.no_text ≡ false → words.print ≡ false → form ≡ form_got words found → may_write mode ≡ stays_writable words
    → Makes (y_file n) mode (version_text form records lines) form lines o o2 r
    → GivesVersion words n records found lines r (world o out err) (world o2 out err)
y_gives words n records found form mode lines r o o2 out err text print is may makes =
    by r (subst (λ (f : LineForm). Makes (y_file n) mode (version_text f records lines) f lines o o2 r) is makes)
  where
    nothing : printed_text words (given_text words records found lines) ≡ []
    nothing = goes_nowhere words.print (given_text words records found lines) print

    content_is : (v : View) → put v (y_file n)
        (Some (finished_text mode (version_text (form_got words found) records lines))) ≡ with_y words n
        (given_text words records found lines) v
    content_is v =
        ap (λ (b : Bool). put v (y_file n)
        (Some (record { bytes = version_text (form_got words found) records lines; writable = b }))) may
        ∙ (ap (λ (t : List ℕ). put v (y_file n) (Some (record { bytes = t; writable = stays_writable words })))
        (sym (has_text words.no_text (version_text (form_got words found) records lines) text))
        ∙ ap (λ (b : Bool). if b then put v (y_file n)
        (Some (record { bytes = given_text words records found lines; writable = stays_writable words })) else v)
        (sym (some_written words.print words.no_text print text)))

    becomes : (o o2 : Option View)
        → Becomes (λ v. put v (y_file n)
        (Some (finished_text mode (version_text (form_got words found) records lines)))) o o2
        → Becomes (with_y words n (given_text words records found lines)) o o2
    becomes None o2 is = is
    becomes (Some v) o2 is = is ∙ ap (λ (w : View). Some w) (content_is v)

    by : (r : Result Shown StepFault) → Makes (y_file n) mode (version_text (form_got words found) records lines)
        (form_got words found) lines o o2 r → GivesVersion words n records found lines r (world o out err)
        (world o2 out err)
    by (Ok s) made = (
      record {
        out = subst (λ t. GivesOk out out t) (sym nothing) (gives_none out);
        view =
            becomes o o2 made.0;
      },
      λ some. made.1,
    )
    by (Err Memory) made = (tt, some_none out _)
    by (Err DiskFault) made = (tt, some_none out _)
    by (Err WriteFault) made = absurd made
    by (Err ReadFault) made = absurd made
    by (Err (Refused refusal)) made = absurd made

-- ---- checks that only read

abbrev bool_fault : StepFault → Result Bool StepFault
bool_fault fault = Err fault

abbrev unit_fault : StepFault → Result (Unit {0}) StepFault
unit_fault fault = Err fault

pub passed_frame : {D : Type 0} (told : D → Told) (faults : D → ℕ) (disk disk2 : D) → told disk2 ≡ told disk
    → faults disk ≤ faults disk2 → OnlyReads {T = Unit {0}} told faults disk disk2 (Ok tt)
passed_frame told faults disk disk2 same later =
    record { same = same; later = later; cause = λ is. absurd cc; read = λ is. cc; write = λ is. cc }

pub refused_frame : {D : Type 0} (told : D → Told) (faults : D → ℕ) (disk disk2 : D) (refusal : Refusal)
    → told disk2 ≡ told disk → faults disk ≤ faults disk2 → OnlyReads {T = Unit {0}} told faults disk disk2
    (Err (Refused refusal))
refused_frame told faults disk disk2 refusal same later =
    record { same = same; later = later; cause = λ is. absurd cc; read = λ is. cc; write = λ is. cc }

pub failed_frame : {D : Type 0} (told : D → Told) (faults : D → ℕ) (disk disk2 : D) (fault : StepFault)
    → told disk2 ≡ told disk → PrintCauses (bool_fault fault) 0 0 (faults disk) (faults disk2)
    → OnlyReads {T = Unit {0}} told faults disk disk2 (Err fault)
failed_frame told faults disk disk2 fault same causes = record {
  same = same;
  later = causes.disk_later;
  cause = λ is. causes.broke (ap bool_fault (fault_is DiskFault is));
  read = λ is. causes.read (ap bool_fault (fault_is ReadFault is));
  write = λ is. never_rose (causes.write (ap bool_fault (fault_is WriteFault is)));
}
  where
    fault_is : (other : StepFault) → unit_fault fault ≡ Err other → fault ≡ other
    fault_is other is = cc

-- ---- the g-file placed, and what is said

pub placed_reported : (words : GetWords) (n : List ℕ) (p : Prepared) (r : Result (Unit {0}) StepFault)
    (o o2 : Option View) (out out2 err err2 : Option (List ℕ)) → Becomes (g_placed words n) o o2
    → Reports r p (world o2 out err) (world o2 out2 err2) → FinishesGet words n p r (world o out err)
    (world o2 out2 err2)
placed_reported words n p (Ok done) o o2 out out2 err err2 placed reports =
    (placed, record { out = reports.out; err = reports.err })
placed_reported words n p (Err WriteFault) o o2 out out2 err err2 placed reports =
    (placed, record { out = reports.out; err = reports.err })
placed_reported words n p (Err (Refused refusal)) o o2 out out2 err err2 placed reports = absurd reports
placed_reported words n p (Err Memory) o o2 out out2 err err2 placed reports = absurd reports
placed_reported words n p (Err ReadFault) o o2 out out2 err err2 placed reports = absurd reports
placed_reported words n p (Err DiskFault) o o2 out out2 err err2 placed reports = absurd reports

pub placed_so : (words : GetWords) (n : List ℕ) (p : Prepared) (r : Result (Unit {0}) StepFault) (o : Option View)
    (out out2 err err2 : Option (List ℕ)) (a b : Told) → Reports r p (world o out err) (world o out2 err2)
    → (writes_g words ≡ true → PlaceEnds n (drop 2 n) a b) → PlacesG words n r a b
placed_so words n p (Ok done) o out out2 err err2 a b reports ends = ends
placed_so words n p (Err WriteFault) o out out2 err err2 a b reports ends = ends
placed_so words n p (Err (Refused refusal)) o out out2 err err2 a b reports ends = absurd reports
placed_so words n p (Err Memory) o out out2 err err2 a b reports ends = absurd reports
placed_so words n p (Err ReadFault) o out out2 err err2 a b reports ends = absurd reports
placed_so words n p (Err DiskFault) o out out2 err err2 a b reports ends = absurd reports

-- ---- giving up

pub kept_up : (has_y : Bool) (n : List ℕ) (fault : StepFault) (o : Option View) → has_y ≡ false
    → GivesUpGet has_y n fault (Err fault) o o
kept_up has_y n fault o none = inl (refl, by o)
  where
    by : (o : Option View) → Becomes (y_cleared has_y n) o o
    by None = refl
    by (Some v) = ap (λ (b : Bool). Some (if b then without_name (y_file n) v else v)) (sym none)

pub fault_so : (fault : StepFault) → unit_fault fault ≡ Err DiskFault → fault ≡ DiskFault
fault_so fault is = cc
