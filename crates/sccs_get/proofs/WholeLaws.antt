-- The version of a whole body, as get gives it over any disk.
use Rattle.std.proofs.Common.{◌≡◌, ℕ, Bool, true, false, List, [], Option, Some, Result, Ok, Err, sym, subst}
use Rattle.std.specs.Prelude.{IfOk, IfSome}
use Rattle.sccs_base.specs.Name.{y_file}
use Rattle.sccs_base.specs.Stream.{GivesOk}
use Rattle.sccs_base.proofs.Gifts.{gives_none}
use Rattle.sccs_disk.specs.Files.{View}
use Rattle.sccs_store.specs.declared.modes.Mode.{Mode}
use Rattle.sccs_history.specs.Numbers.{has}
use Rattle.sccs_history.specs.declared.headers.Record.{Record}
use Rattle.sccs_sid.specs.declared.refusals.StepFault.{StepFault}
use Rattle.sccs_printing.specs.Printing.{MakesWhole, PrintsWhole, may_write, version_text}
use Rattle.sccs_printing.specs.declared.shown.Shown.{Shown}
use Rattle.sccs_keywords.specs.Forms.{LineForm}
use Rattle.sccs_versions.specs.WasRead.{shown_before}
use Rattle.sccs_words.specs.declared.commands.GetWords.{GetWords}
use Rattle.sccs_get.specs.VersionStep.{form_got, stays_writable, writes_g}
use Rattle.sccs_get.specs.Whole.{GivesWhole}
use Rattle.sccs_get.specs.declared.found.Found.{Found}
use Rattle.sccs_get.proofs.GivingLaws.{goes_nowhere, goes_out, none_written}

module _ (words : GetWords) (n : List ℕ) (records : List Record) (found : Found) (form : LineForm)
    (out out2 : Option (List ℕ)) (view : Option View) where
  -- to out, with -p
  printed_whole : (shown : Shown) → words.print ≡ true → form ≡ form_got words found
      → PrintsWhole form records found.set shown out out2 → GivesWhole words n records found shown out out2 view
  printed_whole shown print is whole = by (subst (λ (f : LineForm). PrintsWhole f records found.set shown out out2) is
      whole)
    where
      none : writes_g words ≡ false
      none = none_written words.print words.no_text print

      by : PrintsWhole (form_got words found) records found.set shown out out2
          → GivesWhole words n records found shown out out2 view
      by w = record {
        items = w.items;
        stood = w.stood;
        over = w.over;
        gives = subst (λ t. GivesOk out out2 t)
            (sym (goes_out words.print (version_text (form_got words found) records (shown_before found.set w.items))
            print)) w.gives;
        made = λ writes. absurd cc;
        counted = w.counted;
      }

  -- into the y-file
  made_whole : (shown : Shown) (mode : Mode) → words.print ≡ false → form ≡ form_got words found
      → may_write mode ≡ stays_writable words → out2 ≡ out → MakesWhole (y_file n) mode form records found.set shown
      view → GivesWhole words n records found shown out out2 view
  made_whole shown mode print is may same whole =
      by (subst (λ (f : LineForm). MakesWhole (y_file n) mode f records found.set shown view) is whole)
    where
      by : MakesWhole (y_file n) mode (form_got words found) records found.set shown view
          → GivesWhole words n records found shown out out2 view
      by w = record {
        items = w.items;
        stood = w.stood;
        over = w.over;
        gives = subst (λ t. GivesOk out out2 t)
            (sym (goes_nowhere words.print (version_text (form_got words found) records
            (shown_before found.set w.items)) print)) (subst (λ (o : Option (List ℕ)). GivesOk out o []) (sym same)
            (gives_none out));
        made = λ writes. subst (λ (b : Bool). IfSome view (λ (v : View). v (y_file n) ≡ Some
            (record {
              bytes = version_text (form_got words found) records (shown_before found.set w.items);
              writable =
                  b;
            }))) may w.made;
        counted = w.counted;
      }

  -- the same of what a call answers
  pub prints_whole : (r : Result Shown StepFault) → words.print ≡ true → form ≡ form_got words found
      → IfOk r (λ s. has found.set 0 ≡ false → PrintsWhole form records found.set s out out2)
      → IfOk r (λ s. words.no_text ≡ false → has found.set 0 ≡ false → GivesWhole words n records found s out out2 view)
  prints_whole (Ok s) print is whole = λ text no_zero. printed_whole s print is (whole no_zero)
  prints_whole (Err fault) print is whole = tt

  pub makes_whole : (r : Result Shown StepFault) (mode : Mode) → words.print ≡ false → form ≡ form_got words found
      → may_write mode ≡ stays_writable words → out2 ≡ out
      → IfOk r (λ s. has found.set 0 ≡ false → MakesWhole (y_file n) mode form records found.set s view)
      → IfOk r (λ s. words.no_text ≡ false → has found.set 0 ≡ false → GivesWhole words n records found s out out2 view)
  makes_whole (Ok s) mode print is may same whole = λ text no_zero. made_whole s mode print is may same (whole no_zero)
  makes_whole (Err fault) mode print is may same whole = tt
