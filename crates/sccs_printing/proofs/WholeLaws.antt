-- A whole version that was given.
use Rattle.std.proofs.Common.{◌≡◌, ℕ, ◌+◌, ◌≤◌, false, List, [], ◌++◌, length, Option, Some, Result, Ok, Err, refl, sym}
use Rattle.std.proofs.Common.{ap, subst, ◌∙◌, arith}
use Rattle.std.specs.Prelude.{IfOk, IsOk, OnOk}
use Rattle.std.proofs.lemmas.List.{length-map}
use Rattle.sccs_disk.specs.Told.{Told}
use Rattle.sccs_history.specs.Applied.{live_serials}
use Rattle.sccs_history.specs.Body.{HistoryLine}
use Rattle.sccs_history.specs.Numbers.{has}
use Rattle.sccs_history.specs.declared.headers.Item.{Item}
use Rattle.sccs_history.specs.declared.headers.Record.{Record}
use Rattle.sccs_sid.specs.declared.refusals.StepFault.{StepFault}
use Rattle.sccs_sid.specs.declared.refusals.StepFault.TheVariants.{Refused, Memory, WriteFault, ReadFault, DiskFault}
use Rattle.sccs_steps.specs.Causes.{PrintCauses}
use Rattle.sccs_keywords.specs.Forms.{LineForm, formed_text, replaces_in, texts}
use Rattle.sccs_versions.specs.Place.{VersionPlace}
use Rattle.sccs_versions.specs.WasRead.{HasRead, shown_before}
use Rattle.sccs_printing.specs.Counted.{with_lines, no_lines, shown_of}
use Rattle.sccs_printing.specs.Giving.{GivesAll, KeepsForm, ReadWhole, giving_form, text_next}
use Rattle.sccs_printing.specs.Printing.{IsFaultAroundPrint, PrintsWhole, version_text}
use Rattle.sccs_printing.specs.Targets.{GivesTo, IsCut, Prints, file_of, target_bytes, held_back}
use Rattle.sccs_printing.specs.declared.givings.Giving.{Giving}
use Rattle.sccs_printing.specs.declared.shown.Shown.{Shown}
use Rattle.sccs_printing.specs.declared.targets.Target.{Target}
use Rattle.sccs_printing.proofs.GivingLaws.{same_shown}
use Rattle.sccs_base.proofs.Rises.{rose_later}

all_given : (lines : List HistoryLine) (given : Result (Unit {0}) StepFault) (g g2 : Giving) (a b : Option (List ℕ))
    → GivesAll lines given g g2 a b → GivesTo (file_of g.target) (text_next g lines) given (held_back g.target)
    (held_back g2.target) a b
all_given lines (Ok done) g g2 a b gives = gives.text
all_given lines (Err fault) g g2 a b gives = gives

-- how giving begins
pub record Begun (form : LineForm) (records : List Record) (target : Target) (g : Giving) : Type 0 where
  pub form_is : giving_form g ≡ form
  pub records_are : g.sids ≡ records
  pub shown_is : g.shown ≡ no_lines
  pub target_is : g.target ≡ target
  pub empty : held_back target ≡ []

text_is : (form : LineForm) (records : List Record) (target : Target) (g : Giving) (lines : List HistoryLine)
    → Begun form records target g → text_next g lines ≡ version_text form records lines
text_is form records target g lines begun =
    ap (λ f. formed_text f g.sids (g.shown.lines + 1) lines) begun.form_is
    ∙ (ap (λ r. formed_text form r (g.shown.lines + 1) lines) begun.records_are
    ∙ ap (λ (s : Shown). formed_text form records (s.lines + 1) lines) begun.shown_is)

-- what a flush makes of what was given
abbrev pub Finishes : Option (List ℕ) → Result (Unit {0}) StepFault → Result Shown StepFault → List ℕ → Option (List ℕ)
    → Option (List ℕ) → Type 0
Finishes file given result held b c = (text : List ℕ) (before : Option (List ℕ))
    → GivesTo file text given [] held before b → Prints file text result before c

pub printed : (form : LineForm) (records : List Record) (lines : List HistoryLine) (given : Result (Unit {0}) StepFault)
    (result : Result Shown StepFault) (target : Target) (g g2 : Giving) (o o2 o3 : Option (List ℕ)) (t t2 t3 : Told)
    → Begun form records target g → KeepsForm g g2
    → GivesAll lines given g g2 (target_bytes (file_of g.target) o t) (target_bytes (file_of g.target) o2 t2)
    → Finishes (file_of g2.target) given result (held_back g2.target) (target_bytes (file_of g2.target) o2 t2)
    (target_bytes (file_of g2.target) o3 t3)
    → Prints (file_of target) (version_text form records lines) result (target_bytes (file_of target) o t)
    (target_bytes (file_of target) o3 t3)
printed form records lines given result target g g2 o o2 o3 t t2 t3 begun keeps gives finish =
    subst (λ f. Finishes f given result (held_back g2.target) (target_bytes f o2 t2) (target_bytes f o3 t3)) (keeps.file
    ∙ ap file_of begun.target_is) finish (version_text form records lines) (target_bytes (file_of target) o t)
    (subst (λ text. GivesTo (file_of target) text given [] (held_back g2.target) (target_bytes (file_of target) o t)
    (target_bytes (file_of target) o2 t2)) (text_is form records target g lines begun)
    (subst (λ held. GivesTo (file_of target) (text_next g lines) given held (held_back g2.target)
    (target_bytes (file_of target) o t) (target_bytes (file_of target) o2 t2)) begun.empty
    (subst (λ (u : Target). GivesTo (file_of u) (text_next g lines) given (held_back u) (held_back g2.target)
    (target_bytes (file_of u) o t) (target_bytes (file_of u) o2 t2)) begun.target_is
    (all_given lines given g g2 (target_bytes (file_of g.target) o t) (target_bytes (file_of g.target) o2 t2) gives))))

shown_all : (form : LineForm) (records : List Record) (target : Target) (g : Giving) (lines : List HistoryLine)
    (s : Shown) → Begun form records target g → s ≡ with_lines (giving_form g) g.shown (texts lines)
    → s ≡ shown_of form lines
shown_all form records target g lines s begun is =
    is ∙ (ap (λ f. with_lines f g.shown (texts lines)) begun.form_is
    ∙ (ap (λ (o : Shown). with_lines form o (texts lines)) begun.shown_is
    ∙ same_shown (0 + length (texts lines)) (length lines) (replaces_in form (texts lines))
    (replaces_in form (texts lines)) (omega (arith, length-map lines (λ (line : HistoryLine). line.text))) refl))

pub found : (form : LineForm) (records : List Record) (lines : List HistoryLine) (given : Result (Unit {0}) StepFault)
    (result : Result Shown StepFault) (target : Target) (g g2 : Giving) (a b : Option (List ℕ))
    → Begun form records target g → GivesAll lines given g g2 a b
    → OnOk result (IsOk given) → IfOk result (λ s. s ≡ g2.shown) → IfOk result (λ s. s ≡ shown_of form lines)
found form records lines (Ok done) (Ok s) target g g2 a b begun gives ok is =
    shown_all form records target g lines s begun (is ∙ gives.shown)
found form records lines (Err fault) (Ok s) target g g2 a b begun gives ok is = absurd cc
found form records lines given (Err fault) target g g2 a b begun gives ok is = tt

pub printed_whole : (form : LineForm) (records : List Record) (set : List ℕ) (r : VersionPlace)
    (given : Result (Unit {0}) StepFault) (result : Result Shown StepFault) (target : Target) (g g2 : Giving)
    (o o2 o3 : Option (List ℕ)) (t t2 t3 : Told) → Begun form records target g → KeepsForm g g2
    → r.set ≡ set → (has set 0 ≡ false → HasRead (live_serials records) r [])
    → OnOk given ((live : List ℕ) (before : List Item) → HasRead live r before → ReadWhole live r.set before g g2
    (target_bytes (file_of g.target) o t) (target_bytes (file_of g.target) o2 t2))
    → OnOk result (IsOk given) → IfOk result (λ s. s ≡ g2.shown) → Finishes (file_of g2.target) given result
    (held_back g2.target) (target_bytes (file_of g2.target) o2 t2) (target_bytes (file_of g2.target) o3 t3)
    → IfOk result (λ s. has set 0 ≡ false → PrintsWhole form records set s (target_bytes (file_of target) o t)
    (target_bytes (file_of target) o3 t3))
printed_whole form records set r (Ok done) (Ok s) target g g2 o o2 o3 t t2 t3 begun keeps set_is start read ok is
    finish = λ zero.
    let w = read (live_serials records) [] (start zero) in
    let lines : shown_before set w.items ≡ w.gone = subst (λ one. shown_before one w.items ≡ shown_before one []
    ++ w.gone) set_is w.whole in
    record {
      items = w.items;
      stood = w.stood;
      over = w.over;
      gives = subst (λ all. Prints (file_of target) (version_text form records all) (Ok s)
          (target_bytes (file_of target) o t) (target_bytes (file_of target) o3 t3)) (sym lines)
          (printed form records w.gone (Ok done) (Ok s) target g g2 o o2 o3 t t2 t3 begun keeps w.gave finish);
      counted = subst (λ all. s ≡ shown_of form all) (sym lines) (shown_all form records target g w.gone s begun (is
          ∙ w.gave.shown));
    }
printed_whole form records set r (Err fault) (Ok s) target g g2 o o2 o3 t t2 t3 begun keeps set_is start read ok is
    finish = absurd cc
printed_whole form records set r given (Err fault) target g g2 o o2 o3 t t2 t3 begun keeps set_is start read ok is
    finish = tt

-- where a file is written only the disk or memory can end it
pub outer_cut : (n text : List ℕ) (fault : StepFault) (a b : Option (List ℕ)) → IsCut (Some n) text fault a b
    → IsFaultAroundPrint fault
outer_cut n text Memory a b cut = tt
outer_cut n text DiskFault a b cut = tt
outer_cut n text WriteFault a b cut = cut
outer_cut n text ReadFault a b cut = cut
outer_cut n text (Refused refusal) a b cut = cut

-- ---- causes

same_fault : {X Y : Type 0} (fault other : StepFault) → ◌≡◌ {A = Result X StepFault} (Err fault) (Err other)
    → ◌≡◌ {A = Result Y StepFault} (Err fault) (Err other)
same_fault fault other is = cc

-- a fault of a call behind others that only read
pub fault_causes : {X Y : Type 0} (fault : StepFault) (out d d2 d3 : ℕ) → d ≤ d2
    → PrintCauses {X = X} (Err fault) out out d2 d3 → PrintCauses {X = Y} (Err fault) out out d d3
fault_causes fault out d d2 d3 low causes = record {
  out_later = causes.out_later;
  disk_later = omega (arith, low, causes.disk_later);
  write = λ e. causes.write (same_fault fault WriteFault e);
  read = λ e. causes.read (same_fault fault ReadFault e);
  broke = λ e. rose_later d d2 d3 low (causes.broke (same_fault fault DiskFault e));
}

pub quiet_causes : {X : Type 0} (x : X) (out d d2 : ℕ) → d ≤ d2 → PrintCauses (Ok x) out out d d2
quiet_causes x out d d2 low = record {
  out_later = omega arith;
  disk_later = low;
  write = λ e. absurd cc;
  read =
      λ e. cc;
  broke = λ e. absurd cc;
}
