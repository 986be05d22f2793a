-- What tell and check print, and how their call ends.
use Rattle.std.proofs.Common.{◌≡◌, ℕ, ◌≤◌, Bool, false, List, [], Option, None, Some, Result, Ok, Err, IfSome, inl}
use Rattle.std.proofs.Common.{refl, sym, ap, subst, ◌∙◌, append-nil}
use Rattle.sccs_base.specs.Stream.{GivesOk, GivesSome}
use Rattle.sccs_base.proofs.Gifts.{gives_none, some_none}
use Rattle.sccs_disk.specs.Files.{View}
use Rattle.sccs_disk.specs.Told.{Told, seen}
use Rattle.sccs_sid.specs.Reading.{◌>>=◌}
use Rattle.sccs_sid.specs.declared.refusals.Refusal.{Refusal}
use Rattle.sccs_sid.specs.declared.refusals.StepFault.{StepFault}
use Rattle.sccs_sid.specs.declared.refusals.StepFault.TheVariants.{Refused, Memory, ReadFault, WriteFault, DiskFault}
use Rattle.sccs_name_files.specs.StepFiles.{Files, look, is_working, Moves}
use Rattle.sccs_pfile.specs.declared.entries.Edit.{Edit}
use Rattle.sccs_changes.specs.PFiles.{Answers}
use Rattle.sccs_steps.specs.Actions.{IsHeard, RefusesWithin, SteppedAs}
use Rattle.sccs_steps.specs.Causes.{PrintCauses}
use Rattle.sccs_steps.specs.Calls.{Meets, World, scene, shown, world}
use Rattle.sccs_steps.specs.StepEffects.{Outcome}
use Rattle.sccs_steps.proofs.ReadingSteps.{broken, kept, same_cleared}
use Rattle.sccs_edit.specs.SactStep.{found_edits}
use Rattle.sccs_edit.specs.Keeps.{step_is}
use Rattle.sccs_edit.specs.PendingStep.{MeetsPending, PrintsPending, pending_action, pending_status, pending_step}
use Rattle.sccs_edit.specs.PendingStep.{pending_text, shows_pending}
use Rattle.sccs_base.proofs.Rises.{never_rose}

-- ---- how the call ends

answered_step : (whole : Bool) (n : List ℕ) (f : Files) (r : Result (List Edit) Refusal) → found_edits f ≡ r
    → pending_step whole n f ≡ (r >>= λ edits. Ok (shows_pending whole n edits))
answered_step whole n f r is = step_is whole n f ∙ ap (λ (o : Result (List Edit) Refusal). o >>= λ edits.
    Ok (shows_pending whole n edits)) is

printed : (whole : Bool) (n : List ℕ) (edits : List Edit) (v : View) (told2 : Option View) (r : Result Bool StepFault)
    (out out2 err : Option (List ℕ)) → told2 ≡ Some v → PrintsPending whole n edits out out2 r
    → Meets (pending_status whole) r n (Ok (shows_pending whole n edits)) (world (Some v) out err)
    (world told2 out2 err)
printed whole n edits v told2 (Ok found) out out2 err same prints = (
  shows_pending whole n edits,
  refl,
  ap (pending_status whole) (sym prints.1),
  record {
    view = subst (λ (t : Option View). Moves (is_working n) (λ u. u) (Some v) t) (sym same) (λ k h. refl);
    cleared = same_cleared v told2 n same;
    out = subst (λ (l : List ℕ). GivesOk out out2 l) (sym (append-nil (pending_text whole n edits))) prints.0;
    err = gives_none err;
  },
)
printed whole n edits v told2 (Err Memory) out out2 err same prints =
    kept v told2 n _ (pending_text whole n edits) out out2 err same
    (subst (λ (o : Option (List ℕ)). GivesSome out o (pending_text whole n edits)) (sym prints)
    (some_none out (pending_text whole n edits)))
printed whole n edits v told2 (Err WriteFault) out out2 err same prints =
    inl (kept v told2 n _ (pending_text whole n edits) out out2 err same prints)
printed whole n edits v told2 (Err DiskFault) out out2 err same prints = absurd prints
printed whole n edits v told2 (Err (Refused refusal)) out out2 err same prints = absurd prints
printed whole n edits v told2 (Err ReadFault) out out2 err same prints = absurd prints

-- the entries were found and printed
pub prints_entries : (whole : Bool) (n : List ℕ) (edits : List Edit) (r : Result Bool StepFault)
    (told told2 : Option View) (out out2 : Option (List ℕ)) → told2 ≡ told
    → IfSome told (λ (v : View). Answers (found_edits (look v n)) (Ok edits))
    → PrintsPending whole n edits out out2 r → MeetsPending whole n r told told2 out out2
prints_entries whole n edits r None told2 out out2 same answers prints = tt
prints_entries whole n edits r (Some v) told2 out out2 same answers prints = λ err.
    subst (λ (o : Outcome). Meets (pending_status whole) r n o (world (Some v) out err) (world told2 out2 err))
    (sym (answered_step whole n (look v n) (Ok edits) answers)) (printed whole n edits v told2 r out out2 err same
    prints)

-- they weren't found
unread : (whole : Bool) (n : List ℕ) (fault : StepFault) (v : View) (told2 : Option View) (out err : Option (List ℕ))
    → told2 ≡ Some v → Answers {A = List Edit} (found_edits (look v n)) (Err fault)
    → Meets (pending_status whole) (Err fault) n (pending_step whole n (look v n)) (world (Some v) out err)
    (world told2 out err)
unread whole n (Refused refusal) v told2 out err same answers = (
  answered_step whole n (look v n) (Err refusal) answers,
  kept v told2 n None [] out out err same (some_none out []),
)
unread whole n Memory v told2 out err same answers = kept v told2 n _ _ out out err same (some_none out _)
unread whole n DiskFault v told2 out err same answers = broken v told2 n (pending_step whole n (look v n)) out out err
    same (some_none out _)
unread whole n ReadFault v told2 out err same answers = absurd answers
unread whole n WriteFault v told2 out err same answers = absurd answers

pub finds_none : (whole : Bool) (n : List ℕ) (fault : StepFault) (told told2 : Option View) (out : Option (List ℕ))
    → told2 ≡ told → IfSome told (λ (v : View). Answers {A = List Edit} (found_edits (look v n)) (Err fault))
    → MeetsPending whole n (Err fault) told told2 out out
finds_none whole n fault None told2 out same answers = tt
finds_none whole n fault (Some v) told2 out same answers = λ err. unread whole n fault v told2 out err same answers

-- ---- why it is refused

pub within_answer : {A B : Type 0} (checks : List ℕ) (fault : StepFault) → RefusesWithin {X = A} checks (Err fault)
    → RefusesWithin {X = B} checks (Err fault)
within_answer checks fault within = λ refusal is. within refusal (let e : fault ≡ Refused refusal = cc in ap Err e)

-- ---- the status

-- the call meets its step
pending_stepped : (whole : Bool) (n : List ℕ) (r : Result Bool StepFault) (a b : Told) (left out out2 err : Option
    (List ℕ)) → MeetsPending whole n r (seen a) (seen b) out out2
    → IfSome (seen a) (λ (v : View). (i : List ℕ) → IsHeard false left i → Meets (pending_status whole) r n
    (pending_step whole n (look v n)) (shown (scene a out err)) (shown (scene b out2 err)))
pending_stepped whole n r a b left out out2 err meets = by (seen a) refl meets
  where
    by : (o : Option View) → o ≡ seen a → MeetsPending whole n r o (seen b) out out2
        → IfSome o (λ (v : View). (i : List ℕ) → IsHeard false left i → Meets (pending_status whole) r n
        (pending_step whole n (look v n)) (shown (scene a out err)) (shown (scene b out2 err)))
    by None is meets = tt
    by (Some v) is meets = λ i heard. subst (λ (t : Option View). Meets (pending_status whole) r n
        (pending_step whole n (look v n)) (world t out err) (world (seen b) out2 err)) is (meets err)

-- the call's answer as a status
abbrev pub coded : Bool → Result Bool StepFault → Result ℕ StepFault
coded whole (Ok found) = Ok (pending_status whole found)
coded whole (Err fault) = Err fault

coded_meets : (whole : Bool) (r : Result Bool StepFault) (n : List ℕ) (o : Outcome) (a b : World)
    → Meets (pending_status whole) r n o a b → Meets (λ (status : ℕ). status) (coded whole r) n o a b
coded_meets whole (Ok found) n o a b meets = meets
coded_meets whole (Err fault) n o a b meets = meets

pub status_stepped : (whole : Bool) (n : List ℕ) (r : Result Bool StepFault) (a b : Told) (left out out2 err : Option
    (List ℕ)) → MeetsPending whole n r (seen a) (seen b) out out2
    → SteppedAs (λ (status : ℕ). status) (pending_action whole) (coded whole r) n left (scene a out err)
    (scene b out2 err)
status_stepped whole n r a b left out out2 err meets =
    by (seen a) (pending_stepped whole n r a b left out out2 err meets)
  where
    by : (o : Option View) → IfSome o (λ (v : View). (i : List ℕ) → IsHeard false left i
        → Meets (pending_status whole) r n (pending_step whole n (look v n)) (shown (scene a out err))
        (shown (scene b out2 err)))
        → IfSome o (λ (v : View). (i : List ℕ) → IsHeard false left i → Meets (λ (status : ℕ). status) (coded whole r) n
        (pending_step whole n (look v n)) (shown (scene a out err)) (shown (scene b out2 err)))
    by None steps = tt
    by (Some v) steps = λ i heard. coded_meets whole r n _ _ _ (steps i heard)

pub code_within : (checks : List ℕ) (code : ℕ) → RefusesWithin {X = ℕ} checks (Ok code)
code_within checks code refusal is = absurd cc

-- ---- faults

pub printed_causes : (r : Result Bool StepFault) (o o2 d d2 : ℕ) → d ≤ d2 → ((disk : ℕ) → PrintCauses r o o2 disk disk)
    → PrintCauses r o o2 d d2
printed_causes r o o2 d d2 later causes =
    record {
      out_later = (causes 0).out_later;
      disk_later = later;
      write = (causes 0).write;
      read = (causes 0).read;
      broke = λ is. absurd (never_rose ((causes 0).broke is));
    }
