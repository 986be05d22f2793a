-- What the parts of sact make of its step.
use Rattle.std.proofs.Common.{◌≡◌, ℕ, ◌≤◌, Bool, true, false, List, [], ◌∷◌, ◌++◌, length, Option, None, Some, Result}
use Rattle.std.proofs.Common.{Ok, Err, inr, refl, sym, ap, subst, ◌∙◌, append_assoc}
use Rattle.std.specs.Prelude.{IfSome, is_some, option_map}
use Rattle.sccs_base.specs.Stream.{GivesOk, GivesSome}
use Rattle.sccs_base.proofs.Gifts.{some_none}
use Rattle.sccs_disk.specs.Files.{Content, View}
use Rattle.sccs_disk.specs.Reads.{Measures}
use Rattle.sccs_disk.specs.Told.{Told, seen}
use Rattle.sccs_sid.specs.Reading.{◌>>=◌}
use Rattle.sccs_sid.specs.declared.refusals.Refusal.{Refusal}
use Rattle.sccs_sid.specs.declared.refusals.Refusal.TheVariants as refusals
use Rattle.sccs_sid.specs.declared.refusals.StepFault.{StepFault}
use Rattle.sccs_sid.specs.declared.refusals.StepFault.TheVariants.{Refused, Memory, ReadFault, WriteFault, DiskFault}
use Rattle.sccs_name_files.specs.StepFiles.{Files, look, is_working, Moves}
use Rattle.sccs_tokens.specs.Written.{ended}
use Rattle.sccs_pfile.specs.declared.entries.Edit.{Edit}
use Rattle.sccs_steps.specs.StepEffects.{StepEffect}
use Rattle.sccs_steps.specs.Calls.{Meets, scene, world}
use Rattle.sccs_steps.specs.Actions.{IsHeard, RefusesWithin, SpeaksBy, Stepped}
use Rattle.sccs_steps.specs.Causes.{StepCauses, counts}
use Rattle.sccs_changes.specs.Ends.{Reports}
use Rattle.sccs_changes.specs.declared.prepared.Prepared.{Prepared}
use Rattle.sccs_steps.proofs.ReadingSteps.{Explains, ends_silent, same_cleared}
use Rattle.sccs_changes.specs.PFiles.{Answers, entries_of}
use Rattle.sccs_edit.specs.Checks.{step_is}
use Rattle.sccs_edit.specs.SactStep.{ShowsEdits, could_show, found_edits, none_text, sact_action, sact_checks}
use Rattle.sccs_edit.specs.SactStep.{sact_step, shows_entries}
use Rattle.sccs_base.proofs.Rises.{never_rose}

-- ---- the s-file is there, or it isn't

absent_found : (f : Files) → f.s ≡ None → found_edits f ≡ Err refusals.Missing
unfolding found_edits
absent_found f none = rw none refl

there_found : (f : Files) → is_some f.s ≡ true → found_edits f ≡ entries_of f.p
unfolding found_edits
there_found f some = rw some refl

pub missing_found : (o : Option View) (n : List ℕ) → Measures o n None
    → IfSome o (λ (v : View). Answers {A = List Edit} (found_edits (look v n)) (Err (Refused refusals.Missing)))
missing_found None n is = tt
missing_found (Some v) n is = absent_found (look v n) (none_measured (v n) is)
  where
    none_measured : (o : Option Content) → None ≡ option_map (λ (c : Content). length c.bytes) o → o ≡ None
    none_measured None is = refl
    none_measured (Some c) is = absurd cc

pub edits_found : (o o2 : Option View) (n : List ℕ) (size : ℕ) (r : Result (List Edit) StepFault) → o2 ≡ o
    → Measures o n (Some size) → IfSome o2 (λ (v : View). Answers (entries_of (look v n).p) r)
    → IfSome o (λ (v : View). Answers (found_edits (look v n)) r)
edits_found o o2 n size r same is answers =
    by o is (subst (λ (x : Option View). IfSome x (λ (v : View). Answers (entries_of (look v n).p) r)) same answers)
  where
    some_measured : (o : Option Content) → Some size ≡ option_map (λ (c : Content). length c.bytes) o → is_some o ≡ true
    some_measured None is = absurd cc
    some_measured (Some c) is = refl

    by : (x : Option View) → Measures x n (Some size) → IfSome x (λ (v : View). Answers (entries_of (look v n).p) r)
        → IfSome x (λ (v : View). Answers (found_edits (look v n)) r)
    by None is answers = tt
    by (Some v) is answers = subst (λ found. Answers found r) (sym (there_found (look v n) (some_measured (v n) is)))
        answers

-- ---- how its call ends

refused_step : (heading : Bool) (n : List ℕ) (f : Files) (refusal : Refusal) → found_edits f ≡ Err refusal
    → sact_step heading n f ≡ Err refusal
refused_step heading n f refusal is = step_is heading n f ∙ ap (λ (r : Result (List Edit) Refusal). r >>= λ edits.
    Ok (shows_entries heading n edits)) is

made_step : (heading : Bool) (n : List ℕ) (f : Files) (edits : List Edit) → found_edits f ≡ Ok edits
    → sact_step heading n f ≡ Ok (shows_entries heading n edits)
made_step heading n f edits is = step_is heading n f ∙ ap (λ (r : Result (List Edit) Refusal). r >>= λ edits.
    Ok (shows_entries heading n edits)) is

why : (heading : Bool) (n : List ℕ) (f : Files) (fault : StepFault) → Answers {A = List Edit} (found_edits f)
    (Err fault) → Explains (sact_step heading n f) fault
why heading n f (Refused refusal) answers = refused_step heading n f refusal answers
why heading n f Memory answers = tt
why heading n f DiskFault answers = tt
why heading n f ReadFault answers = answers
why heading n f WriteFault answers = answers

pub unread_steps : (heading : Bool) (n : List ℕ) (fault : StepFault) (a b : Told) (left out err : Option (List ℕ))
    → b ≡ a → IfSome (seen a) (λ (v : View). Answers {A = List Edit} (found_edits (look v n)) (Err fault))
    → Stepped (sact_action heading) (Err fault) n left (scene a out err) (scene b out err)
unread_steps heading n fault a b left out err same answers = by (seen a) (ap seen same) answers
  where
    by : (o : Option View) → seen b ≡ o → IfSome o (λ (v : View). Answers {A = List Edit} (found_edits (look v n))
        (Err fault)) → IfSome o (λ (v : View). (i : List ℕ) → IsHeard false left i → Meets (λ (done : Unit {0}). 0)
        (Err fault) n (sact_step heading n (look v n)) (world o out err) (world (seen b) out err))
    by None is answers = tt
    by (Some v) is answers = λ i heard. ends_silent v (seen b) n (sact_step heading n (look v n)) fault out err is
        (why heading n (look v n) fault answers)

shown_ends : (heading : Bool) (n : List ℕ) (edits : List Edit) (r : Result (Unit {0}) StepFault) (v : View)
    (o2 : Option View) (out out2 err err2 : Option (List ℕ)) → o2 ≡ Some v
    → ShowsEdits r (shows_entries heading n edits) out out2 err err2
    → Meets (λ (done : Unit {0}). 0) r n (Ok (shows_entries heading n edits)) (world (Some v) out err)
    (world o2 out2 err2)
shown_ends heading n edits (Ok done) v o2 out out2 err err2 same gives = (
  shows_entries heading n edits,
  refl,
  refl,
  record {
    view = subst (λ (t : Option View). Moves (is_working n) (λ u. u) (Some v) t) (sym same) (λ k h. refl);
    cleared = same_cleared v o2 n same;
    out = gives.0;
    err = gives.1;
  },
)
shown_ends heading n edits (Err WriteFault) v o2 out out2 err err2 same gives = inr (
  shows_entries heading n edits,
  refl,
  record {
    status = refl;
    view = subst (λ (t : Option View). Moves (is_working n) (λ u. u) (Some v) t) (sym same) (λ k h. refl);
    cleared = same_cleared v o2 n same;
    out = gives.0;
    err = gives.1;
  },
)
shown_ends heading n edits (Err Memory) v o2 out out2 err err2 same gives =
    subst (λ (e : Option (List ℕ)). Meets (λ (done : Unit {0}). 0) (Err Memory) n (Ok (shows_entries heading n edits))
    (world (Some v) out err) (world o2 out2 e)) (sym gives.1)
    (subst (λ (x : Option (List ℕ)). Meets (λ (done : Unit {0}). 0) (Err Memory) n (Ok (shows_entries heading n edits))
    (world (Some v) out err) (world o2 x err)) (sym gives.0)
    (ends_silent v o2 n (Ok (shows_entries heading n edits)) Memory out err same tt))
shown_ends heading n edits (Err DiskFault) v o2 out out2 err err2 same gives = absurd gives
shown_ends heading n edits (Err ReadFault) v o2 out out2 err err2 same gives = absurd gives
shown_ends heading n edits (Err (Refused refusal)) v o2 out out2 err err2 same gives = absurd gives

pub shown_steps : (heading : Bool) (n : List ℕ) (edits : List Edit) (r : Result (Unit {0}) StepFault) (a b : Told)
    (left out out2 err err2 : Option (List ℕ)) → b ≡ a → IfSome (seen a) (λ (v : View). Answers (found_edits (look v n))
    (Ok edits)) → ShowsEdits r (shows_entries heading n edits) out out2 err err2
    → Stepped (sact_action heading) r n left (scene a out err) (scene b out2 err2)
shown_steps heading n edits r a b left out out2 err err2 same answers gives = by (seen a) (ap seen same) answers
  where
    by : (o : Option View) → seen b ≡ o → IfSome o (λ (v : View). Answers (found_edits (look v n)) (Ok edits))
        → IfSome o (λ (v : View). (i : List ℕ) → IsHeard false left i → Meets (λ (done : Unit {0}). 0) r n
        (sact_step heading n (look v n)) (world o out err) (world (seen b) out2 err2))
    by None is answers = tt
    by (Some v) is answers = λ i heard. subst (λ o. Meets (λ (done : Unit {0}). 0) r n o (world (Some v) out err)
        (world (seen b) out2 err2)) (sym (made_step heading n (look v n) edits answers)) (shown_ends heading n edits r v
        (seen b) out out2 err err2 is gives)

-- ---- over any disk

pub unread_speaks : (fault : StepFault) (n : List ℕ) (err : Option (List ℕ)) → RefusesWithin {X = Unit {0}} sact_checks
    (Err fault) → SpeaksBy could_show (Err fault) n err err
unread_speaks (Refused refusal) n err within = (Err refusal, within refusal refl, (refl, refl))
unread_speaks Memory n err within = (Ok (shows_entries false [] []), refl, some_none err _)
unread_speaks ReadFault n err within = (Ok (shows_entries false [] []), refl, some_none err _)
unread_speaks WriteFault n err within = (Ok (shows_entries false [] []), refl, some_none err _)
unread_speaks DiskFault n err within = (Ok (shows_entries false [] []), refl, some_none err _)

could_so : (heading : Bool) (n : List ℕ) (edits : List Edit) → could_show (Ok (shows_entries heading n edits)) ≡ true
could_so heading n [] = refl
could_so heading n (e ∷ edits) = refl

pub shown_speaks : (heading : Bool) (n : List ℕ) (edits : List Edit) (r : Result (Unit {0}) StepFault)
    (out out2 err err2 : Option (List ℕ)) → ShowsEdits r (shows_entries heading n edits) out out2 err err2
    → SpeaksBy could_show r n err err2
shown_speaks heading n edits (Ok done) out out2 err err2 gives =
    (Ok (shows_entries heading n edits), could_so heading n edits, (shows_entries heading n edits, refl, refl, gives.1))
shown_speaks heading n edits (Err WriteFault) out out2 err err2 gives =
    (Ok (shows_entries heading n edits), could_so heading n edits, gives.1)
shown_speaks heading n edits (Err Memory) out out2 err err2 gives = (
  Ok (shows_entries heading n edits),
  could_so heading n edits,
  subst (λ (x : Option (List ℕ)). GivesSome err x
      (none_text n edits)) (sym gives.1) (some_none err (none_text n edits)),
)
shown_speaks heading n edits (Err DiskFault) out out2 err err2 gives = absurd gives
shown_speaks heading n edits (Err ReadFault) out out2 err err2 gives = absurd gives
shown_speaks heading n edits (Err (Refused refusal)) out out2 err err2 gives = absurd gives

-- a refusal is that of whatever was wanted
pub within_err : {A B : Type 0} (checks : List ℕ) (fault : StepFault) → RefusesWithin {X = A} checks (Err fault)
    → RefusesWithin {X = B} checks (Err fault)
within_err checks fault within = λ refusal is. within refusal (let e : fault ≡ Refused refusal = cc in ap Err e)

pub shows_of : (r : Result (Unit {0}) StepFault) (p : Prepared) (d : StepEffect) (out out2 err err2 : Option (List ℕ))
    → p.report ≡ d.out → p.message ≡ d.err → Reports r p (world None out err) (world None out2 err2)
    → ShowsEdits r d out out2 err err2
shows_of (Ok done) p d out out2 err err2 report message reports = (
  subst (λ t. GivesOk out out2 t) report reports.out,
  subst (λ t. GivesOk err err2 t) message reports.err,
)
shows_of (Err WriteFault) p d out out2 err err2 report message reports =
    (subst (λ t. GivesSome out out2 t) report reports.out, subst (λ t. GivesSome err err2 t) message reports.err)
shows_of (Err Memory) p d out out2 err err2 report message reports = absurd reports
shows_of (Err ReadFault) p d out out2 err err2 report message reports = absurd reports
shows_of (Err DiskFault) p d out out2 err err2 report message reports = absurd reports
shows_of (Err (Refused refusal)) p d out out2 err err2 report message reports = absurd reports

pub shown_causes : (r : Result (Unit {0}) StepFault) (i o o2 e e2 d d2 : ℕ) → d ≤ d2
    → ((input disk : ℕ) → StepCauses r (counts input o e disk) (counts input o2 e2 disk))
    → StepCauses r (counts i o e d) (counts i o2 e2 d2)
shown_causes r i o o2 e e2 d d2 later causes = record {
  input_later = (causes i 0).input_later;
  out_later = (causes i 0).out_later;
  err_later = (causes i 0).err_later;
  disk_later = later;
  read = (causes i 0).read;
  write = (causes i 0).write;
  broke = λ broke. absurd (never_rose ((causes i 0).broke broke));
}

-- ---- the lines of entries

abbrev line_of : List ℕ → List ℕ → List ℕ → List ℕ → List ℕ
line_of got made login moment = got ++ (32 ∷ (made ++ (32 ∷ (login ++ (32 ∷ moment)))))

line_ends : (got made login moment : List ℕ) → ended (line_of got made login moment) ≡ line_of got made login
    (moment ++ 10 ∷ [])
line_ends got made login moment =
    append_assoc got (32 ∷ (made ++ (32 ∷ (login ++ (32 ∷ moment))))) (10 ∷ [])
    ∙ ap (λ (x : List ℕ). got ++ (32 ∷ x)) (append_assoc made (32 ∷ (login ++ (32 ∷ moment))) (10 ∷ [])
    ∙ ap (λ (x : List ℕ). made ++ (32 ∷ x)) (append_assoc login (32 ∷ moment) (10 ∷ [])))

abbrev part : List ℕ → List ℕ
part x = x ++ 32 ∷ []

line_parts : (v got made login end : List ℕ) → (((v ++ part got) ++ part made) ++ part login) ++ end ≡ v
    ++ line_of got made login end
line_parts v got made login end =
    append_assoc ((v ++ part got) ++ part made) (part login) end
    ∙ (append_assoc (v ++ part got) (part made) (part login ++ end)
    ∙ (append_assoc v (part got) (part made ++ (part login ++ end))
    ∙ ap (λ (x : List ℕ). v ++ x) (append_assoc got (32 ∷ []) (part made ++ (part login ++ end))
    ∙ ap (λ (x : List ℕ). got ++ (32 ∷ x)) (append_assoc made (32 ∷ []) (part login ++ end)
    ∙ ap (λ (x : List ℕ). made ++ (32 ∷ x)) (append_assoc login (32 ∷ []) end)))))

pub line_added : (v got made login moment v1 v2 v3 v4 : List ℕ) → v1 ≡ v ++ part got → v2 ≡ v1 ++ part made
    → v3 ≡ v2 ++ part login → v4 ≡ v3 ++ (moment ++ 10 ∷ []) → v4 ≡ v ++ ended (line_of got made login moment)
line_added v got made login moment v1 v2 v3 v4 first second third fourth =
    fourth
    ∙ (ap (λ (x : List ℕ). x ++ (moment ++ 10 ∷ [])) (third ∙ ap (λ (x : List ℕ). x ++ part login) (second
    ∙ ap (λ (x : List ℕ). x ++ part made) first))
    ∙ (line_parts v got made login (moment ++ 10 ∷ []) ∙ ap (λ (x : List ℕ). v ++ x)
    (sym (line_ends got made login moment))))
