-- What the call of one step answers and leaves, as a list of one step.
use Rattle.std.proofs.Common.{◌≡◌, ℕ, zero, suc, Bool, true, List, [], ◌∷◌, ◌++◌, take, Option, None, Some, Result, Ok}
use Rattle.std.proofs.Common.{Err, inl, inr, refl, sym, ap, subst, ◌∙◌, arith}
use Rattle.std.proofs.lemmas.List.{append-nil}
use Rattle.sccs_base.specs.Stream.{GivesOk, GivesSome}
use Rattle.sccs_sid.specs.Refusal.{refusal_line}
use Rattle.sccs_sid.specs.declared.refusals.Refusal.{Refusal}
use Rattle.sccs_sid.specs.declared.refusals.StepFault.{StepFault}
use Rattle.sccs_sid.specs.declared.refusals.StepFault.TheVariants as step
use Rattle.sccs_disk.specs.Files.{Folder, view_in}
use Rattle.sccs_name_files.specs.StepFiles.{Files, Shows}
use Rattle.sccs_steps.specs.StepEffects.{StepEffect, Outcome, effect_of}
use Rattle.sccs_steps.specs.Calls.{World, Meets, Fails, Uncommitted, Made, ReportCut, Interrupted, world}
use Rattle.sccs_steps.specs.Messages.{SaysRefusal, Concludes}
use Rattle.sccs_steps.specs.Actions.{IsClear}
use Rattle.sccs_steps.specs.StepLists.{AreAllCleared, Stopped, ListInterrupted, Waits, Runs, named_step}
use Rattle.sccs_steps.specs.declared.faults.Fault.{Fault}
use Rattle.sccs_steps.specs.declared.faults.Fault.TheVariants.{Memory, ReadFault, WriteFault, DiskFault}
use Rattle.sccs_steps.specs.declared.statuses.StatusRule.{StatusRule}
use Rattle.sccs_steps.proofs.Clear.{IsKept, clear_early, clear_in_order, clear_moved, clear_refused}
use Rattle.sccs_steps.proofs.Cleared.{cleared_early, cleared_step}
use Rattle.sccs_steps.proofs.Gifts.{some_same}
use Rattle.sccs_steps.proofs.StatusLaws.{idle_last}

-- the step is made
made_runs : (rule : StatusRule) (reads : Bool) (w : List ℕ → Bool) (m : Folder) (n : List ℕ) (o : Outcome)
    (d : StepEffect) (status : ℕ) (a b : World) → IsClear reads w n → (reads ≡ true → b.view ≡ a.view) → IsKept reads o
    → Shows w a.view (view_in m)
    → o ≡ Ok d → d.status ≡ status → Made n d a b → Runs rule w (Ok status) m (named_step n o ∷ []) a b
made_runs rule reads w m n o d status a b clear same kept shows is code made =
    subst (λ (out : Outcome). Runs rule w (Ok status) m (named_step n out ∷ []) a b) (sym is) (
      sym code ∙ sym (idle_last rule d.status),
      record {
        view = clear_moved reads w m n d.new a.view b.view clear same (λ only. kept only d is) shows made.view;
        cleared = cleared_step reads w n d.new a.view b.view clear same made.view made.cleared;
        out = subst (λ text. GivesOk a.out b.out text) (sym (append-nil (d.text ++ d.out))) made.out;
        err = subst (λ text. GivesOk a.err b.err text) (sym (append-nil d.err)) made.err;
      },
    )

-- nothing is committed, and the step is still to be made
kept_waits : (reads : Bool) (w : List ℕ → Bool) (m : Folder) (n : List ℕ) (o : Outcome) (a b : World)
    → IsClear reads w n → (reads ≡ true → b.view ≡ a.view) → Shows w a.view (view_in m)
    → Uncommitted n (effect_of n o).new (effect_of n o).text a b → Waits w m (named_step n o ∷ []) a b
kept_waits reads w m n o a b clear same shows kept = (
  record {
    made = [];
    rest = named_step n o ∷ [];
    is = refl;
    view = clear_early reads w m n (effect_of n o).new a.view b.view clear same shows kept.view;
    cleared = cleared_early reads w n (effect_of n o).new a.view b.view clear same kept.view kept.cleared;
    out = kept.out;
    err = some_same a.err b.err [] kept.err;
  },
  omega arith,
)

-- the step is committed, and its report is cut
cut_stops : (reads : Bool) (w : List ℕ → Bool) (m : Folder) (n : List ℕ) (o : Outcome) (d : StepEffect) (a b : World)
    → IsClear reads w n → (reads ≡ true → b.view ≡ a.view) → IsKept reads o → Shows w a.view (view_in m)
    → o ≡ Ok d → ReportCut n d a b → Stopped w m (named_step n o ∷ []) a b
cut_stops reads w m n o d a b clear same kept shows is cut =
    subst (λ (out : Outcome). Stopped w m (named_step n out ∷ []) a b) (sym is)
    (record {
      made = named_step n (Ok d) ∷ [];
      rest = [];
      is = refl;
      view = clear_moved reads w m n d.new a.view b.view clear same (λ only. kept only d is) shows cut.view;
      cleared = cleared_step reads w n d.new a.view b.view clear same cut.view cut.cleared;
      out = subst (λ text. GivesSome a.out b.out text) (sym (append-nil (d.text ++ d.out))
          ∙ sym (append-nil ((d.text ++ d.out) ++ []))) cut.out;
      err = subst (λ text. GivesSome a.err b.err text) (sym (append-nil d.err)) cut.err;
    })

-- a write fault before the commit, or in the report
write_stops : (reads : Bool) (w : List ℕ → Bool) (m : Folder) (n : List ℕ) (o : Outcome) (a b : World)
    → IsClear reads w n → (reads ≡ true → b.view ≡ a.view) → IsKept reads o → Shows w a.view (view_in m)
    → Fails step.WriteFault n o a b → Stopped w m (named_step n o ∷ []) a b
write_stops reads w m n o a b clear same kept shows (inl uncommitted) =
    (kept_waits reads w m n o a b clear same shows uncommitted).0
write_stops reads w m n o a b clear same kept shows (inr cut) = cut_stops reads w m n o cut.0 a b clear same kept shows
    cut.1 cut.2

-- the disk failed
disk_stops : (reads : Bool) (w : List ℕ → Bool) (m : Folder) (n : List ℕ) (o : Outcome) (a b : World)
    → IsClear reads w n → (reads ≡ true → b.view ≡ a.view) → Shows w a.view (view_in m) → Interrupted n o a b
    → ListInterrupted w m (named_step n o ∷ []) a b
disk_stops reads w m n o a b clear same shows interrupted = record {
  made = [];
  rest = named_step n o ∷ [];
  is = refl;
  view = clear_in_order reads w m n o a.view b.view clear same shows interrupted.view;
  out = interrupted.out;
  err = some_same a.err b.err [] interrupted.err;
}

take_none : (n : ℕ) → take {A = ℕ} n [] ≡ []
take_none zero = refl
take_none (suc n) = refl

some_nothing : (a b : Option (List ℕ)) → GivesSome a b [] → GivesOk a b []
some_nothing None b some = some
some_nothing (Some f) b some = some.2 ∙ ap (λ text. Some (f ++ text)) (take_none some.0)

-- the step is refused, and that is said, or what is said of it is cut
pub refusal_ends : (rule : StatusRule) (w : List ℕ → Bool) (m : Folder) (n : List ℕ) (o : Outcome) (refusal : Refusal)
    (r : Result ℕ Fault) (a b : World) → o ≡ Err refusal → Shows w b.view (view_in m) → AreAllCleared w a.view b.view
    → GivesSome a.out b.out []
    → SaysRefusal n refusal r a.err b.err → Runs rule w r m (named_step n o ∷ []) a b
refusal_ends rule w m n o refusal (Ok status) a b is shows cleared out said =
    subst (λ s. Runs rule w (Ok s) m (named_step n o ∷ []) a b) (sym said.0)
    (subst (λ (outcome : Outcome). Runs rule w (Ok 1) m (named_step n outcome ∷ []) a b) (sym is) (
      sym (idle_last rule 1),
      record {
        view = shows;
        cleared = cleared;
        out = some_nothing a.out b.out out;
        err =
            subst (λ text. GivesOk a.err b.err text) (sym (append-nil (refusal_line n refusal))) said.1;
      },
    ))
refusal_ends rule w m n o refusal (Err WriteFault) a b is shows cleared out said =
    subst (λ (outcome : Outcome). Stopped w m (named_step n outcome ∷ []) a b) (sym is)
    (record {
      made = named_step n (Err refusal) ∷ [];
      rest = [];
      is = refl;
      view = shows;
      cleared = cleared;
      out = out;
      err = subst (λ text. GivesSome a.err b.err text) (sym (append-nil (refusal_line n refusal))) said;
    })
refusal_ends rule w m n o refusal (Err Memory) a b is shows cleared out said = absurd said
refusal_ends rule w m n o refusal (Err ReadFault) a b is shows cleared out said = absurd said
refusal_ends rule w m n o refusal (Err DiskFault) a b is shows cleared out said = absurd said

-- ---- a step that was called, and how its operand ends

kept_with : (n : List ℕ) (new : Option Files) (text : List ℕ) (a b : World) (e : Option (List ℕ)) → e ≡ b.err
    → Uncommitted n new text a b → Uncommitted n new text a (world b.view b.out e)
kept_with n new text a b e same kept =
    record { view = kept.view; cleared = kept.cleared; out = kept.out; err = same ∙ kept.err }

write_with : (n : List ℕ) (o : Outcome) (a b : World) (e : Option (List ℕ)) → e ≡ b.err → Fails step.WriteFault n o a b
    → Fails step.WriteFault n o a (world b.view b.out e)
write_with n o a b e same (inl kept) = inl (kept_with n _ _ a b e same kept)
write_with n o a b e same (inr cut) =
    inr (
      cut.0,
      cut.1,
      record {
        status = cut.2.status;
        view = cut.2.view;
        cleared = cut.2.cleared;
        out = cut.2.out;
        err = subst (λ t. GivesSome a.err t cut.0.err) (sym same) cut.2.err;
      },
    )

pub concluded : (rule : StatusRule) (reads : Bool) (w : List ℕ → Bool) (m : Folder) (n : List ℕ) (o : Outcome)
    (made : Result ℕ StepFault) (r : Result ℕ Fault) (a b : World) (e : Option (List ℕ)) → IsClear reads w n
    → (reads ≡ true → b.view ≡ a.view) → IsKept reads o → Shows w a.view (view_in m)
    → Meets (λ (status : ℕ). status) made n o a b → Concludes made n r b.err e → Runs rule w r m (named_step n o ∷ []) a
    (world b.view b.out e)
concluded rule reads w m n o (Ok status) r a b e clear same kept shows met says =
    subst (λ (res : Result ℕ Fault). Runs rule w res m (named_step n o ∷ []) a (world b.view b.out e)) (sym says.0)
    (made_runs rule reads w m n o met.0 status a (world b.view b.out e) clear same kept shows met.1 met.2
    (record {
      view = met.3.view;
      cleared = met.3.cleared;
      out = met.3.out;
      err =
          subst (λ t. GivesOk a.err t met.0.err) (sym says.1) met.3.err;
    }))
concluded rule reads w m n o (Err (step.Refused refusal)) r a b e clear same kept shows met says =
    refusal_ends rule w m n o refusal r a (world b.view b.out e) met.0 (clear_refused reads w m n a.view b.view clear
    same shows met.1.view) (cleared_early reads w n None a.view b.view clear same met.1.view met.1.cleared)
    met.1.out (subst (λ t. SaysRefusal n refusal r t e) met.1.err says)
concluded rule reads w m n o (Err step.Memory) r a b e clear same kept shows met says =
    subst (λ (res : Result ℕ Fault). Runs rule w res m (named_step n o ∷ []) a (world b.view b.out e)) (sym says.0)
    (kept_waits reads w m n o a (world b.view b.out e) clear same shows (kept_with n _ _ a b e says.1 met))
concluded rule reads w m n o (Err step.ReadFault) r a b e clear same kept shows met says =
    subst (λ (res : Result ℕ Fault). Runs rule w res m (named_step n o ∷ []) a (world b.view b.out e)) (sym says.0)
    (kept_waits reads w m n o a (world b.view b.out e) clear same shows (kept_with n _ _ a b e says.1 met))
concluded rule reads w m n o (Err step.WriteFault) r a b e clear same kept shows met says =
    subst (λ (res : Result ℕ Fault). Runs rule w res m (named_step n o ∷ []) a (world b.view b.out e)) (sym says.0)
    (write_stops reads w m n o a (world b.view b.out e) clear same kept shows (write_with n o a b e says.1 met))
concluded rule reads w m n o (Err step.DiskFault) r a b e clear same kept shows met says =
    subst (λ (res : Result ℕ Fault). Runs rule w res m (named_step n o ∷ []) a (world b.view b.out e)) (sym says.0)
    (disk_stops reads w m n o a (world b.view b.out e) clear same shows
    (record { view = met.view; out = met.out; err = says.1 ∙ met.err }))
