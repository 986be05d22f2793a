-- What a call answers and leaves that makes a group.
use Rattle.std.proofs.Common.{◌≡◌, ℕ, Bool, false, List, [], ◌∷◌, ◌++◌, Option, None, Some, Result, Ok, Err, refl, sym}
use Rattle.std.proofs.Common.{ap, subst, ◌∙◌, arith}
use Rattle.std.proofs.lemmas.List.{append-nil}
use Rattle.sccs_base.specs.Stream.{GivesOk, GivesSome}
use Rattle.sccs_base.proofs.Gifts.{gives_none, some_none}
use Rattle.sccs_sid.specs.Refusal.{refusal_line}
use Rattle.sccs_sid.specs.declared.moments.Stamp.{Stamp}
use Rattle.sccs_sid.specs.declared.refusals.Refusal.{Refusal}
use Rattle.sccs_sid.specs.declared.refusals.StepFault.{StepFault}
use Rattle.sccs_sid.specs.declared.refusals.StepFault.TheVariants as step
use Rattle.sccs_disk.specs.Files.{Folder, View, view_in}
use Rattle.sccs_name_files.specs.StepFiles.{Alike, Shows}
use Rattle.sccs_steps.specs.Calls.{world}
use Rattle.sccs_steps.specs.Messages.{Answers, Concludes, SaysRefusal}
use Rattle.sccs_steps.specs.StepLists.{ListInterrupted, NamedStep, Ran, Stopped, Stops, all_moved, err_of, moves_of}
use Rattle.sccs_steps.specs.StepLists.{out_of, step_in}
use Rattle.sccs_steps.specs.declared.faults.Fault.{Fault}
use Rattle.sccs_steps.specs.declared.faults.Fault.TheVariants as ends
use Rattle.sccs_step_lists.specs.Following.{RunsTo}
use Rattle.sccs_group_command.specs.declared.entries.GroupEntry.{GroupEntry}
use Rattle.sccs_group_command.specs.GroupStep.{group_step, names_of, refused_step}
use Rattle.sccs_group_command.specs.Making.{IsCut, IsHalfMade, IsMade, IsSaid, MeetsGroup, StopMeets, is_group_working}
use Rattle.sccs_group_command.specs.Preparing.{IsGivenBack, is_any_working, sfiles_of}
use Rattle.sccs_group_command.specs.declared.prepared_entries.NamedFault.{NamedFault}
use Rattle.sccs_group_command.proofs.GroupFiles.{GroupAt, back_cleared, back_shown, group_out, half_shown, made_cleared}
use Rattle.sccs_group_command.proofs.GroupFiles.{made_shown, same_at, step_at}
use Rattle.sccs_group_command.proofs.GroupSteps.{no_text, unmoved_all}
use Rattle.sccs_base.proofs.Bools.{left_false}
use Rattle.sccs_steps.proofs.Carried.{all_view}
use Rattle.sccs_group_command.proofs.GroupEnds.{of_group}

-- how the call ends behind the group
abbrev pub Concluded : Result (Unit {0}) NamedFault → Result ℕ Fault → Option (List ℕ) → Option (List ℕ) → Type 0
Concluded (Ok done) r err err2 = Answers (Ok 0) r err err2
Concluded (Err stop) r err err2 = Concludes (Err stop.fault) stop.name r err err2

-- a disk that tells a folder, before the group
abbrev pub IsAtFolder : (List ℕ → Bool) → Stamp → List GroupEntry → Folder → Option View → Type 0
IsAtFolder w stamp entries folder None = ⊥
IsAtFolder w stamp entries folder (Some u) = GroupAt w stamp entries folder u

module _ (w : List ℕ → Bool) (stamp : Stamp) (entries : List GroupEntry) (folder : Folder) (u v : View)
    (at : GroupAt w stamp entries folder u) (ao bo ae be : Option (List ℕ)) where
  abbrev one : NamedStep
  one = step_at stamp entries folder

  abbrev own : List (List ℕ)
  own = sfiles_of (names_of entries)

  out_one : out_of (step_at stamp entries folder ∷ []) ≡ (step_at stamp entries folder).effect.out
  out_one =
      append-nil ((step_at stamp entries folder).effect.text ++ (step_at stamp entries folder).effect.out)
      ∙ ap (λ (text : List ℕ). text ++ (step_at stamp entries folder).effect.out)
      (no_text stamp (view_in folder) entries)

  err_one : err_of (step_at stamp entries folder ∷ []) ≡ (step_at stamp entries folder).effect.err
  err_one = append-nil (step_at stamp entries folder).effect.err

  -- working files are no others
  pub any_out : (k : List ℕ) → w k ≡ false → is_any_working (sfiles_of (names_of entries)) k ≡ false
  any_out k h = left_false (is_any_working (sfiles_of (names_of entries)) k) _
      (group_out w (names_of entries) k at.files at.plan h)

  -- ---- it is made

  ran_made : IsMade (sfiles_of (names_of entries)) (step_at stamp entries folder) u v
      → GivesOk ao bo (step_at stamp entries folder).effect.out
      → GivesOk ae be (step_at stamp entries folder).effect.err
      → Ran w folder (step_at stamp entries folder ∷ []) (world (Some u) ao ae) (world (Some v) bo be)
  ran_made made out err = record {
    view = made_shown w stamp entries folder u v at made;
    cleared = made_cleared w stamp entries folder u v at made;
    out = subst (λ (text : List ℕ). GivesOk ao bo text) (sym out_one) out;
    err = subst (λ (text : List ℕ). GivesOk ae be text) (sym err_one) err;
  }

  pub done_to : ((group_step stamp u entries).effect.status ≡ 0) × IsMade (sfiles_of (names_of entries))
      (group_step stamp u entries) u v × IsSaid (group_step stamp u entries).effect (world (Some u) ao ae)
      (world (Some v) bo be)
      → (0 ≡ (step_at stamp entries folder).effect.status) × Ran w folder (step_at stamp entries folder ∷ [])
      (world (Some u) ao ae) (world (Some v) bo be)
  done_to met =
      let now : ((step_at stamp entries folder).effect.status ≡ 0) × IsMade (sfiles_of (names_of entries))
      (step_at stamp entries folder) u v × IsSaid (step_at stamp entries folder).effect (world (Some u) ao ae)
      (world (Some v) bo be)
      = subst (λ (t : NamedStep). (t.effect.status ≡ 0) × IsMade (sfiles_of (names_of entries)) t u v × IsSaid t.effect
      (world (Some u) ao ae) (world (Some v) bo be)) (same_at w stamp entries folder u at) met in
      (sym now.0, ran_made now.1 now.2.out now.2.err)

  -- ---- its report is cut

  pub cut_to : IsMade (sfiles_of (names_of entries)) (group_step stamp u entries) u v
      × IsCut (group_step stamp u entries).effect (world (Some u) ao ae) (world (Some v) bo be)
      → Stopped w folder (step_at stamp entries folder ∷ []) (world (Some u) ao ae) (world (Some v) bo be)
  cut_to met =
      let now : IsMade (sfiles_of (names_of entries)) (step_at stamp entries folder) u v
      × IsCut (step_at stamp entries folder).effect (world (Some u) ao ae) (world (Some v) bo be)
      = subst (λ (t : NamedStep). IsMade (sfiles_of (names_of entries)) t u v × IsCut t.effect (world (Some u) ao ae)
      (world (Some v) bo be)) (same_at w stamp entries folder u at) met in
      record {
        made = step_at stamp entries folder ∷ [];
        rest = [];
        is = refl;
        view = made_shown w stamp entries folder u v at now.0;
        cleared = made_cleared w stamp entries folder u v at now.0;
        out = subst (λ (text : List ℕ). GivesSome ao bo text)
            (sym (append-nil (out_of (step_at stamp entries folder ∷ [])) ∙ out_one)) now.1.out;
        err = subst (λ (text : List ℕ). GivesSome ae be text) (sym err_one) now.1.err;
      }

  -- ---- it is refused

  pub refused_here : (n : List ℕ) (refusal : Refusal) → group_step stamp u entries ≡ refused_step (names_of entries) n
      refusal → step_at stamp entries folder ≡ refused_step (names_of entries) n refusal
  refused_here n refusal is = sym (same_at w stamp entries folder u at) ∙ is

  pub still_view : (n : List ℕ) (refusal : Refusal) → step_at stamp entries folder ≡ refused_step (names_of entries) n
      refusal → view_in (step_in folder (step_at stamp entries folder)) ≡ view_in folder
  still_view n refusal is = all_view folder (moves_of (step_at stamp entries folder))
      ∙ (ap (λ (t : NamedStep). all_moved (view_in folder) (moves_of t)) is ∙ unmoved_all (names_of entries)
      (view_in folder))

  pub refused_shown : (n : List ℕ) (refusal : Refusal) → step_at stamp entries folder ≡ refused_step
      (names_of entries) n refusal → IsGivenBack (is_any_working (sfiles_of (names_of entries))) u v
      → Shows w (Some v) (view_in (step_in folder (step_at stamp entries folder)))
  refused_shown n refusal is back = subst (λ (x : View). Alike w v x) (sym (still_view n refusal is))
      (back_shown w (is_any_working (sfiles_of (names_of entries))) folder u v any_out at.alike back)

  pub refused_to : (r : Result ℕ Fault) (n : List ℕ) (refusal : Refusal) (e : Option (List ℕ))
      → (group_step stamp u entries ≡ refused_step (names_of entries) n refusal)
      × IsGivenBack (is_any_working (sfiles_of (names_of entries))) u v → bo ≡ ao → be ≡ ae
      → SaysRefusal n refusal r be e
      → RunsTo (step_at stamp entries folder).effect.status w r folder (step_at stamp entries folder ∷ [])
      (world (Some u) ao ae) (world (Some v) bo e)
  refused_to (Ok status) n refusal e met silent quiet says =
      let is = refused_here n refusal met.0 in (
        says.0 ∙ sym (ap (λ (t : NamedStep). t.effect.status) is),
        record {
          view = refused_shown n refusal is met.1;
          cleared = back_cleared w (is_any_working (sfiles_of (names_of entries))) u v met.1;
          out = subst (λ (text : List ℕ). GivesOk ao bo text) (sym (out_one ∙ ap (λ (t : NamedStep). t.effect.out) is))
              (subst (λ (o : Option (List ℕ)). GivesOk ao o []) (sym silent) (gives_none ao));
          err = subst (λ (text : List ℕ). GivesOk ae e text) (sym (err_one ∙ ap (λ (t : NamedStep). t.effect.err) is))
              (subst (λ (o : Option (List ℕ)). GivesOk o e (refusal_line n refusal)) quiet says.1);
        },
      )
  refused_to (Err ends.WriteFault) n refusal e met silent quiet says =
      let is = refused_here n refusal met.0 in
      record {
        made = step_at stamp entries folder ∷ [];
        rest = [];
        is = refl;
        view = refused_shown n refusal is met.1;
        cleared = back_cleared w (is_any_working (sfiles_of (names_of entries))) u v met.1;
        out = subst (λ (o : Option (List ℕ)). GivesSome ao o (out_of (step_at stamp entries folder ∷ []) ++ []))
            (sym silent) (some_none ao _);
        err = subst (λ (text : List ℕ). GivesSome ae e text) (sym (err_one ∙ ap (λ (t : NamedStep). t.effect.err) is))
            (subst (λ (o : Option (List ℕ)). GivesSome o e (refusal_line n refusal)) quiet says);
      }
  refused_to (Err ends.Memory) n refusal e met silent quiet says = absurd says
  refused_to (Err ends.ReadFault) n refusal e met silent quiet says = absurd says
  refused_to (Err ends.DiskFault) n refusal e met silent quiet says = absurd says

  -- ---- memory is wanting

  pub waits_to : IsGivenBack (is_group_working (sfiles_of (names_of entries))) u v → bo ≡ ao → be ≡ ae
      → Stops w ends.Memory folder (step_at stamp entries folder ∷ []) (world (Some u) ao ae) (world (Some v) bo be)
  waits_to back silent quiet = (
    record {
      made = [];
      rest = step_at stamp entries folder ∷ [];
      is = refl;
      view = (
        false,
        back_shown w (is_group_working (sfiles_of (names_of entries))) folder u v
            (λ k h. group_out w (names_of entries) k at.files at.plan h) at.alike back,
      );
      cleared = back_cleared w (is_group_working (sfiles_of (names_of entries))) u v back;
      out = subst (λ (o : Option (List ℕ)). GivesSome ao o (step_at stamp entries folder).effect.text) (sym silent)
          (some_none ao _);
      err = subst (λ (o : Option (List ℕ)). GivesSome ae o []) (sym quiet) (some_none ae _);
    },
    omega arith,
  )

  -- ---- the disk failed

  pub broke_to : IsHalfMade (sfiles_of (names_of entries)) (group_step stamp u entries) u v → bo ≡ ao → be ≡ ae
      → ListInterrupted w folder (step_at stamp entries folder ∷ []) (world (Some u) ao ae) (world (Some v) bo be)
  broke_to half silent quiet = record {
    made = [];
    rest = step_at stamp entries folder ∷ [];
    is = refl;
    view = half_shown w stamp entries folder u v at
        (subst (λ (t : NamedStep). IsHalfMade (sfiles_of (names_of entries)) t u v)
        (same_at w stamp entries folder u at) half);
    out = subst (λ (o : Option (List ℕ)). GivesSome ao o (step_at stamp entries folder).effect.text) (sym silent)
        (some_none ao _);
    err = subst (λ (o : Option (List ℕ)). GivesSome ae o []) (sym quiet) (some_none ae _);
  }

-- ---- the call

stopped_to : (w : List ℕ → Bool) (stamp : Stamp) (entries : List GroupEntry) (folder : Folder) (n : List ℕ)
    (fault : StepFault) (r : Result ℕ Fault) (u : View) (ov : Option View) (ao bo ae be e : Option (List ℕ))
    → GroupAt w stamp entries folder u
    → StopMeets fault n (names_of entries) (sfiles_of (names_of entries)) (of_group stamp entries)
    (world (Some u) ao ae) (world ov bo be) → Concludes (Err fault) n r be e
    → RunsTo (step_at stamp entries folder).effect.status w r folder (step_at stamp entries folder ∷ [])
    (world (Some u) ao ae) (world ov bo e)
stopped_to w stamp entries folder n (step.Refused refusal) r u None ao bo ae be e at met says = absurd met.0
stopped_to w stamp entries folder n (step.Refused refusal) r u (Some v) ao bo ae be e at met says =
    refused_to w stamp entries folder u v at ao bo ae be r n refusal e met.0 met.1.0 met.1.1 says
stopped_to w stamp entries folder n step.Memory r u None ao bo ae be e at met says = absurd met.0
stopped_to w stamp entries folder n step.Memory r u (Some v) ao bo ae be e at met says =
    subst (λ (s : Result ℕ Fault). RunsTo (step_at stamp entries folder).effect.status w s folder
    (step_at stamp entries folder ∷ []) (world (Some u) ao ae) (world (Some v) bo e)) (sym says.0)
    (waits_to w stamp entries folder u v at ao bo ae e met.0 met.1.0 (says.1 ∙ met.1.1))
stopped_to w stamp entries folder n step.ReadFault r u ov ao bo ae be e at met says = absurd met
stopped_to w stamp entries folder n step.WriteFault r u None ao bo ae be e at met says = absurd met
stopped_to w stamp entries folder n step.WriteFault r u (Some v) ao bo ae be e at met says =
    subst (λ (s : Result ℕ Fault). RunsTo (step_at stamp entries folder).effect.status w s folder
    (step_at stamp entries folder ∷ []) (world (Some u) ao ae) (world (Some v) bo e)) (sym says.0)
    (subst (λ (o : Option (List ℕ)). Stopped w folder (step_at stamp entries folder ∷ []) (world (Some u) ao ae)
    (world (Some v) bo o)) (sym says.1) (cut_to w stamp entries folder u v at ao bo ae be met))
stopped_to w stamp entries folder n step.DiskFault r u None ao bo ae be e at met says = absurd met.0
stopped_to w stamp entries folder n step.DiskFault r u (Some v) ao bo ae be e at met says =
    subst (λ (s : Result ℕ Fault). RunsTo (step_at stamp entries folder).effect.status w s folder
    (step_at stamp entries folder ∷ []) (world (Some u) ao ae) (world (Some v) bo e)) (sym says.0)
    (broke_to w stamp entries folder u v at ao bo ae e met.0 met.1.0 (says.1 ∙ met.1.1))

pub entries_to : (w : List ℕ → Bool) (stamp : Stamp) (entries : List GroupEntry) (folder : Folder)
    (made : Result (Unit {0}) NamedFault) (r : Result ℕ Fault) (ou ov : Option View) (ao bo ae be e : Option (List ℕ))
    → IsAtFolder w stamp entries folder ou
    → MeetsGroup made (names_of entries) (of_group stamp entries) (world ou ao ae) (world ov bo be)
    → Concluded made r be e
    → RunsTo (step_at stamp entries folder).effect.status w r folder (step_at stamp entries folder ∷ [])
    (world ou ao ae) (world ov bo e)
entries_to w stamp entries folder made r None ov ao bo ae be e at met says = absurd at
entries_to w stamp entries folder (Ok done) r (Some u) None ao bo ae be e at met says = absurd met
entries_to w stamp entries folder (Ok done) r (Some u) (Some v) ao bo ae be e at met says =
    subst (λ (s : Result ℕ Fault). RunsTo (step_at stamp entries folder).effect.status w s folder
    (step_at stamp entries folder ∷ []) (world (Some u) ao ae) (world (Some v) bo e)) (sym says.0)
    (subst (λ (o : Option (List ℕ)). (0 ≡ (step_at stamp entries folder).effect.status)
    × Ran w folder (step_at stamp entries folder ∷ []) (world (Some u) ao ae) (world (Some v) bo o)) (sym says.1)
    (done_to w stamp entries folder u v at ao bo ae be met))
entries_to w stamp entries folder (Err stop) r (Some u) ov ao bo ae be e at met says =
    stopped_to w stamp entries folder stop.name stop.fault r u ov ao bo ae be e at met says
