-- What a commit needs of an edit that is prepared, and what a stop leaves of it.
use Rattle.std.proofs.Common.{◌≡◌, ℕ, Bool, true, false, List, [], ◌∷◌, ◌++◌, All, drop, Option, None, Some, Ok, refl}
use Rattle.std.proofs.Common.{sym, ap, subst, ◌∙◌}
use Rattle.std.specs.Prelude.{IfSome, if◌then◌else◌}
use Rattle.std.specs.Str.{bytes_eq}
use Rattle.std.proofs.lemmas.List.Elements.{recursion_from_All}
use Rattle.sccs_base.specs.Name.{IsSFileName, p_file, q_file, y_file, z_file}
use Rattle.sccs_disk.specs.Calls.{IsThere}
use Rattle.sccs_disk.specs.Files.{Content, View}
use Rattle.sccs_disk.specs.Images.{IsFirm}
use Rattle.sccs_disk.specs.Told.{Told, seen}
use Rattle.sccs_name_files.specs.Touches.{Leaves, TouchesOnly}
use Rattle.sccs_history.specs.History.{lives}
use Rattle.sccs_name_files.specs.StepFiles.{Moves}
use Rattle.sccs_crash_points.proofs.FileNames.{from_s}
use Rattle.sccs_crash_points.proofs.Recovering.{pair_same}
use Rattle.sccs_crash_points.proofs.Untouched.{sound_kept}
use Rattle.sccs_intents.specs.Intents.{intent_file}
use Rattle.sccs_pfile.specs.Agreement.{Agrees}
use Rattle.sccs_pfile.specs.Entries.{IsEdit}
use Rattle.sccs_crash_points.specs.Recovery.{IsSound}
use Rattle.sccs_pfile.specs.Recovered.{is_done, recovered_pfile}
use Rattle.sccs_pfile.specs.declared.entries.Edit.{Edit}
use Rattle.sccs_changes.specs.NewEntries.{IsDecided, PreparesEntries, kept_g}
use Rattle.sccs_changes.specs.Pending.{AnswersPending}
use Rattle.sccs_changes.specs.declared.pending.Pending.{Pending}
use Rattle.sccs_changes.proofs.StopLaws.{agreeing_undone, decided_settles}
use Rattle.sccs_steps.specs.StepStops.{ArePaired, IsPaired}
use Rattle.sccs_store.specs.Commits.{Needs, chosen, files_after}
use Rattle.sccs_store.specs.Stops.{KeepsEntries, OnReplace}
use Rattle.sccs_store.specs.declared.new_files.NewFile.{NewFile}
use Rattle.sccs_store.specs.declared.new_files.NewFile.TheVariants.{Keep, Replace, Remove}
use Rattle.sccs_changes.specs.Changes.{IsReady, plan_of}
use Rattle.sccs_changes.specs.Stops.{IsFirmPrepared, SettlesEntries}
use Rattle.sccs_changes.specs.declared.prepared.Prepared.{Prepared}
use Rattle.sccs_words.specs.declared.commands.GetWords.{GetWords}
use Rattle.sccs_get.specs.EditGiving.{new_g}
use Rattle.sccs_get.specs.VersionStep.{writes_g}
use Rattle.sccs_get.proofs.EditLaws.{all_and, each_and}
use Rattle.sccs_changes.proofs.Preparing.{firm_kept, there_moved}

abbrev pub edit_prepared : NewFile → NewFile → List ℕ → List ℕ → Prepared
edit_prepared new_p g report message =
    record { new_s = false; new_p = new_p; new_g = g; report = report; message = message }

-- ---- what is firm

pub edit_firm : (n : List ℕ) (new_p g : NewFile) (report message : List ℕ) (a b c : Told)
    → TouchesOnly (bytes_eq (q_file n)) a b → TouchesOnly (bytes_eq (y_file n)) b c
    → OnReplace new_p (Leaves (IsFirm (q_file n)) a b) → IsFirmPrepared n (edit_prepared new_p g report message) a c
edit_firm n new_p g report message a b c q y firm = record { x_state = tt; q_state = by new_p firm }
  where
    by : (new : NewFile) → OnReplace new (Leaves (IsFirm (q_file n)) a b)
        → OnReplace new (Leaves (IsFirm (q_file n)) a c)
    by Keep firm = tt
    by Replace firm = firm_kept (q_file n) (bytes_eq (y_file n)) (bytes_eq (q_file n)) a b c q y refl firm
    by Remove firm = tt

-- ---- what a commit needs

pub edit_ready : (words : GetWords) (n : List ℕ) (edits : List Edit) (edit : Edit) (new_p g : NewFile)
    (report message : List ℕ) (a b c : Told) → g ≡ new_g words → IsThere (z_file n) a → Moves (bytes_eq (q_file n))
    (λ v. v) (seen a) (seen b) → Moves (bytes_eq (y_file n)) (λ v. v) (seen b) (seen c)
    → PreparesEntries n (edits ++ edit ∷ []) new_p a b → (writes_g words ≡ true → IsThere (y_file n) c)
    → IsReady n (edit_prepared new_p g report message) c
edit_ready words n edits edit new_p g report message a b c g_is z q y entries there = record {
  z = there_moved (y_file n) (z_file n) (seen b) (seen c) refl y (there_moved (q_file n) (z_file n) (seen a)
      (seen b) refl q z);
  s = tt;
  p_state = p_needs new_p (entries.needs (λ none. absurd (some_edit edits none)));
  g = subst (λ (x : NewFile). Needs x (y_file n) (drop 2 n) c) (sym g_is) (g_needs (writes_g words) there);
}
  where
    some_edit : (edits : List Edit) → edits ++ edit ∷ [] ≡ [] → ⊥
    some_edit [] none = cc
    some_edit (e ∷ edits) none = cc

    p_needs : (new : NewFile) → Needs new (q_file n) (p_file n) b → Needs new (q_file n) (p_file n) c
    p_needs Keep needs = tt
    p_needs Replace needs = there_moved (y_file n) (q_file n) (seen b) (seen c) refl y needs
    p_needs Remove needs = there_moved (y_file n) (p_file n) (seen b) (seen c) refl y needs

    g_needs : (w : Bool) → (w ≡ true → IsThere (y_file n) c) → Needs (if w then Replace else Keep) (y_file n)
        (drop 2 n) c
    g_needs true there = there refl
    g_needs false there = tt

-- ---- what recovery makes of the entries

entries_prepared : (n : List ℕ) (edits : List Edit) (new_p : NewFile) (a b : Told) → Moves (bytes_eq (q_file n))
    (λ v. v) (seen a) (seen b) → PreparesEntries n edits new_p a b
    → IsDecided n (record { edits = edits; keep = true; report = [] }) (edit_prepared new_p Keep [] []) a b
entries_prepared n edits new_p a b moves entries = record {
  of = record { s = refl; report_is = refl; message = refl };
  moves = moves;
  entries = entries;
  g = record { chosen_is = g_kept (seen a); needs = tt };
}
  where
    g_kept : (o : Option View) → IfSome o (λ (v : View). (y : Option Content) → chosen Keep y (v (drop 2 n))
        ≡ kept_g true (v (drop 2 n)))
    g_kept None = tt
    g_kept (Some v) = λ y. refl

settles_on : (n : List ℕ) (new_p g : NewFile) (report message : List ℕ) (b c : Told) → IsSFileName n
    → Moves (bytes_eq (y_file n)) (λ v. v) (seen b) (seen c) → SettlesEntries n (edit_prepared new_p Keep [] []) b
    → SettlesEntries n (edit_prepared new_p g report message) c
settles_on n new_p g report message b c sfile moves settles = by (seen b) (seen c) moves settles
  where
    by : (o o2 : Option View) → Moves (bytes_eq (y_file n)) (λ v. v) o o2 → IfSome o (λ v. IsPaired n v → IsSound n v
        → KeepsEntries n (plan_of (edit_prepared new_p Keep [] [])) v
        × ArePaired (files_after n (plan_of (edit_prepared new_p Keep [] [])) v).s
        (files_after n (plan_of (edit_prepared new_p Keep [] [])) v).p)
        → IfSome o2 (λ v. IsPaired n v → IsSound n v → KeepsEntries n (plan_of (edit_prepared new_p g report message)) v
        × ArePaired (files_after n (plan_of (edit_prepared new_p g report message)) v).s
        (files_after n (plan_of (edit_prepared new_p g report message)) v).p)
    by None None moves settles = tt
    by None (Some u) moves settles = absurd cc
    by (Some v) None moves settles = tt
    by (Some v) (Some u) moves settles = λ paired sound.
        let s : u n ≡ v n = moves n (from_s 121 n sfile refl) in
        let p : u (p_file n) ≡ v (p_file n) = moves (p_file n) refl in
        let q : u (q_file n) ≡ v (q_file n) = moves (q_file n) refl in
        let new : chosen new_p (u (q_file n)) (u (p_file n)) ≡ chosen new_p (v (q_file n)) (v (p_file n)) =
        ap (λ (o : Option Content). chosen new_p o (u (p_file n))) q
        ∙ ap (λ (o : Option Content). chosen new_p (v (q_file n)) o) p in
        let intent : v intent_file ≡ u intent_file = sym (moves intent_file refl) in
        let before : IsSound n v = sound_kept n u v sound intent (pair_same _ _ _ _ (sym s) (sym p)) in
        let old : KeepsEntries n (plan_of (edit_prepared new_p Keep [] [])) v × ArePaired (v n)
        (chosen new_p (v (q_file n)) (v (p_file n))) = settles (λ none. sym p ∙ paired (s ∙ none)) before in (
          record {
            leaves = tt;
            sound =
                ap (λ (o : Option Content). recovered_pfile o (chosen new_p (u (q_file n)) (u (p_file n)))) s
                ∙ (ap (recovered_pfile (v n)) new ∙ (old.0.sound ∙ sym new));
          },
          λ none. new ∙ old.1 (sym s ∙ none),
        )

pub edit_settles : (n : List ℕ) (x : Pending) (edit : Edit) (new_p g : NewFile) (report message : List ℕ) (a b c : Told)
    → IsSFileName n → All IsEdit x.edits → IsEdit edit → Agrees x.front.header.records x.edits
    → lives x.front.header.records edit.made ≡ false
    → IfSome (seen a) (λ (v : View). AnswersPending (v n) (v (p_file n)) (Ok x)) → Moves (bytes_eq (q_file n)) (λ v. v)
    (seen a) (seen b) → Moves (bytes_eq (y_file n)) (λ v. v) (seen b) (seen c)
    → PreparesEntries n (x.edits ++ edit ∷ []) new_p a b
    → SettlesEntries n (edit_prepared new_p g report message) c
edit_settles n x edit new_p g report message a b c sfile edits valid agrees free read q y entries =
    settles_on n new_p g report message b c sfile y
    (decided_settles n x (record { edits = x.edits ++ edit ∷ []; keep = true; report = [] })
    (Ok (edit_prepared new_p Keep [] [])) a a b sfile refl read (recursion_from_All IsEdit (x.edits ++ edit ∷ [])
    (all_and IsEdit x.edits edit edits valid))
    (each_and (λ e. is_done x.front.header.records e ≡ false) x.edits edit
    (agreeing_undone x.front.header.records x.edits x.edits agrees) free)
    (entries_prepared n (x.edits ++ edit ∷ []) new_p a b q entries))
