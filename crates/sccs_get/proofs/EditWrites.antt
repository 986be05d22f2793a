-- What is prepared of an edit behind its checks.
use Rattle.std.proofs.Common.{◌≡◌, ℕ, Bool, true, false, List, [], ◌∷◌, ◌++◌, length, drop, Option, None, Some, Ok, Err}
use Rattle.std.proofs.Common.{inr, refl, sym, ap, subst, ◌∙◌}
use Rattle.std.specs.Prelude.{IfSome, is_some, if◌then◌else◌}
use Rattle.std.specs.Str.{bytes_eq}
use Rattle.sccs_base.specs.Name.{IsSFileName, p_file, q_file, x_file, y_file, z_file}
use Rattle.sccs_base.specs.Stream.{GivesSome}
use Rattle.sccs_base.proofs.Gifts.{some_none, some_of_whole}
use Rattle.sccs_disk.specs.Files.{Content, View, put}
use Rattle.sccs_disk.proofs.Puts.{put_other, put_same}
use Rattle.sccs_sid.specs.declared.moments.Stamp.{Stamp}
use Rattle.sccs_sid.specs.declared.refusals.Refusal.{Refusal}
use Rattle.sccs_sid.specs.declared.refusals.StepFault.{StepFault}
use Rattle.sccs_sid.specs.declared.refusals.StepFault.TheVariants.{Refused, Memory, ReadFault, WriteFault, DiskFault}
use Rattle.sccs_history.specs.Body.{HistoryLine}
use Rattle.sccs_history.specs.declared.headers.Item.{Item}
use Rattle.sccs_history.specs.declared.headers.Record.{Record}
use Rattle.sccs_table.specs.ReaderState.{bytes_in}
use Rattle.sccs_table.specs.declared.fronts.Front.{Front}
use Rattle.sccs_versions.specs.Coming.{IsBody}
use Rattle.sccs_changes.specs.Pending.{bytes_at}
use Rattle.sccs_name_files.specs.StepFiles.{Files, Moves, is_working, l_file, look}
use Rattle.sccs_crash_points.proofs.FileNames.{from_g, from_s, no_q, no_y}
use Rattle.sccs_pfile.specs.Recovered.{pfile_of}
use Rattle.sccs_pfile.specs.declared.entries.Edit.{Edit}
use Rattle.sccs_printing.specs.declared.shown.Shown.{Shown}
use Rattle.sccs_steps.specs.Actions.{RefusesWithin}
use Rattle.sccs_steps.specs.Calls.{world}
use Rattle.sccs_steps.specs.StepEffects.{StepEffect}
use Rattle.sccs_store.specs.Commits.{Becomes, chosen, files_after, plan}
use Rattle.sccs_store.specs.declared.new_files.NewFile.{NewFile}
use Rattle.sccs_store.specs.declared.new_files.NewFile.TheVariants.{Keep, Replace}
use Rattle.sccs_store.proofs.Working.{moves_then, moves_wider}
use Rattle.sccs_changes.specs.Changes.{AreTakenOrGone, IsTakenOrGone, IsUnmade, Prepares, unlocked}
use Rattle.sccs_changes.proofs.Taken.{untouched}
use Rattle.sccs_words.specs.declared.commands.GetWords.{GetWords}
use Rattle.sccs_get.specs.EditGiving.{new_g}
use Rattle.sccs_get.specs.EditStep.{edit_effect}
use Rattle.sccs_get.specs.Giving.{GivesVersion, IsLate, with_y}
use Rattle.sccs_get.specs.Reports.{get_report, get_warning, replaces_keywords, said_on_err, said_on_out}
use Rattle.sccs_get.specs.VersionStep.{stays_writable, given_text, writes_g}
use Rattle.sccs_get.specs.declared.found.Found.{Found}
use Rattle.sccs_get.proofs.ReadyLaws.{report_same, warning_same}

-- ---- the files that a commit makes

abbrev pub files_of : Option Content → Option Content → Option Content → Option Content → Option Files
files_of s p g l = Some (record { s = s; p = p; z = None; g = g; l = l })

pub files_same : {s s2 p p2 g g2 l l2 : Option Content} → s ≡ s2 → p ≡ p2 → g ≡ g2 → l ≡ l2
    → files_of s p g l ≡ files_of s2 p2 g2 l2
files_same {s} {s2} {p} {p2} {g} {g2} {l} {l2} one two three four =
    ap (λ o. files_of o p g l) one ∙ (ap (λ o. files_of s2 o g l) two ∙ (ap (λ o. files_of s2 p2 o l) three
    ∙ ap (λ o. files_of s2 p2 g2 o) four))

-- by whether the text is to be the g-file
abbrev g_chosen : Bool → NewFile
g_chosen b = if b then Replace else Keep

abbrev y_made : Bool → List ℕ → Content → View → View
y_made b n c v = if b then put v (y_file n) (Some c) else v

files_made : (b : Bool) (n : List ℕ) (c : Content) (edits : List Edit) (new_p : NewFile) (v u : View) → IsSFileName n
    → ((k : List ℕ) → bytes_eq (q_file n) k ≡ false → u k ≡ v k) → ((old : Option Content)
    → chosen new_p (u (q_file n)) old ≡ pfile_of edits)
    → files_of (unlocked n v n) (pfile_of edits) (if b then Some c else unlocked n v (drop 2 n))
    (unlocked n v (l_file n)) ≡ Some (files_after n (plan false new_p (g_chosen b)) (y_made b n c u))
files_made true n c edits new_p v u sfile same entries =
    files_same (put_other v (z_file n) n None (from_s 122 n sfile refl) ∙ (sym (same n (from_s 113 n sfile refl))
    ∙ sym (put_other u (y_file n) n (Some c) (from_s 121 n sfile refl))))
    (sym (entries (put u (y_file n) (Some c) (p_file n)))
    ∙ ap (λ (o : Option Content). chosen new_p o (put u (y_file n) (Some c) (p_file n)))
    (sym (put_other u (y_file n) (q_file n) (Some c) refl)))
    (sym (put_same u (y_file n) (Some c)))
    (put_other v (z_file n) (l_file n) None refl ∙ (sym (same (l_file n) refl)
    ∙ sym (put_other u (y_file n) (l_file n) (Some c) refl)))
files_made false n c edits new_p v u sfile same entries =
    files_same (put_other v (z_file n) n None (from_s 122 n sfile refl) ∙ sym (same n (from_s 113 n sfile refl)))
    (sym (entries (u (p_file n))))
    (put_other v (z_file n) (drop 2 n) None (from_g 122 n sfile) ∙ sym (same (drop 2 n) (from_g 113 n sfile)))
    (put_other v (z_file n) (l_file n) None refl ∙ sym (same (l_file n) refl))

-- the y-file is taken where it was made
y_taken : (b : Bool) (n : List ℕ) (c : Content) (v x u : View) → x (y_file n) ≡ v (y_file n)
    → u (y_file n) ≡ y_made b n c x (y_file n) → IsTakenOrGone (g_chosen b) (v (y_file n)) (u (y_file n))
y_taken true n c v x u same is = tt
y_taken false n c v x u same is = inr (is ∙ same)

unsome : (u w : View) → Some u ≡ Some w → u ≡ w
unsome u w is = cc

-- the body stays where it was while another file changes
pub body_kept : (n : List ℕ) (front : Front) (set file : List ℕ) (items : List Item) (v : View) (o o2 : Option View)
    → IsSFileName n → o ≡ Some v → Moves (bytes_eq (q_file n)) (λ u. u) o o2
    → IsBody (bytes_in (Some v) n) front set file items → IsBody (bytes_in o2 n) front set file items
body_kept n front set file items v o o2 sfile is moves body =
    by o2 (subst (λ (w : Option View). Moves (bytes_eq (q_file n)) (λ u. u) w o2) is moves)
  where
    by : (o2 : Option View) → Moves (bytes_eq (q_file n)) (λ u. u) (Some v) o2
        → IsBody (bytes_in o2 n) front set file items
    by None moves = absurd moves
    by (Some u) moves = subst (λ (t : Option (List ℕ)). IsBody t front set file items)
        (sym (ap bytes_at (moves n (from_s 113 n sfile refl)))) body

-- ---- how it ends

module _ (words : GetWords) (stamp : Stamp) (place : List ℕ) (heading : Bool) (n : List ℕ) where
  both_moves : (v : View) (o2 o3 : Option View) → Moves (bytes_eq (q_file n)) (λ u. u) (Some v) o2
      → Moves (bytes_eq (y_file n)) (λ u. u) o2 o3 → Moves (is_working n) (λ u. u) (Some v) o3
  both_moves v o2 o3 q y = moves_then (is_working n) (Some v) o2 o3 (moves_wider (bytes_eq (q_file n)) (is_working n)
      (Some v) o2 (no_q n) q) (moves_wider (bytes_eq (y_file n)) (is_working n) o2 o3 (no_y n) y)

  unmade : (text : List ℕ) (v : View) (o3 : Option View) (out out2 err : Option (List ℕ))
      → Moves (is_working n) (λ u. u) (Some v) o3 → GivesSome out out2 text → IsUnmade n text (world (Some v) out err)
      (world o3 out2 err)
  unmade text v o3 out out2 err moves gives = record { view = moves; out = gives }

  -- no check fails any more
  late_ends : (fault : StepFault) (effect : StepEffect) (v : View) (o3 : Option View) (out out2 err : Option (List ℕ))
      → ((refusal : Refusal) → fault ≡ Refused refusal → ⊥) → Moves (is_working n) (λ u. u) (Some v) o3
      → GivesSome out out2 effect.text
      → Prepares (Err fault) n (Ok effect) (world (Some v) out err) (world o3 out2 err)
  late_ends (Refused refusal) effect v o3 out out2 err never moves gives = absurd (never refusal refl)
  late_ends Memory effect v o3 out out2 err never moves gives = unmade effect.text v o3 out out2 err moves gives
  late_ends ReadFault effect v o3 out out2 err never moves gives = unmade effect.text v o3 out out2 err moves gives
  late_ends WriteFault effect v o3 out out2 err never moves gives = unmade effect.text v o3 out out2 err moves gives
  late_ends DiskFault effect v o3 out out2 err never moves gives = unmade effect.text v o3 out out2 err moves gives

  pub entry_ends : {T : Type 0} (fault : StepFault) (effect : StepEffect) (v : View) (o o2 : Option View)
      (out err : Option (List ℕ)) → o ≡ Some v → RefusesWithin {X = T} [] (Err fault) → Moves (bytes_eq (q_file n))
      (λ u. u) o o2 → Prepares (Err fault) n (Ok effect) (world (Some v) out err) (world o2 out err)
  entry_ends fault effect v o o2 out err is checks moves =
      late_ends fault effect v o2 out out err (λ refusal same. let never : false ≡ true =
      checks refusal (ap (λ (f : StepFault). Err f) same) in cc)
      (moves_wider (bytes_eq (q_file n)) (is_working n) (Some v) o2 (no_q n)
      (subst (λ (w : Option View). Moves (bytes_eq (q_file n)) (λ u. u) w o2) is moves)) (some_none out effect.text)

  late_only : (fault : StepFault) → IsLate fault → (refusal : Refusal) → fault ≡ Refused refusal → ⊥
  late_only (Refused refusal) late other same = late
  late_only Memory late other same = cc
  late_only ReadFault late other same = late
  late_only WriteFault late other same = cc
  late_only DiskFault late other same = cc

  module _ (records : List Record) (f : Files) (edits : List Edit) (edit : Edit) (version : Found)
      (lines : List HistoryLine) where
    abbrev effect : StepEffect
    effect = edit_effect words heading n records f edits edit version lines

    pub text_ends : (fault : StepFault) (v : View) (o o2 o3 : Option View) (out out2 err : Option (List ℕ)) → o ≡ Some v
        → Moves (bytes_eq (q_file n)) (λ u. u) o o2 → Moves (bytes_eq (y_file n)) (λ u. u) o2 o3
        → GivesVersion words n records version lines (Err fault) (world o2 out err) (world o3 out2 err)
        → Prepares (Err fault) n (Ok effect) (world (Some v) out err) (world o3 out2 err)
    text_ends fault v o o2 o3 out out2 err is q y gives = late_ends fault effect v o3 out out2 err
        (late_only fault gives.0)
        (both_moves v o2 o3 (subst (λ (w : Option View). Moves (bytes_eq (q_file n)) (λ u. u) w o2) is q) y) gives.1

    pub memory_ends : (shown : Shown) (v : View) (o o2 o3 : Option View) (out out2 err : Option (List ℕ)) → o ≡ Some v
        → Moves (bytes_eq (q_file n)) (λ u. u) o o2 → Moves (bytes_eq (y_file n)) (λ u. u) o2 o3
        → GivesVersion words n records version lines (Ok shown) (world o2 out err) (world o3 out2 err)
        → Prepares (Err Memory) n (Ok effect) (world (Some v) out err) (world o3 out2 err)
    memory_ends shown v o o2 o3 out out2 err is q y gives =
        unmade effect.text v o3 out out2 err
        (both_moves v o2 o3 (subst (λ (w : Option View). Moves (bytes_eq (q_file n)) (λ u. u) w o2) is q) y)
        (some_of_whole out out2 effect.text gives.0.out)

    abbrev text : List ℕ
    text = given_text words records version lines

    files_at : (new_p g : NewFile) (v : View) (o2 o3 : Option View) → IsSFileName n → f ≡ look (unlocked n v) n
        → g ≡ new_g words → Moves (bytes_eq (q_file n)) (λ u. u) (Some v) o2
        → IfSome o2 (λ (u : View). (old : Option Content) → chosen new_p (u (q_file n)) old ≡ pfile_of
        (edits ++ edit ∷ []))
        → Becomes (with_y words n text) o2 o3
        → IfSome o3 (λ u. effect.new ≡ Some (files_after n (plan false new_p g) u))
    files_at new_p g v None o3 sfile is g_is moves entries given = absurd moves
    files_at new_p g v (Some u) o3 sfile is g_is moves entries given =
        subst (λ (o : Option View). IfSome o (λ w. effect.new ≡ Some (files_after n (plan false new_p g) w)))
        (sym given)
        (ap (λ (x : Files). files_of x.s (pfile_of (edits ++ edit ∷ [])) (if writes_g words then Some
        (record { bytes = text; writable = stays_writable words }) else x.g) x.l) is
        ∙ (files_made (writes_g words) n (record { bytes = text; writable = stays_writable words }) (edits ++ edit ∷ [])
        new_p v u sfile moves entries
        ∙ ap (λ (x : NewFile). Some (files_after n (plan false new_p x) (with_y words n text u))) (sym g_is)))

    -- the s-file stays, and the y-file is made where it is to be the g-file
    both_taken : (new_p g : NewFile) (v : View) (o2 o3 : Option View) → g ≡ new_g words → Moves (bytes_eq (q_file n))
        (λ u. u) (Some v) o2 → Moves (bytes_eq (y_file n)) (λ u. u) o2 o3
        → IfSome o2 (λ (x : View). IsTakenOrGone new_p (v (q_file n)) (x (q_file n)))
        → Becomes (with_y words n text) o2 o3 → IfSome o3 (λ (u : View). AreTakenOrGone n (plan false new_p g) v u)
    both_taken new_p g v None o3 g_is q y taken given = absurd q
    both_taken new_p g v (Some x) None g_is q y taken given = absurd y
    both_taken new_p g v (Some x) (Some u) g_is q y taken given = record {
      x = untouched Keep _ _ (y (x_file n) refl ∙ q (x_file n) refl);
      q = subst (λ (c : Option Content). IsTakenOrGone new_p (v (q_file n)) c) (sym (y (q_file n) refl)) taken;
      y = subst (λ (f : NewFile). IsTakenOrGone f (v (y_file n)) (u (y_file n))) (sym g_is) (y_taken (writes_g words) n
          (record { bytes = text; writable = stays_writable words }) v x u (q (y_file n) refl)
          (ap (λ (w : View). w (y_file n)) (unsome u _ given)));
    }

    pub all_prepared : (shown : Shown) (new_p g : NewFile) (report message : List ℕ) (v : View) (o o2 o3 : Option View)
        (out out2 err : Option (List ℕ)) → IsSFileName n → o ≡ Some v → f ≡ look (unlocked n v) n → g ≡ new_g words
        → is_some version.facts ≡ replaces_keywords words
        → Moves (bytes_eq (q_file n)) (λ u. u) o o2 → IfSome o2 (λ (u : View). (old : Option Content)
        → chosen new_p (u (q_file n)) old ≡ pfile_of (edits ++ edit ∷ []))
        → IfSome o (λ (u : View). IfSome o2 (λ (x : View). IsTakenOrGone new_p (u (q_file n)) (x (q_file n))))
        → Moves (bytes_eq (y_file n)) (λ u. u) o2 o3 → GivesVersion words n records version lines (Ok shown)
        (world o2 out err) (world o3 out2 err)
        → report ≡ said_on_out words (get_report words heading n version.include version.exclude version.sid
        (Some edit.made) shown.lines)
        → message ≡ said_on_err words (get_report words heading n version.include version.exclude version.sid
        (Some edit.made) shown.lines) (get_warning words n shown.keywords)
        → Prepares (Ok (record { new_s = false; new_p = new_p; new_g = g; report = report; message = message })) n
        (Ok effect) (world (Some v) out err) (world o3 out2 err)
    all_prepared shown new_p g report message v o o2 o3 out out2 err sfile is f_is g_is replaced q entries taken y gives
        report_is message_is =
        let moves : Moves (bytes_eq (q_file n)) (λ u. u) (Some v) o2 =
        subst (λ (w : Option View). Moves (bytes_eq (q_file n)) (λ u. u) w o2) is q in
        let reported = report_same words heading n version.include version.exclude version.sid
        (Some edit.made) shown.lines (length lines) (λ some. ap (λ (s : Shown). s.lines) (gives.1 some)) in
        let warned = warning_same words heading n version lines shown replaced gives.1 in
        record {
          effect = effect;
          is = refl;
          status = refl;
          report = sym (report_is ∙ ap (said_on_out words) reported);
          message = sym (message_is ∙ (ap (λ r. said_on_err words r (get_warning words n shown.keywords)) reported
              ∙ ap (λ m. said_on_err words (get_report words heading n version.include version.exclude version.sid
              (Some edit.made) (length lines)) m) warned));
          view = both_moves v o2 o3 moves y;
          working = both_taken new_p g v o2 o3 g_is moves y
              (subst (λ (w : Option View). IfSome w (λ (u : View). IfSome o2 (λ (x : View). IsTakenOrGone new_p
              (u (q_file n)) (x (q_file n))))) is taken) gives.0.view;
          files = files_at new_p g v o2 o3 sfile f_is g_is moves entries gives.0.view;
          out = gives.0.out;
        }
