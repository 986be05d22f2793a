-- A recover that finishes a group of other names leaves the versions of an s-file.
use Rattle.std.proofs.Common.{◌≡◌, ℕ, Bool, true, false, List, [], ◌∷◌, drop, take, Option, None, Some, refl, sym, ap}
use Rattle.std.proofs.Common.{subst, ◌∙◌}
use Rattle.std.specs.Prelude.{if◌then◌else◌, find, option_map}
use Rattle.std.specs.List.{AllByRecursion}
use Rattle.std.specs.Str.{bytes_eq}
use Rattle.sccs_base.specs.Login.{IsLogin}
use Rattle.sccs_base.specs.Name.{IsSFileName}
use Rattle.sccs_disk.specs.Files.{Folder, View, view_in}
use Rattle.sccs_sid.specs.Moment.{IsMoment}
use Rattle.sccs_name_files.specs.StepFiles.{Files, moved, moved_in}
use Rattle.sccs_name_files.proofs.Folders.{moved_view}
use Rattle.sccs_intents.specs.Intents.{entries_in, fate_in, intent_file}
use Rattle.sccs_intents.specs.declared.intents.IntentEntry.{IntentEntry}
use Rattle.sccs_crash_points.specs.Recovery.{fate_at, is_kept}
use Rattle.sccs_crash_points.proofs.FileNames.{intent_and_sfile}
use Rattle.sccs_words.specs.declared.commands.Command.{Command}
use Rattle.sccs_words.specs.declared.commands.Command.TheVariants as c
use Rattle.sccs_words.specs.declared.commands.Operands.{Operands}
use Rattle.sccs_steps.specs.StepLists.{NamedStep, all_moved_in, folder_after, step_in}
use Rattle.sccs_steps.specs.Unlocked.{ArePlain}
use Rattle.sccs_delta.specs.Replays.{Texts}
use Rattle.sccs_recovery.specs.FinishStep.{finished_files, finishing_step, intent_taken, name_moves}
use Rattle.sccs_top.specs.Runs.{Caller, action_of, group_use}
use Rattle.sccs_top.specs.declared.commands.GroupUse.TheVariants as uses
use Rattle.sccs_replays.specs.PastRuns.{HasVersions, versions_after_steps}
use Rattle.sccs_replays.proofs.CommandSteps.{steps_go}
use Rattle.sccs_replays.proofs.LeftFiles.{other_file}
use Rattle.sccs_replays.proofs.MadeSteps.{AreStepsOf}
use Rattle.sccs_top.proofs.FinishedRuns.{finisher, Recovers}

-- ---- the step that finishes a group

is_other : (e : IntentEntry) (es : List IntentEntry) (n : List ℕ) → fate_in (e ∷ es) n ≡ None
    → (bytes_eq e.name n ≡ false) × (fate_in es n ≡ None)
is_other e es n none = by (bytes_eq e.name n) refl
  where
    found : (b : Bool) → bytes_eq e.name n ≡ b → option_map (λ (x : IntentEntry). x.fate) (if b then Some e
        else find (λ (x : IntentEntry). bytes_eq x.name n) es) ≡ None
    found b is = ap (λ (t : Bool). option_map (λ (x : IntentEntry). x.fate) (if t then Some e
        else find (λ (x : IntentEntry). bytes_eq x.name n) es)) (sym is) ∙ none

    by : (b : Bool) → bytes_eq e.name n ≡ b → (bytes_eq e.name n ≡ false) × (fate_in es n ≡ None)
    by true is = absurd (let no : Some e.fate ≡ None = found true is in cc)
    by false is = (is, found false is)

-- the names of an intent are others
names_leave : (n : List ℕ) (m : Folder) (v : View) (es : List IntentEntry) → IsSFileName n
    → AllByRecursion (λ (e : IntentEntry). is_kept (drop 2 e.name) ≡ false) es → fate_in es n ≡ None
    → view_in m ≡ v → view_in (all_moved_in m (name_moves v es)) n ≡ view_in m n
names_leave n m v [] sfile plain none is = refl
names_leave n m v (e ∷ es) sfile plain none is =
    let other = is_other e es n none in
    let new : Option Files = Some (finished_files e v) in
    names_leave n (moved_in m e.name new) (moved v e.name new) es sfile plain.1 other.1 (moved_view m e.name new
    ∙ ap (λ (u : View). moved u e.name new) is)
    ∙ other_file m e.name n new sfile plain.0 other.0

finishing_leaves : (n : List ℕ) (m : Folder) → IsSFileName n
    → AllByRecursion (λ (e : IntentEntry). is_kept (drop 2 e.name) ≡ false) (entries_in (view_in m intent_file))
    → fate_at (view_in m) n ≡ None
    → view_in (step_in m (finishing_step (view_in m))) n ≡ view_in m n
finishing_leaves n m sfile plain none =
    let taken = intent_taken (view_in m) in
    names_leave n (moved_in m intent_file taken) (moved (view_in m) intent_file taken)
    (entries_in (view_in m intent_file)) sfile plain none (moved_view m intent_file taken)
    ∙ other_file m intent_file n taken sfile refl (intent_and_sfile n sfile)

-- ---- recover

either_same : (b : Bool) (texts : Texts) → (if b then texts else texts) ≡ texts
either_same true texts = refl
either_same false texts = refl

operands_leave : (who : Caller) (operands : Operands) (i n : List ℕ) (m : Folder) (ts : List NamedStep) (texts : Texts)
    → versions_after_steps None who (c.Recover operands) i n m ts texts ≡ texts
operands_leave who operands i n m [] texts = refl
operands_leave who operands i n m (t ∷ ts) texts =
    ap (λ (x : Texts). versions_after_steps None who (c.Recover operands) i n (step_in m t) ts x) (either_same _ texts)
    ∙ operands_leave who operands i n (step_in m t) ts texts

pub finishing_stays : (who : Caller) (command : Command) (i n : List ℕ) (m : Folder) (ts : List NamedStep)
    (texts : Texts) → versions_after_steps (Some uses.Finishes) who command i n m ts texts ≡ texts
finishing_stays who command i n m [] texts = refl
finishing_stays who command i n m (t ∷ ts) texts = finishing_stays who command i n (step_in m t) ts texts

-- the operands behind it
operands_go : (who : Caller) (command : Command) (i n : List ℕ) (m : Folder) (ts : List NamedStep) (texts : Texts)
    → group_use command ≡ Some uses.Finishes → IsSFileName n → IsMoment who.stamp.moment → IsLogin who.stamp.login
    → ArePlain (action_of who command) ts → AreStepsOf (action_of who command) i m ts → HasVersions (view_in m n) texts
    → HasVersions (view_in (folder_after m ts) n) texts
operands_go who command i n m ts texts is sfile moment login plain are has =
    let recovers : Recovers command = finisher command is in
    subst (λ (x : Texts). HasVersions (view_in (folder_after m ts) n) x) (operands_leave who recovers.0 i n m ts texts)
    (steps_go who (c.Recover recovers.0) i n m ts texts sfile moment login tt
    (subst (λ (x : Command). ArePlain (action_of who x) ts) recovers.1 plain)
    (subst (λ (x : Command). AreStepsOf (action_of who x) i m ts) recovers.1 are) has)

pub finishing_goes : (who : Caller) (command : Command) (i n : List ℕ) (m : Folder) (made : ℕ) (ts : List NamedStep)
    (texts : Texts) → group_use command ≡ Some uses.Finishes → IsSFileName n → IsMoment who.stamp.moment
    → IsLogin who.stamp.login
    → AllByRecursion (λ (e : IntentEntry). is_kept (drop 2 e.name) ≡ false) (entries_in (view_in m intent_file))
    → fate_at (view_in m) n ≡ None
    → ArePlain (action_of who command) (take (made) ts) → AreStepsOf (action_of who command) i
    (step_in m (finishing_step (view_in m))) (take made ts)
    → HasVersions (view_in m n) texts → HasVersions (view_in (folder_after (step_in m (finishing_step (view_in m)))
    (take made ts)) n) texts
finishing_goes who command i n m made ts texts is sfile moment login names none plain are has =
    operands_go who command i n (step_in m (finishing_step (view_in m))) (take made ts) texts is sfile moment login
    plain are
    (subst (λ o. HasVersions o texts) (sym (finishing_leaves n m sfile names none)) has)
