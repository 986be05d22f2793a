-- What the steps of a command make of the versions of an s-file.
use Rattle.std.proofs.Common.{◌≡◌, ◌⊎◌, ℕ, Bool, true, false, ◌&&◌, List, [], ◌∷◌, map, Option, None, Some, inl, inr}
use Rattle.std.proofs.Common.{refl, sym, ap, subst, ⊎_elim}
use Rattle.std.specs.Prelude.{if◌then◌else◌, is_some}
use Rattle.std.specs.Str.{bytes_eq}
use Rattle.std.proofs.lemmas.Slice.Eq.{bytes_eq-Decides}
use Rattle.sccs_base.specs.Login.{IsLogin}
use Rattle.sccs_base.specs.Name.{IsSFileName}
use Rattle.sccs_disk.specs.Files.{Content, Folder, view_in}
use Rattle.sccs_disk.proofs.Puts.{name_cases}
use Rattle.sccs_sid.specs.Moment.{IsMoment}
use Rattle.sccs_words.specs.declared.commands.Command.{Command}
use Rattle.sccs_words.specs.declared.commands.Command.TheVariants as c
use Rattle.sccs_words.specs.declared.commands.ValWords.{ValWords}
use Rattle.sccs_name_files.specs.StepFiles.{Files, look, moved_in}
use Rattle.sccs_steps.specs.Actions.{Action, KeepsFiles}
use Rattle.sccs_steps.specs.StepLists.{NamedStep, folder_after, step_in}
use Rattle.sccs_steps.specs.Unlocked.{ArePlain, IsPlainFor}
use Rattle.sccs_admin.specs.AdminStep.{admin_change}
use Rattle.sccs_alter.specs.AlterStep.{alter_change}
use Rattle.sccs_alter.specs.CheckStep.{check_action, check_keeps}
use Rattle.sccs_alter.specs.CdcStep.{cdc_change}
use Rattle.sccs_delta.specs.DeltaStep.{delta_change}
use Rattle.sccs_edit.specs.Checks.{sact_keeps}
use Rattle.sccs_edit.specs.UngetStep.{unget_change}
use Rattle.sccs_edit.specs.Keeps.{pending_keeps}
use Rattle.sccs_get.specs.EditStep.{edit_change}
use Rattle.sccs_get.specs.Keeps.{get_keeps}
use Rattle.sccs_get.specs.VersionStep.{get_action}
use Rattle.sccs_rcs.specs.ImportStep.{import_change}
use Rattle.sccs_recovery.specs.Commands.{recover_keeps}
use Rattle.sccs_rmdel.specs.RmdelStep.{rmdel_change}
use Rattle.sccs_changes.specs.Changes.{locking}
use Rattle.sccs_changes.specs.Utilities.{locking_keeps}
use Rattle.sccs_delta.specs.Replays.{Texts}
use Rattle.sccs_prs.specs.Keeps.{prs_keeps}
use Rattle.sccs_val.proofs.RunLaws.{val_keeps}
use Rattle.sccs_what.specs.Checks.{what_keeps}
use Rattle.sccs_step_lists.specs.StepLists.{no_action}
use Rattle.sccs_soak.specs.Dropping.{dropping_keeps}
use Rattle.sccs_top.specs.Runs.{Caller, action_of, admin_there, has_heading, hushed, single_of, val_words_of}
use Rattle.sccs_replays.specs.PastRuns.{HasVersions, versions_after_command, versions_after_step, versions_after_steps}
use Rattle.sccs_replays.proofs.LeftFiles.{other_file, own_file}
use Rattle.sccs_replays.proofs.MadeSteps.{AreStepsOf, IsStepOf, IsMadeOf, alone_in}
use Rattle.sccs_replays.proofs.MeantValues.{HasMeantValues}
use Rattle.sccs_replays.proofs.StepVersions.{Goes, command_goes}

-- ---- one step

either_keeps : (edit : Bool) (x y : Action) → KeepsFiles x → KeepsFiles y → KeepsFiles (if edit then x else y)
either_keeps true x y first second = first
either_keeps false x y first second = second

nothing_keeps : KeepsFiles no_action
nothing_keeps = record {
  quiet = λ reads n i named f d is. absurd cc;
  names = λ changes n fits. absurd cc;
  locked =
      λ changes locks n i named f d is there g new. absurd cc;
  pending = λ changes never n i v f d there is. absurd cc;
}

by_keeps : (who : Caller) (command : Command) → KeepsFiles ((single_of command).by who)
by_keeps who (c.Admin words operands) =
    either_keeps words.fresh (locking (admin_change words who.stamp)) (admin_there words)
    (locking_keeps (admin_change words who.stamp))
    (either_keeps words.check check_action (locking (alter_change words)) check_keeps
    (locking_keeps (alter_change words)))
by_keeps who (c.Get words operands) =
    either_keeps words.edit (locking (edit_change words who.stamp who.place (has_heading operands)))
    (get_action words who.stamp who.place (has_heading operands))
    (locking_keeps (edit_change words who.stamp who.place (has_heading operands))) (get_keeps words who.stamp who.place
    (has_heading operands))
by_keeps who (c.Delta words name) = locking_keeps (delta_change words who.stamp)
by_keeps who (c.Unget words operands) = locking_keeps (unget_change words who.stamp (has_heading operands))
by_keeps who (c.Sact operands) = sact_keeps (has_heading operands)
by_keeps who (c.Tell operands) = pending_keeps false
by_keeps who (c.Check operands) = pending_keeps true
by_keeps who (c.Rmdel sid operands) = locking_keeps (rmdel_change sid who.stamp)
by_keeps who (c.Cdc words operands) = locking_keeps (cdc_change words who.stamp)
by_keeps who (c.Prs words operands) = prs_keeps words who.place
by_keeps who (c.Val words) = val_keeps words (λ name. None)
by_keeps who (c.What first operands) = what_keeps first
by_keeps who (c.Recover operands) = recover_keeps who.freed
by_keeps who (c.Import operands) = locking_keeps (import_change (has_heading operands))
by_keeps who c.Group = nothing_keeps
by_keeps who c.Batch = nothing_keeps
by_keeps who (c.Soak number) = nothing_keeps

hushed_keeps : (val : Option ValWords) (quiet : Bool) (x : Action) → KeepsFiles x → KeepsFiles (hushed val quiet x)
hushed_keeps (Some words) quiet x keeps = keeps
hushed_keeps None true x keeps = dropping_keeps x keeps
hushed_keeps None false x keeps = keeps

pub command_keeps : (who : Caller) (command : Command) → KeepsFiles (action_of who command)
command_keeps who command = hushed_keeps (val_words_of command) who.quiet ((single_of command).by who)
    (by_keeps who command)

-- the s-file of another name stays
other_stays : (x : Action) (i n : List ℕ) (m : Folder) (t : NamedStep) → KeepsFiles x → IsSFileName n
    → (x.fits t.name ≡ true → IsPlainFor x t.name) → bytes_eq t.name n ≡ false → IsStepOf x i m t
    → view_in (moved_in m t.name t.effect.new) n ≡ view_in m n
other_stays x i n m t keeps sfile plain apart is = stays is.made
  where
    stays : (t.effect.new ≡ None) ⊎ IsMadeOf x i m t → view_in (moved_in m t.name t.effect.new) n ≡ view_in m n
    stays (inl none) = ap (λ (new : Option Files). view_in (moved_in m t.name new) n) none
    stays (inr made) = by x.reads refl
      where
        by : (reads : Bool) → x.reads ≡ reads → view_in (moved_in m t.name t.effect.new) n ≡ view_in m n
        by true is = ap (λ (new : Option Files). view_in (moved_in m t.name new) n)
            (keeps.quiet is t.name i (map (view_in m) (x.named t.name)) (look (view_in m) t.name) t.effect made.made)
        by false is = other_file m t.name n t.effect.new sfile (plain made.fits is) apart

-- the versions of the step's own name
own_goes : (who : Caller) (command : Command) (i : List ℕ) (m : Folder) (t : NamedStep) (texts : Texts)
    → IsMoment who.stamp.moment → IsLogin who.stamp.login → HasMeantValues command
    → IsStepOf (action_of who command) i m t → Goes (view_in m t.name) t.effect.new texts
    (versions_after_command who command i m t.name texts)
own_goes who command i m t texts moment login values is = goes is.made
  where
    goes : (t.effect.new ≡ None) ⊎ IsMadeOf (action_of who command) i m t → Goes (view_in m t.name) t.effect.new texts
        (versions_after_command who command i m t.name texts)
    goes (inl none) = subst (λ (new : Option Files). Goes (view_in m t.name) new texts
        (versions_after_command who command i m t.name texts)) (sym none) (λ are. are)
    goes (inr made) = command_goes who command i t.name m texts t.effect moment login values made.made

pub step_goes : (who : Caller) (command : Command) (i n : List ℕ) (m : Folder) (t : NamedStep) (texts : Texts)
    → IsSFileName n → IsMoment who.stamp.moment → IsLogin who.stamp.login → HasMeantValues command
    → ((action_of who command).fits t.name ≡ true → IsPlainFor (action_of who command) t.name)
    → IsStepOf (action_of who command) i m t
    → HasVersions (view_in m n) texts → HasVersions (view_in (step_in m t) n)
    (versions_after_step who command i n m t texts)
step_goes who command i n m t texts sfile moment login values plain is are =
    subst (λ (u : Folder). HasVersions (view_in u n) (versions_after_step who command i n m t texts))
    (sym (alone_in m t is.alone)) (⊎_elim own other (name_cases t.name n))
  where
    by_test : (k : List ℕ) (test : Bool) → bytes_eq t.name k ≡ test
        → HasVersions (view_in (moved_in m t.name t.effect.new) k) (if test && is_some t.effect.new
        then versions_after_command who command i m k texts else texts)
        → HasVersions (view_in (moved_in m t.name t.effect.new) k) (versions_after_step who command i k m t texts)
    by_test k test same has =
        subst (λ (b : Bool). HasVersions (view_in (moved_in m t.name t.effect.new) k) (if b && is_some t.effect.new
        then versions_after_command who command i m k texts else texts)) (sym same) has

    own : t.name ≡ n → HasVersions (view_in (moved_in m t.name t.effect.new) n)
        (versions_after_step who command i n m t texts)
    own same =
        subst (λ (k : List ℕ). HasVersions (view_in m k) texts
        → HasVersions (view_in (moved_in m t.name t.effect.new) k) (versions_after_step who command i k m t texts))
        same
        (λ has. by_test t.name true ((bytes_eq-Decides t.name t.name).1 refl)
        (subst (λ (o : Option Content). HasVersions o (if is_some t.effect.new then versions_after_command who command i
        m t.name texts else texts)) (sym (own_file m t.name t.effect.new))
        (own_goes who command i m t texts moment login values is has))) are

    other : bytes_eq t.name n ≡ false → HasVersions (view_in (moved_in m t.name t.effect.new) n)
        (versions_after_step who command i n m t texts)
    other apart =
        by_test n false apart (subst (λ (o : Option Content). HasVersions o texts)
        (sym (other_stays (action_of who command) i n m t (command_keeps who command) sfile plain apart is)) are)

-- ---- steps, and runs

-- those of a command that only makes the steps of its operands
pub steps_go : (who : Caller) (command : Command) (i n : List ℕ) (m : Folder) (ts : List NamedStep) (texts : Texts)
    → IsSFileName n → IsMoment who.stamp.moment → IsLogin who.stamp.login → HasMeantValues command
    → ArePlain (action_of who command) ts → AreStepsOf (action_of who command) i m ts
    → HasVersions (view_in m n) texts → HasVersions (view_in (folder_after m ts) n)
    (versions_after_steps None who command i n m ts texts)
steps_go who command i n m [] texts sfile moment login values plain are has = has
steps_go who command i n m (t ∷ ts) texts sfile moment login values plain are has =
    steps_go who command i n (step_in m t) ts (versions_after_step who command i n m t texts) sfile moment login values
    plain.1 are.1
    (step_goes who command i n m t texts sfile moment login values plain.0 are.0 has)
