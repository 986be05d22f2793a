-- Delta's step asks nothing of the l-file, and passes it on.
use Rattle.std.proofs.Common.{◌≡◌, ℕ, Bool, true, false, List, [], drop, Option, Result, Ok, Err, refl, ap, ◌∙◌}
use Rattle.std.specs.Prelude.{is_none, if◌then◌else◌}
use Rattle.sccs_base.specs.Name.{is_sfile_name, p_file, z_file}
use Rattle.sccs_sid.specs.Reading.{◌>>=◌}
use Rattle.sccs_sid.specs.declared.moments.Stamp.{Stamp}
use Rattle.sccs_sid.specs.declared.refusals.Refusal.{Refusal}
use Rattle.sccs_sid.specs.declared.refusals.Refusal.TheVariants.{BadName, Locked}
use Rattle.sccs_script.specs.Commands.{orders_of}
use Rattle.sccs_disk.specs.Files.{Content, View}
use Rattle.sccs_name_files.specs.StepFiles.{Files, l_file, look}
use Rattle.sccs_steps.specs.StepEffects.{Outcome, check}
use Rattle.sccs_changes.specs.Changes.{locking_step}
use Rattle.sccs_changes.specs.Pending.{pending_of}
use Rattle.sccs_words.specs.declared.commands.DeltaWords.{DeltaWords}
use Rattle.sccs_delta.specs.DeltaStep.{base_lines, chosen_entry, delta_change, delta_outcome, fitted, mrs_checked}
use Rattle.sccs_delta.specs.DeltaStep.{nulls_of, or_script_fault, sizes_checked}
use Rattle.sccs_group_command.specs.declared.entries.GroupEntry.{GroupEntry}
use Rattle.sccs_group_command.specs.GroupStep.{entry_outcome}
use Rattle.sccs_group_command.specs.LFiles.{AgreeButL, files_with_l, with_l}

-- a check that the l-file isn't part of
behind : {A : Type 0} (l : Option Content) (r : Result A Refusal) (f g : A → Outcome) → ((x : A) → f x ≡ with_l l (g x))
    → (r >>= f) ≡ with_l l (r >>= g)
behind l (Ok x) f g rest = rest x
behind l (Err refusal) f g rest = refl

pub delta_keeps_l : (words : DeltaWords) (stamp : Stamp) (n script : List ℕ) (named : List (Option Content)) (f : Files)
    (l : Option Content)
    → delta_outcome words stamp n script named (files_with_l l f) ≡ with_l l
    (delta_outcome words stamp n script named f)
unfolding delta_outcome sizes_checked
delta_keeps_l words stamp n script named f l =
    behind l (sizes_checked script f) _ _
    (λ sizes. behind l (pending_of f.s f.p) _ _
    (λ found. behind l (chosen_entry words stamp found.parsed.header found.edits) _ _
    (λ e. behind l (or_script_fault (orders_of script)) _ _
    (λ orders. behind l (fitted found.parsed.header.flags orders (base_lines found.parsed.items e.base) f.g) _ _
    (λ fits. behind l (mrs_checked found.parsed.header.flags words.mrs) _ _
    (λ mrs. behind l (nulls_of found.parsed.header found.edits e.edit) _ _ (λ nulls. refl)))))))

-- a locked name is refused by its z-file alone
pub locking_keeps_l : (words : DeltaWords) (stamp : Stamp) (n script : List ℕ) (named : List (Option Content))
    (f : Files) (l : Option Content)
    → locking_step (delta_change words stamp).outcome n script named (files_with_l l f) ≡ with_l l
    (locking_step (delta_change words stamp).outcome n script named f)
unfolding locking_step
locking_keeps_l words stamp n script named f l = behind l (check (is_none f.z) Locked) _ _
    (λ free. delta_keeps_l words stamp n script named f l)

-- what a step sees of two views that agree but for the l-file
look_but_l : (n : List ℕ) (u v : View) → AgreeButL n u v → look v n ≡ files_with_l (v (l_file n)) (look u n)
look_but_l n u v agree =
    ap (λ (o : Option Content). files_of o (v (p_file n)) (v (z_file n)) (v (drop 2 n))) agree.s
    ∙ (ap (λ (o : Option Content). files_of (u n) o (v (z_file n)) (v (drop 2 n))) agree.p
    ∙ (ap (λ (o : Option Content). files_of (u n) (u (p_file n)) o (v (drop 2 n))) agree.z
    ∙ ap (λ (o : Option Content). files_of (u n) (u (p_file n)) (u (z_file n)) o) agree.g))
  where
    files_of : (s p z g : Option Content) → Files
    files_of s p z g = record { s = s; p = p; z = z; g = g; l = v (l_file n) }

pub entry_keeps_l : (stamp : Stamp) (e : GroupEntry) (u v : View) → (is_sfile_name e.name ≡ true → AgreeButL e.name u v)
    → entry_outcome stamp v e ≡ with_l (v (l_file e.name)) (entry_outcome stamp u e)
unfolding entry_outcome
entry_keeps_l stamp e u v agree = by (is_sfile_name e.name) agree
  where
    locking_of : Files → Outcome
    locking_of f = locking_step (delta_change e.words stamp).outcome e.name e.script [] f

    by : (fits : Bool) → (fits ≡ true → AgreeButL e.name u v) → (if fits then locking_of (look v e.name)
        else Err BadName) ≡ with_l (v (l_file e.name)) (if fits then locking_of (look u e.name) else Err BadName)
    by true same = ap locking_of (look_but_l e.name u v (same refl)) ∙ locking_keeps_l e.words stamp e.name e.script []
        (look u e.name) (v (l_file e.name))
    by false same = refl
