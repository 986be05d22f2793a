-- How preparing an entry ends.
use Rattle.std.proofs.Common.{◌≡◌, ◌≢◌, ◌⊎◌, ◌&&◌, ℕ, Bool, true, false, List, [], drop, Option, None, Some, IfSome}
use Rattle.std.proofs.Common.{IsSome, Result, Ok, Err, inl, inr, refl, sym, ap, subst, ◌∙◌}
use Rattle.std.specs.Str.{bytes_eq}
use Rattle.sccs_base.specs.Name.{IsName, IsSFileName, is_sfile_name, p_file, q_file, x_file, y_file, z_file}
use Rattle.sccs_base.specs.Stream.{GivesOk}
use Rattle.sccs_sid.specs.declared.moments.Stamp.{Stamp}
use Rattle.sccs_sid.specs.declared.refusals.Refusal.{Refusal}
use Rattle.sccs_sid.specs.declared.refusals.Refusal.TheVariants as refusals
use Rattle.sccs_sid.specs.declared.refusals.StepFault.{StepFault}
use Rattle.sccs_sid.specs.declared.refusals.StepFault.TheVariants.{Refused, Memory, ReadFault, WriteFault, DiskFault}
use Rattle.sccs_disk.specs.Files.{Content, Model, View, view_of}
use Rattle.sccs_disk.specs.Effects.{empty_file}
use Rattle.sccs_disk.proofs.Puts.{put_other}
use Rattle.sccs_disk.specs.Told.{Told, Nothing, Shows, Tells, seen}
use Rattle.sccs_name_files.specs.StepFiles.{Alike, Files, Moves, early_moved, is_left, is_working, look}
use Rattle.sccs_steps.specs.Calls.{world}
use Rattle.sccs_steps.specs.StepEffects.{Outcome, StepEffect}
use Rattle.sccs_store.specs.Commits.{Becomes, Needs, abandoned, files_after, locked}
use Rattle.sccs_store.specs.declared.new_files.NewFile.{NewFile}
use Rattle.sccs_store.specs.declared.new_files.NewFile.TheVariants.{Keep, Replace, Remove}
use Rattle.sccs_store.specs.Stops.{KeepsEntries}
use Rattle.sccs_steps.specs.StepStops.{ArePaired, IsPaired}
use Rattle.sccs_intents.specs.Intents.{intent_file}
use Rattle.sccs_crash_points.specs.Recovery.{IsSound}
use Rattle.sccs_crash_points.proofs.FileNames.{from_s, left_s, no_working, no_z}
use Rattle.sccs_crash_points.proofs.Recovering.{pair_same}
use Rattle.sccs_crash_points.proofs.Untouched.{sound_kept}
use Rattle.sccs_changes.specs.Pending.{Found, pending_of}
use Rattle.sccs_words.specs.declared.commands.DeltaWords.{DeltaWords}
use Rattle.sccs_changes.specs.Stops.{SettlesEntries}
use Rattle.sccs_delta.proofs.StepParts.{step_parts}
use Rattle.sccs_changes.specs.Changes.{IsPrepared, IsReady, Prepares, plan_of, unlocked}
use Rattle.sccs_changes.specs.declared.prepared.Prepared.{Prepared}
use Rattle.sccs_changes.proofs.ChangeEnds.{before_lock, free_step, given_up}
use Rattle.sccs_changes.specs.Utilities.{taken_step}
use Rattle.sccs_delta.specs.DeltaStep.{delta_change, delta_outcome}
use Rattle.sccs_delta.specs.Writing.{IsDeltaPlan}
use Rattle.sccs_group_command.specs.declared.entries.GroupEntry.{GroupEntry}
use Rattle.sccs_group_command.specs.GroupStep.{entry_outcome}
use Rattle.sccs_group_command.specs.Preparing.{Between, GivesBack, IsGivenBack, IsPreparedEntry, PreparesEntry}
use Rattle.sccs_group_command.specs.Preparing.{is_sfile_left, is_sfile_working}

-- ---- the outcome of an entry

pub bad_outcome : (stamp : Stamp) (e : GroupEntry) (u : View) → is_sfile_name e.name ≡ false → entry_outcome stamp u e
    ≡ Err refusals.BadName
unfolding entry_outcome
bad_outcome stamp e u bad = rw bad refl

taken_outcome : (stamp : Stamp) (e : GroupEntry) (u : View) → is_sfile_name e.name ≡ true → IsSome (u (z_file e.name))
    → entry_outcome stamp u e ≡ Err refusals.Locked
unfolding entry_outcome
taken_outcome stamp e u fits taken = rw fits (taken_step (delta_change e.words stamp) e.name e.script []
    (look u e.name) taken)

free_outcome : (stamp : Stamp) (e : GroupEntry) (u : View) → is_sfile_name e.name ≡ true → u (z_file e.name) ≡ None
    → entry_outcome stamp u e ≡ delta_outcome e.words stamp e.name e.script []
    (look (unlocked e.name (locked e.name u)) e.name)
unfolding entry_outcome
free_outcome stamp e u fits free =
    rw fits (free_step (delta_change e.words stamp) e.name e.script [] (look u e.name) free
    ∙ ap (λ (w : View). delta_outcome e.words stamp e.name e.script [] (look w e.name))
    (sym (before_lock e.name u free)))

-- ---- before the lock

pub same_back : (working : List ℕ → Bool) (u : View) → IsGivenBack working u u
same_back working u = record { view = λ k h. refl; cleared = λ k h. inr refl }

pub bad_name : (stamp : Stamp) (e : GroupEntry) (o : Option View) → is_sfile_name e.name ≡ false
    → Between (λ u v. PreparesEntry (Err (Refused refusals.BadName)) e.name (entry_outcome stamp u e) u v) o o
bad_name stamp e None bad = tt
bad_name stamp e (Some u) bad = (bad_outcome stamp e u bad, same_back (is_sfile_working e.name) u)

pub locked_name : (stamp : Stamp) (e : GroupEntry) (o o2 : Option View) → is_sfile_name e.name ≡ true → o2 ≡ o
    → IfSome o (λ (v : View). IsSome (v (z_file e.name)))
    → Between (λ u v. PreparesEntry (Err (Refused refusals.Locked)) e.name (entry_outcome stamp u e) u v) o o2
locked_name stamp e None o2 fits same taken = tt
locked_name stamp e (Some u) o2 fits same taken =
    subst (λ (o : Option View). Between (λ u v. PreparesEntry (Err (Refused refusals.Locked)) e.name
    (entry_outcome stamp u e) u v) (Some u) o) (sym same)
    (taken_outcome stamp e u fits taken, same_back (is_sfile_working e.name) u)

pub no_memory : (o : View → Outcome) (n : List ℕ) (old new : Option View) → new ≡ old
    → Between (λ u v. PreparesEntry (Err Memory) n (o u) u v) old new
no_memory o n None new same = tt
no_memory o n (Some u) new same = subst (λ (w : Option View). Between (λ u v. PreparesEntry (Err Memory) n (o u) u v)
    (Some u) w) (sym same) (same_back (is_sfile_working n) u)

-- of the name of an s-file
pub sfile_back : (n : List ℕ) (u v : View) → is_sfile_name n ≡ true → IsGivenBack (is_working n) u v
    → IsGivenBack (is_sfile_working n) u v
sfile_back n u v fits back = subst (λ (b : Bool). IsGivenBack (λ k. b && is_working n k) u v) (sym fits)
    (record { view = back.view; cleared = back.cleared })

pub sfile_alike : (n : List ℕ) (u v : View) → is_sfile_name n ≡ true → Alike (is_left n) v u
    → Alike (is_sfile_left n) v u
sfile_alike n u v fits alike = subst (λ (b : Bool). Alike (λ k. b && is_left n k) v u) (sym fits) alike

pub lock_failed : (o : View → Outcome) (n : List ℕ) (old new : Option View) → is_sfile_name n ≡ true
    → Moves (bytes_eq (z_file n)) (λ v. v) old new → Between (λ u v. PreparesEntry (Err DiskFault) n (o u) u v) old new
lock_failed o n None new fits moves = tt
lock_failed o n (Some u) None fits moves = absurd moves
lock_failed o n (Some u) (Some v) fits moves = sfile_alike n u v fits (λ k h. moves k (no_z n k h))

-- ---- what is prepared

needs_in : (new : NewFile) (from to : List ℕ) (m : Model) (past : List Model) → Needs new from to (Tells m past)
    → Needs new from to (Shows (view_of m))
needs_in Keep from to m past needs = tt
needs_in Replace from to m past needs = needs
needs_in Remove from to m past needs = needs

-- what is told is a view
ready_in : (n : List ℕ) (p : Prepared) (told : Told) (v : View) → seen told ≡ Some v → IsReady n p told
    → IsReady n p (Shows v)
ready_in n p Nothing v is ready = absurd (cc)
ready_in n p (Shows w) v is ready = subst (λ (x : View). IsReady n p (Shows x)) (let same : Some w ≡ Some v = is in
    cc) ready
ready_in n p (Tells m past) v is ready =
    let same : view_of m ≡ v = let some : Some (view_of m) ≡ Some v = is in cc in
    subst (λ (x : View). IsReady n p (Shows x)) same
    (record {
      z = ready.z;
      s = needs_in (plan_of p).s (x_file n) n m past ready.s;
      p_state = needs_in (plan_of p).p (q_file n) (p_file n) m past ready.p_state;
      g = needs_in (plan_of p).g (y_file n) (drop 2 n) m past ready.g;
    })

-- nothing was given
no_text : (text : List ℕ) → GivesOk (Some []) (Some []) text → text ≡ []
no_text text gives = let same : Some [] ≡ Some text = gives in cc

abbrev effect : Option Files → List ℕ → List ℕ → List ℕ → ℕ → StepEffect
effect new text out err status = record { new = new; text = text; out = out; err = err; status = status }

effect_is : (d : StepEffect) (new : Option Files) (out err : List ℕ) → d.new ≡ new → d.text ≡ [] → d.out ≡ out
    → d.err ≡ err → d.status ≡ 0 → d ≡ record { new = new; text = []; out = out; err = err; status = 0 }
effect_is d new out err a b c e f =
    ap (λ (x : Option Files). effect x d.text d.out d.err d.status) a
    ∙ (ap (λ (x : List ℕ). effect new x d.out d.err d.status) b
    ∙ (ap (λ (x : List ℕ). effect new [] x d.err d.status) c ∙ (ap (λ (x : List ℕ). effect new [] out x d.status) e
    ∙ ap (λ (x : ℕ). effect new [] out err x) f)))

-- the views before the lock, after preparing and at the end: at most working files and the z-file have changed
left_alone : (n : List ℕ) (v : View) (ob2 od : Option View) → Moves (is_working n) (λ u. u) (Some (locked n v)) ob2
    → Moves (is_left n) (λ u. u) ob2 od → Moves (is_left n) (λ u. u) (Some v) od
left_alone n v None od moves broken = absurd moves
left_alone n v (Some u) None moves broken = absurd broken
left_alone n v (Some u) (Some w) moves broken = λ k h. broken k h ∙ (moves k (no_working n k h)
    ∙ put_other v (z_file n) k (Some empty_file) (no_z n k h))

left_alike : (n : List ℕ) (u v : View) → Alike (is_working n) v (locked n u) → Alike (is_left n) v u
left_alike n u v alike = λ k h. alike k (no_working n k h) ∙ put_other u (z_file n) k (Some empty_file) (no_z n k h)

-- an accepted delta is one of an s-file that is there
none_found : (p : Option Content) (found : Found) → pending_of None p ≡ Ok found → ⊥
unfolding pending_of
none_found p found is = cc

s_there : (words : DeltaWords) (stamp : Stamp) (n i : List ℕ) (f : Files) (effect : StepEffect)
    → delta_outcome words stamp n i [] f ≡ Ok effect → f.s ≡ None → ⊥
s_there words stamp n i f effect is none =
    let parts = step_parts words stamp n i f effect is in
    none_found f.p parts.found (subst (λ (o : Option Content). pending_of o f.p ≡ Ok parts.found) none parts.pending)

seen_s : (n : List ℕ) (u : View) → IsSFileName n → u n ≡ None → (look (unlocked n (locked n u)) n).s ≡ None
seen_s n u sfile none = put_other (locked n u) (z_file n) n None (from_s 122 n sfile refl)
    ∙ (put_other u (z_file n) n (Some empty_file) (from_s 122 n sfile refl) ∙ none)

-- the name is as sound as it was
sound_left : (n : List ℕ) (u v : View) → IsSFileName n → Alike (is_left n) v u → IsSound n u → IsSound n v
sound_left n u v sfile alike sound = sound_kept n u v sound (alike intent_file refl)
    (pair_same _ _ _ _ (alike n (left_s n n sfile)) (alike (p_file n) refl))

settled_in : (n : List ℕ) (p : Prepared) (u v : View) (told : Told) → IsSFileName n → seen told ≡ Some v
    → Alike (is_left n) v u → (u n ≡ None → ⊥) → SettlesEntries n p told → IsSound n u → KeepsEntries n (plan_of p) v
settled_in n p u v told sfile is alike there settles sound =
    ((subst (λ (o : Option View). IfSome o (λ (w : View). IsPaired n w → IsSound n w → KeepsEntries n (plan_of p) w
    × ArePaired (files_after n (plan_of p) w).s (files_after n (plan_of p) w).p)) is settles)
    (λ none. absurd (there (sym (alike n (left_s n n sfile)) ∙ none))) (sound_left n u v sfile alike sound)).0

-- what an entry makes of a view in which it isn't locked
abbrev of_free : Stamp → GroupEntry → View → Outcome
of_free stamp e v = delta_outcome e.words stamp e.name e.script [] (look (unlocked e.name v) e.name)

prepared_in : (stamp : Stamp) (e : GroupEntry) (p : Prepared) (u v : View) (told : Told) → IsName e.name
    → IsSFileName e.name → is_sfile_name e.name ≡ true → u (z_file e.name) ≡ None → seen told ≡ Some v
    → IsReady e.name p told → IsDeltaPlan p → SettlesEntries e.name p told
    → IsPrepared e.name p (of_free stamp e (locked e.name u)) (world (Some (locked e.name u)) (Some []) None)
    (world (Some v) (Some []) None) → IsPreparedEntry u v e.name p (entry_outcome stamp u e)
prepared_in stamp e p u v told name sfile fits free is ready kind settles r = record {
  is = free_outcome stamp e u fits free
      ∙ (r.is ∙ ap Ok (effect_is r.effect (Some (files_after e.name (plan_of p) v)) p.report p.message r.files
      (no_text r.effect.text r.out) r.report r.message r.status));
  held = record {
    name = name;
    sfile = sfile;
    kind = kind;
    free = free;
    ready = ready_in e.name p told v is ready;
    cleared = record { x = r.working.x; q = r.working.q; y = r.working.y };
    settles = λ sound.
        settled_in e.name p u v told sfile is (left_alike e.name u v r.view)
        (λ none. s_there e.words stamp e.name e.script (look (unlocked e.name (locked e.name u)) e.name) r.effect
        r.is (seen_s e.name u sfile none)) settles sound;
  };
  view = left_alike e.name u v r.view;
}

-- what preparing says of the view behind the lock
abbrev pub SaysOf : Stamp → GroupEntry → Result Prepared StepFault → Option View → Option View → Type 0
SaysOf stamp e r ol ov = (out err : Option (List ℕ)) → IfSome ol (λ (v : View). Prepares r e.name (of_free stamp e v)
    (world (Some v) out err) (world ov out err))

pub prepared_entry : (stamp : Stamp) (e : GroupEntry) (p : Prepared) (ou ol : Option View) (told : Told) → IsName e.name
    → IsSFileName e.name → is_sfile_name e.name ≡ true → Becomes (locked e.name) ou ol
    → IfSome ou (λ (u : View). u (z_file e.name) ≡ None)
    → SaysOf stamp e (Ok p) ol (seen told) → IsReady e.name p told → IsDeltaPlan p → SettlesEntries e.name p told
    → Between (λ u v. PreparesEntry (Ok p) e.name (entry_outcome stamp u e) u v) ou (seen told)
prepared_entry stamp e p None ol told name sfile fits locks free says ready kind settles = tt
prepared_entry stamp e p (Some u) ol told name sfile fits locks free says ready kind settles = by (seen told) refl
  where
    said : IsPrepared e.name p (of_free stamp e (locked e.name u)) (world (Some (locked e.name u)) (Some []) None)
        (world (seen told) (Some []) None)
    said = subst (λ (o : Option View). IfSome o (λ (v : View). Prepares (Ok p) e.name (of_free stamp e v)
        (world (Some v) (Some []) None) (world (seen told) (Some []) None))) locks (says (Some []) None)

    by : (ov : Option View) → seen told ≡ ov → Between (λ u v. PreparesEntry (Ok p) e.name (entry_outcome stamp u e) u
        v) (Some u) ov
    by None is = absurd (subst (λ (o : Option View). Moves (is_working e.name) (λ v. v) (Some (locked e.name u)) o) is
        said.view)
    by (Some v) is =
        prepared_in stamp e p u v told name sfile fits free is ready kind settles
        (subst (λ (o : Option View). IsPrepared e.name p (of_free stamp e (locked e.name u))
        (world (Some (locked e.name u)) (Some []) None) (world o (Some []) None)) is said)

-- ---- giving up

-- what preparing left, where it was refused or cut short, and why it was refused
unmade : (stamp : Stamp) (e : GroupEntry) (fault : StepFault) (u : View) (ov : Option View)
    → Prepares (Err fault) e.name (of_free stamp e (locked e.name u)) (world (Some (locked e.name u)) None None)
    (world ov None None)
    → Moves (is_working e.name) (λ v. v) (Some (locked e.name u)) ov × ((refusal : Refusal) → fault ≡ Refused refusal
    → of_free stamp e (locked e.name u) ≡ Err refusal)
unmade stamp e (Refused refusal) u ov says = (
  says.1.view,
  λ other is. says.0
      ∙ ap Err (let same : Refused refusal ≡ Refused other = is in cc),
)
unmade stamp e Memory u ov says = (says.view, λ other is. absurd (cc))
unmade stamp e ReadFault u ov says = (says.view, λ other is. absurd (cc))
unmade stamp e WriteFault u ov says = (says.view, λ other is. absurd (cc))
unmade stamp e DiskFault u ov says = (says.view, λ other is. absurd (cc))

-- nothing is new early of what isn't new at all
early_none : (first : Bool) (n : List ℕ) (u : View) → early_moved first u n None ≡ u
early_none true n u = refl
early_none false n u = refl

-- the working files are gone, and the z-file
back_by : (o : Outcome) (fault : StepFault) (n : List ℕ) (u v : View) → fault ≢ DiskFault → fault ≢ ReadFault
    → fault ≢ WriteFault → ((refusal : Refusal) → fault ≡ Refused refusal → o ≡ Err refusal)
    → IsGivenBack (is_sfile_working n) u v
    → PreparesEntry (Err fault) n o u v
back_by o (Refused refusal) n u v disk read write refused back = (refused refusal refl, back)
back_by o Memory n u v disk read write refused back = back
back_by o ReadFault n u v disk read write refused back = absurd (read refl)
back_by o WriteFault n u v disk read write refused back = absurd (write refl)
back_by o DiskFault n u v disk read write refused back = absurd (disk refl)

pub gave_up : (stamp : Stamp) (e : GroupEntry) (fault r : StepFault) (ou ol op ov : Option View)
    → is_sfile_name e.name ≡ true → Becomes (locked e.name) ou ol → IfSome ou (λ (u : View). u (z_file e.name) ≡ None)
    → SaysOf stamp e (Err fault) ol op
    → fault ≢ ReadFault → fault ≢ WriteFault → GivesBack r fault e.name op ov
    → Between (λ u v. PreparesEntry (Err r) e.name (entry_outcome stamp u e) u v) ou ov
gave_up stamp e fault r None ol op ov fits locks free says read write gives = tt
gave_up stamp e fault r (Some u) ol op ov fits locks free says read write gives = by gives
  where
    said : Moves (is_working e.name) (λ v. v) (Some (locked e.name u)) op × ((refusal : Refusal)
        → fault ≡ Refused refusal → of_free stamp e (locked e.name u) ≡ Err refusal)
    said = unmade stamp e fault u op (subst (λ (o : Option View). IfSome o (λ (v : View). Prepares (Err fault) e.name
        (of_free stamp e v) (world (Some v) None None) (world op None None))) locks (says None None))

    back : (o : Option View) → Becomes (abandoned e.name) op o → fault ≢ DiskFault
        → Between (λ u v. PreparesEntry (Err fault) e.name (entry_outcome stamp u e) u v) (Some u) o
    back None gone disk = (given_up false e.name None [] u op None None None None free said.0 gone refl).view.1
    back (Some v) gone disk =
        let kept = given_up false e.name None [] u op (Some v) None None None free said.0 gone refl in
        back_by (entry_outcome stamp u e) fault e.name u v disk read write
        (λ refusal is. free_outcome stamp e u fits free ∙ said.1 refusal is) (sfile_back e.name u v fits
        (record {
          view = λ k h. kept.view.1 k h ∙ ap (λ (x : View). x k) (early_none kept.view.0 e.name u);
          cleared = kept.cleared;
        }))

    broke : (o : Option View) → Moves (is_left e.name) (λ v. v) op o
        → Between (λ u v. PreparesEntry (Err DiskFault) e.name (entry_outcome stamp u e) u v) (Some u) o
    broke None moves = left_alone e.name u op None said.0 moves
    broke (Some v) moves = sfile_alike e.name u v fits (left_alone e.name u op (Some v) said.0 moves)

    by : ((r ≡ fault) × (fault ≢ DiskFault) × Becomes (abandoned e.name) op ov)
        ⊎ ((r ≡ DiskFault) × Moves (is_left e.name) (λ v. v) op ov)
        → Between (λ u v. PreparesEntry (Err r) e.name (entry_outcome stamp u e) u v) (Some u) ov
    by (inl gone) = subst (λ (f : StepFault). Between (λ u v. PreparesEntry (Err f) e.name (entry_outcome stamp u e) u
        v) (Some u) ov) (sym gone.0) (back ov gone.2 gone.1)
    by (inr broken) = subst (λ (f : StepFault). Between (λ u v. PreparesEntry (Err f) e.name (entry_outcome stamp u e) u
        v) (Some u) ov) (sym broken.0) (broke ov broken.1)

-- the script is the entry's
pub says_by : (stamp : Stamp) (e : GroupEntry) (i : List ℕ) (r r2 : Result Prepared StepFault) (ol ov : Option View)
    → i ≡ e.script → r ≡ r2
    → ((out err : Option (List ℕ)) → IfSome ol (λ (v : View). Prepares r e.name (delta_outcome e.words stamp e.name i []
    (look (unlocked e.name v) e.name)) (world (Some v) out err) (world ov out err))) → SaysOf stamp e r2 ol ov
says_by stamp e i r r2 ol ov script is says =
    subst (λ (s : Result Prepared StepFault). SaysOf stamp e s ol ov) is
    (subst (λ (l : List ℕ). (out err : Option (List ℕ))
    → IfSome ol (λ (v : View). Prepares r e.name (delta_outcome e.words stamp e.name l []
    (look (unlocked e.name v) e.name)) (world (Some v) out err) (world ov out err))) script says)
