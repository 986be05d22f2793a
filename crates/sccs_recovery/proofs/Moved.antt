-- All names of an intent: what finishing makes of their files, and what the step says.
use Rattle.std.proofs.Common.{◌≡◌, ◌⊎◌, ℕ, zero, suc, Bool, true, false, cond, List, [], ◌∷◌, Option, None, Some, inl}
use Rattle.std.proofs.Common.{inr, refl, sym, ap, subst, ◌∙◌, ⊎_elim}
use Rattle.std.specs.List.{AllByRecursion}
use Rattle.std.specs.Str.{bytes_eq}
use Rattle.sccs_base.specs.Name.{IsSFileName, p_file, q_file, x_file, z_file}
use Rattle.sccs_base.proofs.SameBytes.{bytes_eq_sym, same_bytes}
use Rattle.sccs_disk.specs.Files.{Content, View}
use Rattle.sccs_disk.proofs.Puts.{name_cases, put_other, put_same}
use Rattle.sccs_name_files.specs.StepFiles.{is_left, is_working, moved}
use Rattle.sccs_intents.specs.Intents.{AreOthers, fate_in, has_name, intent_file}
use Rattle.sccs_intents.specs.declared.intents.IntentEntry.{IntentEntry}
use Rattle.sccs_intents.specs.declared.intents.Fate.{Fate}
use Rattle.sccs_crash_points.specs.Recovery.{fated, newer, without_name}
use Rattle.sccs_crash_points.proofs.FileNames.{no_z, sfile_and_intent, to_sfile}
use Rattle.sccs_steps.specs.StepLists.{all_moved, first_moves}
use Rattle.sccs_group.specs.Halfway.{first_placed}
use Rattle.sccs_group.specs.Members.{completed, each_by, placed, unlocked}
use Rattle.sccs_group.specs.Recovering.{bare}
use Rattle.sccs_group.proofs.Closing.{fate_head, fate_tail}
use Rattle.sccs_recovery.specs.FinishStep.{finished_files, name_moves}
use Rattle.sccs_recovery.proofs.NameFiles.{SamePair, bare_one, count_of, else_p, else_q, else_s, else_x, else_z}
use Rattle.sccs_recovery.proofs.NameFiles.{files_else, none_else, own_p, own_s, own_z, pair_kept, part_at, placed_else}
use Rattle.sccs_recovery.proofs.NameFiles.{turn_at}
use Rattle.std.proofs.lemmas.Bool.{or_from}
use Rattle.sccs_base.proofs.Bools.{right_false, left_false}

-- all pairs come out alike
abbrev pub SamePairs : List IntentEntry → View → View → Type 0
SamePairs es u v = AllByRecursion (λ (e : IntentEntry). SamePair e u v) es

-- a file that no name leaves behind
abbrev pub NotLeft : List IntentEntry → List ℕ → Type 0
NotLeft es k = AllByRecursion (λ (e : IntentEntry). is_left e.name k ≡ false) es

-- the other names stay behind one
pub pairs_behind : (e : IntentEntry) (es : List IntentEntry) (u v : View) → IsSFileName e.name → AreOthers es
    → has_name es e.name ≡ false → SamePairs es u v → SamePairs es (placed (bare_one e) u)
    (moved v e.name (Some (finished_files e v)))
pairs_behind e [] u v sfile others alone same = tt
pairs_behind e (d ∷ es) u v sfile others alone same =
    let apart : bytes_eq e.name d.name ≡ false = bytes_eq_sym e.name d.name ∙ left_false (bytes_eq d.name e.name)
    (has_name es e.name) alone in
    let other : IsSFileName d.name = others.0.sfile in (
      pair_kept d u v (placed (bare_one e) u) (moved v e.name (Some (finished_files e v)))
          (placed_else e u (x_file d.name) sfile (else_x e.name d.name sfile other apart)) (placed_else e u d.name sfile
          (else_s e.name d.name sfile other apart))
          (placed_else e u (q_file d.name) sfile (else_q e.name d.name sfile other apart))
          (placed_else e u (p_file d.name) sfile (else_p e.name d.name sfile other apart))
          (files_else e v (x_file d.name) sfile (else_x e.name d.name sfile other apart)) (files_else e v d.name sfile
          (else_s e.name d.name sfile other apart))
          (files_else e v (q_file d.name) sfile (else_q e.name d.name sfile other apart))
          (files_else e v (p_file d.name) sfile (else_p e.name d.name sfile other apart)) same.0,
      pairs_behind e es u v sfile others.1 (right_false (bytes_eq d.name e.name) (has_name es e.name) alone) same.1,
    )

-- ---- the new files

pub first_at : (whole some : ℕ) (es : List IntentEntry) (u v : View) (k : List ℕ) → AreOthers es → SamePairs es u v
    → NotLeft es k → u k ≡ v k → first_placed whole some (bare es) u k ≡ first_moves whole (count_of some) v
    (name_moves v es) k
first_at whole some [] u v k others same away agree = agree
first_at zero some (e ∷ es) u v k others same away agree = part_at some e u v k others.0.sfile away.0 same.0 agree
first_at (suc whole) some (e ∷ es) u v k others same away agree =
    first_at whole some es (placed (bare_one e) u) (moved v e.name (Some (finished_files e v))) k others.1
    (pairs_behind e es u v others.0.sfile others.1 others.0.alone same.1) away.1
    (turn_at e u v k others.0.sfile away.0 same.0 agree)

pub all_placed_at : (es : List IntentEntry) (u v : View) (k : List ℕ) → AreOthers es → SamePairs es u v → NotLeft es k
    → u k ≡ v k → each_by placed (bare es) u k ≡ all_moved v (name_moves v es) k
all_placed_at [] u v k others same away agree = agree
all_placed_at (e ∷ es) u v k others same away agree =
    all_placed_at es (placed (bare_one e) u) (moved v e.name (Some (finished_files e v))) k others.1
    (pairs_behind e es u v others.0.sfile others.1 others.0.alone same.1) away.1
    (turn_at e u v k others.0.sfile away.0 same.0 agree)

-- ---- the z-files

-- a file is the z-file of one of the names
abbrev HasLock : List IntentEntry → List ℕ → Type 0
HasLock [] k = ⊥
HasLock (e ∷ es) k = (z_file e.name ≡ k) ⊎ HasLock es k

lock_or_not : (es : List IntentEntry) (k : List ℕ) → AllByRecursion (λ (e : IntentEntry). is_working e.name k ≡ false)
    es → HasLock es k ⊎ NotLeft es k
lock_or_not [] k away = inr tt
lock_or_not (e ∷ es) k away =
    ⊎_elim (λ is. inl (inl is))
    (λ other. ⊎_elim (λ lock. inl (inr lock)) (λ rest. inr (
      or_from (is_working e.name k) (bytes_eq (z_file e.name) k)
          away.0 other,
      rest,
    )) (lock_or_not es k away.1)) (name_cases (z_file e.name) k)

gone_still : (b : Bool) (o : Option Content) → o ≡ None → cond b None o ≡ None
gone_still true o none = refl
gone_still false o none = none

unlocked_none : (es : List IntentEntry) (w : View) (k : List ℕ) → w k ≡ None → each_by unlocked (bare es) w k ≡ None
unlocked_none [] w k none = none
unlocked_none (e ∷ es) w k none = unlocked_none es (without_name (z_file e.name) w) k
    (gone_still (bytes_eq (z_file e.name) k) (w k) none)

unlocked_lock : (es : List IntentEntry) (w : View) (k : List ℕ) → HasLock es k → each_by unlocked (bare es) w k ≡ None
unlocked_lock [] w k lock = absurd lock
unlocked_lock (e ∷ es) w k (inl is) = unlocked_none es (without_name (z_file e.name) w) k
    (subst (λ (l : List ℕ). without_name (z_file e.name) w l ≡ None) is (put_same w (z_file e.name) None))
unlocked_lock (e ∷ es) w k (inr lock) = unlocked_lock es (without_name (z_file e.name) w) k lock

unlocked_else : (es : List IntentEntry) (w : View) (k : List ℕ) → NotLeft es k → each_by unlocked (bare es) w k ≡ w k
unlocked_else [] w k away = refl
unlocked_else (e ∷ es) w k away = unlocked_else es (without_name (z_file e.name) w) k away.1
    ∙ put_other w (z_file e.name) k None (no_z e.name k away.0)

-- a file that isn't there, and is no s-file and no p-file
none_all : (es : List IntentEntry) (v : View) (k : List ℕ)
    → AllByRecursion (λ (e : IntentEntry). (bytes_eq e.name k ≡ false) × (bytes_eq (p_file e.name) k ≡ false)) es
    → v k ≡ None → all_moved v (name_moves v es) k ≡ None
none_all [] v k away none = none
none_all (e ∷ es) v k away none = none_all es (moved v e.name (Some (finished_files e v))) k away.1
    (none_else e v k away.0.0 away.0.1 none)

z_away : (es : List IntentEntry) (n : List ℕ) → AreOthers es
    → AllByRecursion (λ (e : IntentEntry). (bytes_eq e.name (z_file n) ≡ false)
    × (bytes_eq (p_file e.name) (z_file n) ≡ false)) es
z_away [] n others = tt
z_away (e ∷ es) n others = ((to_sfile 122 e.name n others.0.sfile refl, refl), z_away es n others.1)

moved_lock : (es : List IntentEntry) (v : View) (k : List ℕ) → AreOthers es → HasLock es k
    → all_moved v (name_moves v es) k ≡ None
moved_lock [] v k others lock = absurd lock
moved_lock (e ∷ es) v k others (inl is) =
    subst (λ (l : List ℕ). all_moved (moved v e.name (Some (finished_files e v)))
    (name_moves (moved v e.name (Some (finished_files e v))) es) l ≡ None) is
    (none_all es (moved v e.name (Some (finished_files e v))) (z_file e.name) (z_away es e.name others.1)
    (own_z e v others.0.sfile))
moved_lock (e ∷ es) v k others (inr lock) = moved_lock es (moved v e.name (Some (finished_files e v))) k others.1 lock

-- ---- the intent

intent_away : (es : List IntentEntry) → AreOthers es
    → AllByRecursion (λ (e : IntentEntry). (bytes_eq e.name intent_file ≡ false)
    × (bytes_eq (p_file e.name) intent_file ≡ false)) es
intent_away [] others = tt
intent_away (e ∷ es) others = ((sfile_and_intent e.name others.0.sfile, refl), intent_away es others.1)

pub intent_gone : (es : List IntentEntry) (v : View) → AreOthers es → v intent_file ≡ None
    → all_moved v (name_moves v es) intent_file ≡ None
intent_gone es v others none = none_all es v intent_file (intent_away es others) none

-- ---- the whole

-- v is without the intent
pub completed_at : (es : List IntentEntry) (u v : View) (k : List ℕ) → AreOthers es → SamePairs es u v
    → v intent_file ≡ None → AllByRecursion (λ (e : IntentEntry). is_working e.name k ≡ false) es
    → (bytes_eq intent_file k ≡ false → u k ≡ v k)
    → completed (bare es) u k ≡ all_moved v (name_moves v es) k
completed_at es u v k others same none away agree = ⊎_elim at_intent elsewhere (name_cases intent_file k)
  where
    at_intent : intent_file ≡ k → completed (bare es) u k ≡ all_moved v (name_moves v es) k
    at_intent is =
        subst (λ (l : List ℕ). completed (bare es) u l ≡ all_moved v (name_moves v es) l) is
        (unlocked_none es (without_name intent_file (each_by placed (bare es) u)) intent_file
        (put_same (each_by placed (bare es) u) intent_file None) ∙ sym (intent_gone es v others none))

    elsewhere : bytes_eq intent_file k ≡ false → completed (bare es) u k ≡ all_moved v (name_moves v es) k
    elsewhere other =
        ⊎_elim (λ lock. unlocked_lock es (without_name intent_file (each_by placed (bare es) u)) k lock
        ∙ sym (moved_lock es v k others lock))
        (λ free. unlocked_else es (without_name intent_file (each_by placed (bare es) u)) k free
        ∙ (put_other (each_by placed (bare es) u) intent_file k None other ∙ all_placed_at es u v k others same free
        (agree other)))
        (lock_or_not es k away)

pub completed_intent : (es : List IntentEntry) (u : View) → completed (bare es) u intent_file ≡ None
completed_intent es u = unlocked_none es (without_name intent_file (each_by placed (bare es) u)) intent_file
    (put_same (each_by placed (bare es) u) intent_file None)

-- ---- what recovery looks at

-- the files of a name after finishing, by what the intent says of it
abbrev pub FilesAfter : Option Fate → List ℕ → View → View → Type 0
FilesAfter None n v w = (w n ≡ v n) × (w (p_file n) ≡ v (p_file n)) × (w (z_file n) ≡ v (z_file n))
FilesAfter (Some fate) n v w = (w n ≡ newer (v (x_file n)) (v n)) × (w (p_file n) ≡ fated fate (v (q_file n))
    (v (p_file n))) × (w (z_file n) ≡ None)

no_entry : (es : List IntentEntry) (n : List ℕ) → has_name es n ≡ false → fate_in es n ≡ None
no_entry [] n alone = refl
no_entry (e ∷ es) n alone = fate_tail e es n (left_false (bytes_eq e.name n) (has_name es n) alone)
    ∙ no_entry es n (right_false (bytes_eq e.name n) (has_name es n) alone)

-- the same of a view that has the files of a name as another has them
pub after_from : (f : Option Fate) (n : List ℕ) (v v1 w : View) → v1 n ≡ v n → v1 (p_file n) ≡ v (p_file n)
    → v1 (z_file n) ≡ v (z_file n) → v1 (x_file n) ≡ v (x_file n) → v1 (q_file n) ≡ v (q_file n) → FilesAfter f n v1 w
    → FilesAfter f n v w
after_from None n v v1 w s p z x q after = (after.0 ∙ s, after.1 ∙ p, after.2 ∙ z)
after_from (Some fate) n v v1 w s p z x q after = (
  after.0 ∙ (ap (λ (o : Option Content). newer o (v1 n)) x ∙ ap (λ (o : Option Content). newer (v (x_file n)) o) s),
  after.1 ∙ (ap (λ (o : Option Content). fated fate o (v1 (p_file n))) q
      ∙ ap (λ (o : Option Content). fated fate (v (q_file n)) o) p),
  after.2,
)

-- of an entry, from what the others make
behind_entry : (e : IntentEntry) (es : List IntentEntry) (v w : View) (n : List ℕ) → AreOthers (e ∷ es) → IsSFileName n
    → ((l : List ℕ) → IsSFileName l → FilesAfter (fate_in es l) l (moved v e.name (Some (finished_files e v))) w)
    → FilesAfter (fate_in (e ∷ es) n) n v w
behind_entry e es v w n others sfile rest = ⊎_elim own other (name_cases e.name n)
  where
    own : e.name ≡ n → FilesAfter (fate_in (e ∷ es) n) n v w
    own is =
        let last : FilesAfter None e.name (moved v e.name (Some (finished_files e v))) w =
        subst (λ (f : Option Fate). FilesAfter f e.name (moved v e.name (Some (finished_files e v))) w)
        (no_entry es e.name others.0.alone) (rest e.name others.0.sfile) in
        subst (λ (l : List ℕ). FilesAfter (fate_in (e ∷ es) l) l v w) is
        (subst (λ (f : Option Fate). FilesAfter f e.name v w) (sym (fate_head e es e.name (same_bytes e.name)))
        (last.0 ∙ own_s e v others.0.sfile, last.1 ∙ own_p e v others.0.sfile, last.2 ∙ own_z e v others.0.sfile))

    other : bytes_eq e.name n ≡ false → FilesAfter (fate_in (e ∷ es) n) n v w
    other apart =
        subst (λ (f : Option Fate). FilesAfter f n v w) (sym (fate_tail e es n apart))
        (after_from (fate_in es n) n v (moved v e.name (Some (finished_files e v))) w (files_else e v n others.0.sfile
        (else_s e.name n others.0.sfile sfile apart))
        (files_else e v (p_file n) others.0.sfile (else_p e.name n others.0.sfile sfile apart))
        (files_else e v (z_file n) others.0.sfile (else_z e.name n others.0.sfile sfile apart))
        (files_else e v (x_file n) others.0.sfile (else_x e.name n others.0.sfile sfile apart))
        (files_else e v (q_file n) others.0.sfile (else_q e.name n others.0.sfile sfile apart)) (rest n sfile))

pub after_moves : (es : List IntentEntry) (v : View) (n : List ℕ) → AreOthers es → IsSFileName n
    → FilesAfter (fate_in es n) n v (all_moved v (name_moves v es))
after_moves [] v n others sfile = (refl, refl, refl)
after_moves (e ∷ es) v n others sfile =
    behind_entry e es v (all_moved v (name_moves v (e ∷ es))) n others sfile (λ l other. after_moves es
    (moved v e.name (Some (finished_files e v))) l others.1 other)
