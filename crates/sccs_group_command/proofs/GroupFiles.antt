-- The files of a group, and working files.
use Rattle.std.proofs.Common.{◌≡◌, ◌⊎◌, ℕ, zero, suc, ◌<◌, Bool, true, false, ◌||◌, cond, List, [], ◌∷◌, codes, length}
use Rattle.std.proofs.Common.{map, is_some, Option, None, Some, inl, inr, refl, sym, ap, subst, ◌∙◌, ⊎_elim, arith}
use Rattle.std.proofs.lemmas.List.{length-map}
use Rattle.std.specs.List.{AllByRecursion}
use Rattle.std.specs.Str.{bytes_eq}
use Rattle.sccs_base.specs.Name.{is_sfile_name, sfile_name_decides, z_file}
use Rattle.sccs_sid.specs.declared.moments.Stamp.{Stamp}
use Rattle.sccs_sid.specs.declared.refusals.Refusal.TheVariants.{GroupPending}
use Rattle.sccs_disk.specs.Files.{Content, Folder, View, view_in}
use Rattle.sccs_disk.proofs.Puts.{name_cases}
use Rattle.sccs_name_files.specs.StepFiles.{Alike, Apart, Files, is_left, is_working, look, moved}
use Rattle.sccs_name_files.proofs.Views.{look_alike, moved_alike}
use Rattle.sccs_intents.specs.Intents.{intent_file, plan_file}
use Rattle.sccs_crash_points.specs.Recovery.{RecoversAs}
use Rattle.sccs_steps.specs.Actions.{AreClear, IsClear, NameIsClear}
use Rattle.sccs_steps.specs.ListStops.{Spares}
use Rattle.sccs_steps.specs.StepLists.{AreAllCleared, Move, NamedStep, ShowsNext, all_moved, first_moves, is_left_of}
use Rattle.sccs_steps.specs.StepLists.{left_by, moves_of, step_in}
use Rattle.sccs_steps.proofs.Carried.{carried, all_view}
use Rattle.sccs_steps.proofs.Cleared.{moved_other}
use Rattle.sccs_steps.proofs.FirstMoved.{first_alike}
use Rattle.sccs_steps.proofs.Turns.{each_all}
use Rattle.sccs_group.proofs.Calling.{none_left}
use Rattle.sccs_group.proofs.Groups.{moved_intent}
use Rattle.sccs_group_command.specs.declared.entries.GroupEntry.{GroupEntry}
use Rattle.sccs_group_command.specs.GroupStep.{EntrySteps, entry_steps, group_step, joined, names_of, refused_step}
use Rattle.sccs_group_command.specs.Making.{IsHalfMade, IsMade, is_group_left, is_group_working}
use Rattle.sccs_group_command.specs.Preparing.{ArePlain, IsGivenBack, IsPlainName, is_any_left, is_any_working}
use Rattle.sccs_group_command.specs.Preparing.{sfiles_of}
use Rattle.sccs_group_command.proofs.StepsAhead.{steps_same}
use Rattle.sccs_group_command.specs.GroupStepLists.{group_action, group_parts}
use Rattle.sccs_group_command.proofs.GroupSteps.{FitMove, FitMoves, free_or_still, more_are, more_fit, move_names}
use Rattle.sccs_group_command.proofs.GroupSteps.{moves_are, no_new, parts_are}
use Rattle.std.proofs.lemmas.Bool.{or_from}
use Rattle.sccs_base.proofs.Bools.{right_false, left_false}

-- ---- names

pub names_all : (Q : List ℕ → Type 0) (ts : List NamedStep) → AllByRecursion (λ (t : NamedStep). Q t.name) ts
    → AllByRecursion Q (map (λ (t : NamedStep). t.name) ts)
names_all Q [] all = tt
names_all Q (t ∷ ts) all = (all.0, names_all Q ts all.1)

sfiles_all : (Q : List ℕ → Type 0) (names : List (List ℕ)) → AllByRecursion Q names → AllByRecursion Q (sfiles_of names)
sfiles_all Q [] all = tt
sfiles_all Q (n ∷ names) all = by (is_sfile_name n) (sfiles_all Q names all.1)
  where
    by : (b : Bool) → AllByRecursion Q (sfiles_of names)
        → AllByRecursion Q (cond b (n ∷ sfiles_of names) (sfiles_of names))
    by true rest = (all.0, rest)
    by false rest = rest

-- the files of names of s-files are apart from working files
abbrev pub AreApart : (List ℕ → Bool) → List (List ℕ) → Type 0
AreApart w names = AllByRecursion (λ (n : List ℕ). is_sfile_name n ≡ true → Apart w n) names

apart_of : (w : List ℕ → Bool) (n : List ℕ) → IsClear false w n → Apart w n
apart_of w n (inl seen) = absurd (let e = seen.0 in cc)
apart_of w n (inr apart) = apart

pub apart_names : (w : List ℕ → Bool) (stamp : Stamp) (v : View) (entries : List GroupEntry) → AreClear group_action w
    (group_parts stamp v entries) → AreApart w (names_of entries)
apart_names w stamp v entries clear =
    each_all (λ n. NameIsClear group_action w n) (λ n. is_sfile_name n ≡ true → Apart w n) (names_of entries)
    (λ n one fits. apart_of w n (one fits).0)
    (subst (λ (ns : List (List ℕ)). AllByRecursion (λ n. NameIsClear group_action w n) ns) (parts_are stamp v entries)
    (names_all (λ n. NameIsClear group_action w n) (group_parts stamp v entries) clear))

own_apart : (w : List ℕ → Bool) (names : List (List ℕ)) → AreApart w names → AllByRecursion (Apart w) (sfiles_of names)
own_apart w [] all = tt
own_apart w (n ∷ names) all = by (is_sfile_name n) refl (own_apart w names all.1)
  where
    by : (b : Bool) → is_sfile_name n ≡ b → AllByRecursion (Apart w) (sfiles_of names) → AllByRecursion (Apart w)
        (cond b (n ∷ sfiles_of names) (sfiles_of names))
    by true fits rest = (all.0 fits, rest)
    by false fits rest = rest

-- ---- what isn't a working file

plan_out : (w : List ℕ → Bool) (k : List ℕ) → w plan_file ≡ true → w k ≡ false → bytes_eq plan_file k ≡ false
plan_out w k plan h = ⊎_elim (λ e. absurd (let same : w plan_file ≡ w k = ap w e in cc)) (λ other. other)
    (name_cases plan_file k)

working_out : (w : List ℕ → Bool) (own : List (List ℕ)) (k : List ℕ) → AllByRecursion (Apart w) own → w k ≡ false
    → is_any_working own k ≡ false
working_out w [] k all h = refl
working_out w (n ∷ own) k all h = or_from (is_working n k) (is_any_working own k) (all.0.own k h)
    (working_out w own k all.1 h)

pub group_out : (w : List ℕ → Bool) (names : List (List ℕ)) (k : List ℕ) → AreApart w names → w plan_file ≡ true
    → w k ≡ false → is_group_working (sfiles_of names) k ≡ false
group_out w names k all plan h = or_from (is_any_working (sfiles_of names) k) (bytes_eq plan_file k)
    (working_out w (sfiles_of names) k (own_apart w names all) h) (plan_out w k plan h)

z_out : (xs : List Move) (k : List ℕ) → is_left_of xs k ≡ false → AllByRecursion (λ (n : List ℕ). bytes_eq (z_file n) k
    ≡ false) (move_names xs)
z_out [] k h = tt
z_out (x ∷ xs) k h = (
  left_false (bytes_eq (z_file x.name) k) _ (right_false (is_left_of xs k) _ h),
  z_out xs k
      (left_false (is_left_of xs k) _ h),
)

marks_out : (xs : List Move) (k : List ℕ) → 0 < length xs → is_left_of xs k ≡ false
    → (bytes_eq plan_file k || bytes_eq intent_file k) ≡ false
marks_out [] k some h = absurd (omega (arith, some))
marks_out (x ∷ xs) k some h = right_false (bytes_eq (z_file x.name) k) _ (right_false (is_left_of xs k) _ h)

any_left_out : (w : List ℕ → Bool) (own : List (List ℕ)) (k : List ℕ) → AllByRecursion (Apart w) own
    → AllByRecursion (λ (n : List ℕ). bytes_eq (z_file n) k ≡ false) own → w k ≡ false → is_any_left own k ≡ false
any_left_out w [] k all z h = refl
any_left_out w (n ∷ own) k all z h = or_from (is_left n k) (is_any_left own k) (or_from (is_working n k)
    (bytes_eq (z_file n) k) (all.0.own k h) z.0) (any_left_out w own k all.1 z.1 h)

-- what a list spares where the disk failed in the step of these names a group may have left behind
left_out : (w : List ℕ → Bool) (t : NamedStep) (names : List (List ℕ)) (k : List ℕ) → AreApart w names
    → 0 < length t.more → move_names t.more ≡ names → left_by w (t ∷ []) k ≡ false → is_group_left (sfiles_of names) k
    ≡ false
left_out w t names k all some are h =
    let more : is_left_of t.more k ≡ false = left_false (is_left_of t.more k) _ h in
    let here : w k ≡ false = left_false (w k) _ (right_false (is_left_of t.more k) _ h) in
    let z : AllByRecursion (λ (n : List ℕ). bytes_eq (z_file n) k ≡ false) names =
    subst (λ (ns : List (List ℕ)). AllByRecursion (λ (n : List ℕ). bytes_eq (z_file n) k ≡ false) ns) are
    (z_out t.more k more) in
    or_from (is_any_left (sfiles_of names) k) (bytes_eq plan_file k || bytes_eq intent_file k)
    (any_left_out w (sfiles_of names) k (own_apart w names all) (sfiles_all (λ n. bytes_eq (z_file n) k ≡ false)
    names z) here) (marks_out t.more k some more)

-- ---- the step in views that are alike

looks_alike : (w : List ℕ → Bool) (entries : List GroupEntry) (u v : View) → AreApart w (names_of entries) → Alike w v u
    → AllByRecursion (λ (e : GroupEntry). is_sfile_name e.name ≡ true → look v e.name ≡ look u e.name) entries
looks_alike w [] u v all alike = tt
looks_alike w (e ∷ entries) u v all alike = (
  λ fits. look_alike w e.name v u (all.0 fits) alike,
  looks_alike w entries u v all.1 alike,
)

pub group_same : (w : List ℕ → Bool) (stamp : Stamp) (entries : List GroupEntry) (u v : View) → Spares w
    → AreApart w (names_of entries) → Alike w v u → group_step stamp v entries ≡ group_step stamp u entries
group_same w stamp entries u v spares all alike =
    ap (λ (o : Option Content). cond (is_some o) (refused_step (names_of entries) (codes "-") GroupPending)
    (joined (names_of entries) (entry_steps stamp v entries))) (alike intent_file spares.intent)
    ∙ ap (λ (r : EntrySteps). cond (is_some (u intent_file)) (refused_step (names_of entries) (codes "-") GroupPending)
    (joined (names_of entries) r)) (steps_same stamp entries u v (looks_alike w entries u v all alike))

-- ---- views after moves

pub all_alike : (w : List ℕ → Bool) (u v : View) (xs : List Move) → Alike w u v → Alike w (all_moved u xs)
    (all_moved v xs)
all_alike w u v [] alike = alike
all_alike w u v (x ∷ xs) alike = all_alike w (moved u x.name x.new) (moved v x.name x.new) xs
    (moved_alike w u v x.name x.new alike)

first_all : (whole some : ℕ) (w : List ℕ → Bool) (u v : View) (xs : List Move) → Alike w u v
    → Alike w (first_moves whole some u xs) (first_moves whole some v xs)
first_all whole some w u v [] alike = alike
first_all zero some w u v (x ∷ xs) alike = first_alike some w u v x.name x.new alike
first_all (suc whole) some w u v (x ∷ xs) alike = first_all whole some w (moved u x.name x.new) (moved v x.name x.new)
    xs (moved_alike w u v x.name x.new alike)

-- moves of files that are no working files
abbrev Spared : (List ℕ → Bool) → List Move → Type 0
Spared w xs = AllByRecursion (λ (x : Move). (x.new ≡ None) ⊎ Apart w x.name) xs

spared_moves : (w : List ℕ → Bool) (xs : List Move) → FitMoves xs → AreApart w (move_names xs) → Spared w xs
spared_moves w [] fit all = tt
spared_moves w (x ∷ xs) fit all = (by fit.0, spared_moves w xs fit.1 all.1)
  where
    by : FitMove x → (x.new ≡ None) ⊎ Apart w x.name
    by (inl still) = inl still
    by (inr fits) = inr (all.0 fits)

other_moved : (w : List ℕ → Bool) (xs : List Move) (u : View) (k : List ℕ) → Spared w xs → w k ≡ true
    → all_moved u xs k ≡ u k
other_moved w [] u k all h = refl
other_moved w (x ∷ xs) u k all h = other_moved w xs (moved u x.name x.new) k all.1 h ∙ by all.0
  where
    by : (x.new ≡ None) ⊎ Apart w x.name → moved u x.name x.new k ≡ u k
    by (inl still) = ap (λ (new : Option Files). moved u x.name new k) still
    by (inr apart) = moved_other w x.name x.new u k apart h

-- ---- what recovers alike still does

none_still : (n : List ℕ) (new : Option Files) (u : View) → (new ≡ None) ⊎ (is_sfile_name n ≡ true) → IsPlainName n
    → u intent_file ≡ None → moved u n new intent_file ≡ None
none_still n None u fit plain none = none
none_still n (Some f) u (inl still) plain none = absurd (cc)
none_still n (Some f) u (inr fits) plain none = moved_intent n f u ((sfile_name_decides n).0 fits).1 plain.kept ∙ none

all_carried : (w : List ℕ → Bool) (xs : List Move) (u v : View) → Spares w → FitMoves xs → ArePlain (move_names xs)
    → Alike w v u → RecoversAs u v → u intent_file ≡ None → RecoversAs (all_moved u xs) (all_moved v xs)
all_carried w [] u v spares fit plain alike recovers none = recovers
all_carried w (x ∷ xs) u v spares fit plain alike recovers none =
    all_carried w xs (moved u x.name x.new) (moved v x.name x.new) spares fit.1 plain.1
    (moved_alike w v u x.name x.new alike) (by fit.0) (none_still x.name x.new u fit.0 plain.0 none)
  where
    by : FitMove x → RecoversAs (moved u x.name x.new) (moved v x.name x.new)
    by (inl still) = subst (λ (new : Option Files). RecoversAs (moved u x.name new) (moved v x.name new))
        (sym still) recovers
    by (inr fits) =
        carried w x.name u v x.new spares ((sfile_name_decides x.name).0 fits).1 plain.0.kept alike recovers
        (λ named f new. absurd (let e : false ≡ true = sym (ap is_some (none_left u x.name none)) ∙ named in cc))

-- ---- a disk that shows a folder

-- A view that is told shows a folder, and the files of the entries are apart from working files.
pub record GroupAt (w : List ℕ → Bool) (stamp : Stamp) (entries : List GroupEntry) (folder : Folder) (u : View) : Type 0
  where
    pub spares : Spares w
    pub files : AreApart w (names_of entries)
    pub plan : w plan_file ≡ true
    pub alike : Alike w u (view_in folder)
    pub some : 0 < length entries

-- the step in the folder
abbrev pub step_at : Stamp → List GroupEntry → Folder → NamedStep
step_at stamp entries folder = group_step stamp (view_in folder) entries

pub same_at : (w : List ℕ → Bool) (stamp : Stamp) (entries : List GroupEntry) (folder : Folder) (u : View)
    → GroupAt w stamp entries folder u → group_step stamp u entries ≡ step_at stamp entries folder
same_at w stamp entries folder u at = group_same w stamp entries (view_in folder) u at.spares at.files at.alike

moves_spared : (w : List ℕ → Bool) (stamp : Stamp) (entries : List GroupEntry) (folder : Folder) (u : View)
    → GroupAt w stamp entries folder u → Spared w (moves_of (step_at stamp entries folder))
moves_spared w stamp entries folder u at = (
  inl (no_new stamp (view_in folder) entries),
  spared_moves w (step_at stamp entries folder).more
      (more_fit stamp (view_in folder) entries) (subst (AreApart w) (sym (more_are stamp (view_in folder) entries))
      at.files),
)

-- all is moved
pub made_shown : (w : List ℕ → Bool) (stamp : Stamp) (entries : List GroupEntry) (folder : Folder) (u v : View)
    → GroupAt w stamp entries folder u → IsMade (sfiles_of (names_of entries)) (step_at stamp entries folder) u v
    → Alike w v (view_in (step_in folder (step_at stamp entries folder)))
made_shown w stamp entries folder u v at made =
    subst (λ (x : View). Alike w v x) (sym (all_view folder (moves_of (step_at stamp entries folder))))
    (λ k h. made.view k (group_out w (names_of entries) k at.files at.plan h) ∙ all_alike w u (view_in folder)
    (moves_of (step_at stamp entries folder)) at.alike k h)

pub made_cleared : (w : List ℕ → Bool) (stamp : Stamp) (entries : List GroupEntry) (folder : Folder) (u v : View)
    → GroupAt w stamp entries folder u → IsMade (sfiles_of (names_of entries)) (step_at stamp entries folder) u v
    → AreAllCleared w (Some u) (Some v)
made_cleared w stamp entries folder u v at made = λ k h. by k h (is_group_working (sfiles_of (names_of entries)) k) refl
  where
    by : (k : List ℕ) → w k ≡ true → (b : Bool) → is_group_working (sfiles_of (names_of entries)) k ≡ b → (v k ≡ None)
        ⊎ (v k ≡ u k)
    by k h true is = made.cleared k is
    by k h false is = inr (made.view k is ∙ other_moved w (moves_of (step_at stamp entries folder)) u k
        (moves_spared w stamp entries folder u at) h)

-- nothing is moved
pub back_shown : (w mine : List ℕ → Bool) (folder : Folder) (u v : View) → ((k : List ℕ) → w k ≡ false → mine k ≡ false)
    → Alike w u (view_in folder) → IsGivenBack mine u v → Alike w v (view_in folder)
back_shown w mine folder u v out alike back = λ k h. back.view k (out k h) ∙ alike k h

pub back_cleared : (w mine : List ℕ → Bool) (u v : View) → IsGivenBack mine u v → AreAllCleared w (Some u) (Some v)
back_cleared w mine u v back = λ k h. by k (mine k) refl
  where
    by : (k : List ℕ) (b : Bool) → mine k ≡ b → (v k ≡ None) ⊎ (v k ≡ u k)
    by k true is = back.cleared k is
    by k false is = inr (back.view k is)

-- some first files are
more_some : (stamp : Stamp) (v : View) (entries : List GroupEntry) → 0 < length entries
    → 0 < length (group_step stamp v entries).more
more_some stamp v entries some =
    let one : length (move_names (group_step stamp v entries).more) ≡ length (names_of entries) =
    ap (λ (ns : List (List ℕ)). length ns) (more_are stamp v entries) in
    let two : length (move_names (group_step stamp v entries).more) ≡ length (group_step stamp v entries).more =
    length-map (group_step stamp v entries).more (λ (x : Move). x.name) in
    let three : length (names_of entries) ≡ length entries = length-map entries (λ (e : GroupEntry). e.name) in
    omega (arith, some, one, two, three)

pub half_shown : (w : List ℕ → Bool) (stamp : Stamp) (entries : List GroupEntry) (folder : Folder) (u v : View)
    → GroupAt w stamp entries folder u → IsHalfMade (sfiles_of (names_of entries)) (step_at stamp entries folder) u v
    → ShowsNext w (step_at stamp entries folder ∷ []) (Some v) (view_in folder)
half_shown w stamp entries folder u v at half = (
  half.whole,
  half.some,
  λ k h.
      half.view k (left_out w (step_at stamp entries folder) (names_of entries) k at.files
      (more_some stamp (view_in folder) entries at.some) (more_are stamp (view_in folder) entries) h)
      ∙ first_all half.whole half.some w u (view_in folder) (moves_of (step_at stamp entries folder)) at.alike k
      (left_false (w k) _ (right_false (is_left_of (step_at stamp entries folder).more k) _ h)),
)

-- the step carries what the folder recovers as
pub group_carried : (w : List ℕ → Bool) (stamp : Stamp) (entries : List GroupEntry) (folder : Folder) (u : View)
    → GroupAt w stamp entries folder u → ArePlain (names_of entries) → RecoversAs (view_in folder) u
    → RecoversAs (view_in (step_in folder (step_at stamp entries folder)))
    (all_moved u (moves_of (step_at stamp entries folder)))
group_carried w stamp entries folder u at plain recovers =
    let t : NamedStep = step_at stamp entries folder in
    subst (λ (x : View). RecoversAs x (all_moved u (moves_of t))) (sym (all_view folder (moves_of t)
    ∙ moves_are stamp (view_in folder) (view_in folder) entries))
    (subst (λ (x : View). RecoversAs (all_moved (view_in folder) t.more) x)
    (sym (moves_are stamp (view_in folder) u entries)) (by (free_or_still stamp (view_in folder) entries)))
  where
    by : (view_in folder intent_file ≡ None) ⊎ ((x : View) → all_moved x (step_at stamp entries folder).more ≡ x)
        → RecoversAs (all_moved (view_in folder) (step_at stamp entries folder).more)
        (all_moved u (step_at stamp entries folder).more)
    by (inl none) =
        all_carried w (step_at stamp entries folder).more (view_in folder) u at.spares
        (more_fit stamp (view_in folder) entries) (subst ArePlain (sym (more_are stamp (view_in folder) entries))
        plain) at.alike recovers none
    by (inr still) = subst (λ (x : View). RecoversAs x (all_moved u (step_at stamp entries folder).more))
        (sym (still (view_in folder))) (subst (λ (x : View). RecoversAs (view_in folder) x) (sym (still u)) recovers)
